-- An open routine of the serial run as the theory's thread: the command it meets (effect, weight, position behind it) is what the thread
-- does, and behind each effect it is the thread that the theory goes on with. Assumes a good job and a good routine.
use mathlib.Core.Bool.{true, cond}
use mathlib.Core.List.{List}
use mathlib.Core.Path.{◌≡◌, sym, ◌∙◌, ap, fun_ext}
use Prim.Native.Nat.{ℕ, ◌+◌, ◌≤◌, ◌<◌}
use native.Mathlib.Decide.{dec_lt}
use native.Mathlib.Omega.{arith}
use borrow.Author.Tests.{lt-ltb, le-ltb}
use lib.Dec.{ltb}
use lib.ListN.{get_or, length, take, drop, length-take, get_or-eq_default}
use lib.Seq.{get_or-take, get_or-drop}
use Rattle.command.specs.Command.{decoded_at, width_of}
use Rattle.command.specs.Weight.{weight_of}
use Rattle.image.specs.Layout.{arguments_of, start_of}
use Rattle.window.specs.declared.Window.{Window}
use Rattle.window.specs.Rights.{child_of, rest_of, sharing_of, rejoined}
use Rattle.window.proofs.Instance.{windows}
use Rattle.stacklets.specs.Frames.{slot_of}
use Rattle.forkjoin.proofs.Update.{update}
use Rattle.forkjoin.proofs.Arrays.{listed, listed-set}
use Rattle.thread.specs.Effect.{effect_of}
use Rattle.thread.specs.View.{context_of}
use Rattle.thread.specs.Thread.{is_pending}
use Rattle.thread.specs.Job.{Job, GoodJob, offset_at, byte_at}
use Rattle.thread.proofs.ThreadState.{ThreadState, effect, onward, started, behind-fork, behind-join, behind-share, deliver}
use Rattle.thread.proofs.MarkedWindows.{window-tests}
use Rattle.serial.specs.declared.Routine.{Routine}
use Rattle.serial.specs.Serial.{assigned, advanced, joined, shared, forked, started_on, arguments_from, weight_at, next_effect}
use Rattle.serial.specs.Steps.{GoodRoutine, first_slots}
use Rattle.serial.proofs.CommandMet.{next_of, length-first}
use Rattle.serial.proofs.FirstSlots.{first-at}
use Rattle.simulation.proofs.ImageCode.{is_command, is-command, first_byte, fetch-is, weight_is}
use Rattle.simulation.proofs.JobCode.{weight_in, code_of}
use Rattle.simulation.proofs.PendingSlots.{none-pending, more-pending}

-- an open routine to the theory
abbrev pub state_of : Routine → ThreadState Window
state_of l = record {
  routine = l.routine;
  position = l.position;
  slots = listed l.slots 0;
  pending = is_pending l.pending;
  window = l.window;
}

-- the first slots are the arguments, of which there are 16 at most, then zeros
pub first-listed : (xs : List ℕ) → length xs ≤ 16 → listed (first_slots xs) 0 ≡ listed xs 0
first-listed xs few = fun_ext {f = listed (first_slots xs) 0} {g = listed xs 0} (λ k. go k (dec_lt k 16))
  where
    go : (k : ℕ) → Dec (k < 16) → get_or (first_slots xs) k 0 ≡ get_or xs k 0
    go k (yes h) = first-at xs k h
    go k (no h) = get_or-eq_default (first_slots xs) 0 {n = k} (omega (arith, length-first xs)) ∙ sym (get_or-eq_default xs 0 {n = k} (omega arith))

-- n words from a on, then zeros
part-listed : (ws : List ℕ) (a n : ℕ) → listed (take n (drop a ws)) 0 ≡ (λ k. cond (ltb k n) (listed ws 0 (a + k)) 0)
part-listed ws a n = fun_ext {f = listed (take n (drop a ws)) 0} {g = λ k. cond (ltb k n) (listed ws 0 (a + k)) 0} (λ k. go k (dec_lt k n))
  where
    go : (k : ℕ) → Dec (k < n) → get_or (take n (drop a ws)) k 0 ≡ cond (ltb k n) (get_or ws (a + k) 0) 0
    go k (yes h) = rw (lt-ltb k n h) (get_or-take n (drop a ws) k 0 h ∙ get_or-drop a ws k 0)
    go k (no h) = rw (le-ltb k n (omega arith)) (get_or-eq_default (take n (drop a ws)) 0 {n = k} (omega (arith, length-take n (drop a ws))))

slots-listed : (ws : List ℕ) → listed ws 0 ≡ slot_of ws 0
slots-listed ws = fun_ext {f = listed ws 0} {g = slot_of ws 0} (λ k. ap (λ z. get_or ws z 0) (omega arith))

module _ (j : Job) (good : GoodJob j) (l : Routine) (g : GoodRoutine j l) where
  command-here : is_command j.image l.routine l.position ≡ true
  command-here = is-command j.image l.routine l.position g.routine g.position

  offset-here : offset_at j l.routine l.position ≡ start_of j.image l.routine + l.position
  offset-here = ap (λ z. z + l.position) (good.starts l.routine g.routine)

  byte-here : first_byte j.image l.routine l.position ≡ byte_at j l.routine l.position
  byte-here = ap (λ z. get_or j.image z 0) (sym offset-here)

  -- the weight that is charged
  pub weight-here : weight_in j l.routine l.position ≡ weight_at j l
  weight-here = weight_is j.image j.weights l.routine l.position command-here ∙ ap (weight_of j.weights) byte-here

  -- the position behind it
  pub next_here : (code_of j good).next l.routine l.position ≡ next_of j l
  next_here = ap (λ z. l.position + width_of z) byte-here

  -- the effect
  pub effect-here : effect windows window-tests (code_of j good) (state_of l) ≡ next_effect j l
  unfolding next_effect
  effect-here =
      ap (effect_of (arguments_of j.image) (context_of (listed l.slots 0) (is_pending l.pending) l.window))
      (fetch-is j.image l.routine l.position command-here ∙ ap (decoded_at j.image) (sym offset-here))
      ∙ ap (λ f. effect_of (arguments_of j.image) (context_of f (is_pending l.pending) l.window)
      (decoded_at j.image (offset_at j l.routine l.position))) (slots-listed l.slots)

  -- behind the command
  pub onward-is : onward (code_of j good) (state_of l) (state_of l).slots ≡ state_of (advanced j l)
  onward-is = λ ι. record {
    routine = l.routine;
    position = next_here ι;
    slots = listed l.slots 0;
    pending = is_pending l.pending;
    window = l.window;
  }

  -- with another value in slot d
  pub set_is : (d v : ℕ) → d < 16 → onward (code_of j good) (state_of l) (update (state_of l).slots d v) ≡ state_of (advanced j (assigned d v l))
  set_is d v h = λ ι. record {
    routine = l.routine;
    position = next_here ι;
    slots = sym (listed-set l.slots 0 d v (omega (arith, g.slots))) ι;
    pending = is_pending l.pending;
    window = l.window;
  }

  -- behind a join
  pub join_is : behind-join windows (code_of j good) (state_of l) (state_of l).slots ≡ state_of (advanced j (joined l))
  join_is = λ ι. record {
    routine = l.routine;
    position = next_here ι;
    slots = listed l.slots 0;
    pending = sym none-pending ι;
    window = rejoined l.window;
  }

  -- behind a 0E
  pub share-is : (x : ℕ) → behind-share (code_of j good) (state_of l) (sharing_of l.window x) ≡ state_of (advanced j (shared x l))
  share-is x = λ ι. record {
    routine = l.routine;
    position = next_here ι;
    slots = listed l.slots 0;
    pending = is_pending l.pending;
    window = sharing_of l.window x;
  }

  -- a fork's child
  pub child-is : (r a e : ℕ) → arguments_of j.image r ≤ 16
      → started (code_of j good) r (state_of l).slots a (child_of l.window e) ≡ state_of (started_on r (arguments_from j l r a) (child_of l.window e))
  child-is r a e few = λ ι. record {
    routine = r;
    position = 0;
    slots = sym (first-listed (arguments_from j l r a) (omega (arith, length-take (arguments_of j.image r) (drop a l.slots)))
        ∙ part-listed l.slots a (arguments_of j.image r)) ι;
    pending = sym none-pending ι;
    window = child_of l.window e;
  }

  -- and its parent, with the child's value
  pub parent_is : (d e v : ℕ) → d < 16
      → deliver (behind-fork (code_of j good) (state_of l) (state_of l).slots d (rest_of l.window e)) d v ≡ state_of (assigned d v (advanced j (forked d e l)))
  parent_is d e v h = λ ι. record {
    routine = l.routine;
    position = next_here ι;
    slots = sym (listed-set l.slots 0 d v (omega (arith, g.slots))) ι;
    pending = sym (more-pending l.pending d) ι;
    window = rest_of l.window e;
  }
