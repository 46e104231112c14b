-- The next command of a thread in use: what the rules read of it (effect, weight, position behind it) is what the theory's thread does.
-- Assumes a good job, and that every thread in use stands at a command of its routine.
use mathlib.Core.Bool.{true}
use mathlib.Core.List.{List}
use mathlib.Core.Logic.{ite}
use mathlib.Core.Path.{◌≡◌, refl, sym, ◌∙◌, ap}
use Prim.Native.Nat.{ℕ, ◌+◌, ◌<◌}
use native.Mathlib.Decide.{dec_lt}
use lib.ListN.{get_or}
use Rattle.command.specs.Command.{decoded_at, width_of}
use Rattle.command.specs.Weight.{weight_of}
use Rattle.image.specs.Layout.{arguments_of, start_of}
use Rattle.window.proofs.Instance.{windows}
use Rattle.stacklets.specs.Frames.{slot_of}
use Rattle.forkjoin.proofs.Arrays.{frame}
use Rattle.thread.specs.declared.Thread.{Thread}
use Rattle.thread.specs.Effect.{effect_of}
use Rattle.thread.specs.View.{context_of}
use Rattle.thread.specs.Thread.{is_pending}
use Rattle.thread.proofs.ThreadState.{effect}
use Rattle.thread.proofs.MarkedWindows.{window-tests}
use Rattle.met.proofs.Operands.{effect-alike}
use Rattle.rules.specs.State.{Job, State, thread_at}
use Rattle.rules.specs.Turn.{offset_of, byte_of, effect_at}
use Rattle.rules.specs.Sound.{GoodJob, Positioned, Used, size_at}
use Rattle.simulation.proofs.ImageCode.{Stood, stood, is_command, is-command, first_byte, fetch-is, weight_is}
use Rattle.simulation.proofs.JobCode.{weight_in, code_of}
use Rattle.simulation.proofs.StatePool.{thread_of}

-- within its size a frame shows its words
pub frame-slot : (ws : List ℕ) (base n k : ℕ) → k < n → frame ws base n k ≡ slot_of ws base k
frame-slot ws base n k h = go (dec_lt k n)
  where
    go : (o : Dec (k < n)) → ite o (get_or ws (base + k) 0) 0 ≡ get_or ws (base + k) 0
    go (yes _) = refl
    go (no x) = absurd (x h)

module _ (j : Job) (good : GoodJob j) (s : State) (placed : Positioned j s) (t : ℕ) (in_use : Used s t) where
  abbrev h : Thread
  h = thread_at s t

  command-here : is_command j.image h.origin.routine h.position ≡ true
  command-here = is-command j.image h.origin.routine h.position (placed.routine t in_use) (placed.position t in_use)

  pub stands_here : Stood j.image h.origin.routine h.position
  stands_here = stood j.image good.image h.origin.routine h.position (placed.routine t in_use) (placed.position t in_use)

  offset-here : offset_of j h ≡ start_of j.image h.origin.routine + h.position
  offset-here = ap (λ z. z + h.position) (good.starts h.origin.routine (placed.routine t in_use))

  byte-here : first_byte j.image h.origin.routine h.position ≡ byte_of j h
  byte-here = ap (λ z. get_or j.image z 0) (sym offset-here)

  -- the weight that is charged
  pub weight-here : weight_in j h.origin.routine h.position ≡ weight_of j.weights (byte_of j h)
  weight-here = weight_is j.image j.weights h.origin.routine h.position command-here ∙ ap (weight_of j.weights) byte-here

  -- the position behind it
  pub next_here : h.position + width_of (first_byte j.image h.origin.routine h.position) ≡ h.position + width_of (byte_of j h)
  next_here = ap (λ z. h.position + width_of z) byte-here

  -- the effect
  pub effect-here : effect windows window-tests (code_of j good) (thread_of j s.store.words h) ≡ effect_at j s h
  unfolding effect_at
  effect-here =
      ap (effect_of (arguments_of j.image) (context_of (frame s.store.words h.origin.base (size_at j s t)) (is_pending h.family.pending) h.family.window))
      (fetch-is j.image h.origin.routine h.position command-here)
      ∙ effect-alike j.image (size_at j s t) (frame s.store.words h.origin.base (size_at j s t)) (slot_of s.store.words h.origin.base)
      (frame-slot s.store.words h.origin.base (size_at j s t)) (is_pending h.family.pending) h.family.window
      (decoded_at j.image (start_of j.image h.origin.routine + h.position)) stands_here.operands
      ∙ ap (λ z. effect_of (arguments_of j.image) (context_of (slot_of s.store.words h.origin.base) (is_pending h.family.pending) h.family.window) (decoded_at j.image z))
      (sym offset-here)
