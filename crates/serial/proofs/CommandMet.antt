-- What an accepted image tells of the command that an open routine meets, by its effect: the slots and words that it names are there,
-- and an open routine of a good job stays one. Assumes nothing.
use mathlib.Core.Bool.{Bool, true}
use mathlib.Core.List.{List, ◌++◌}
use mathlib.Core.Path.{◌≡◌, ◌∙◌}
use Prim.Native.Nat.{ℕ, ◌+◌, ◌≤◌, ◌<◌}
use native.Mathlib.Decide.{dec_lt}
use native.Mathlib.Omega.{arith}
use lib.ListN.{length, take, replicate, length-set, length-take, length-append, length-replicate, get_or-eq_default}
use Rattle.command.specs.Command.{width_of}
use Rattle.image.specs.Layout.{routine_count, slots_of, arguments_of, code_of}
use Rattle.image.specs.Code.{commands_of, is_start}
use Rattle.image.proofs.Accepted.{accepted}
use Rattle.image.proofs.Laws.{start-good}
use Rattle.window.specs.declared.Window.{Window}
use Rattle.window.specs.Rights.{Fits, child_of}
use Rattle.window.proofs.Laws.{load-in-memory, store-in-memory, child_fits, rest-fits, sharing-fits, rejoined-fits}
use Rattle.stacklets.specs.Frames.{slot_of}
use Rattle.thread.specs.declared.Effect.{Effect}
use Rattle.thread.specs.declared.Effect.TheVariants.{Faults, Sets, Loads, Stores, Goes, Continues, Lforks, Forks, Joins, Suspends, Yields, Returns, Shares}
use Rattle.thread.specs.View.{context_of}
use Rattle.thread.specs.Thread.{is_pending}
use Rattle.thread.specs.Job.{Job, GoodJob, offset_at, byte_at}
use Rattle.met.proofs.CommandMet as command
use Rattle.thread.proofs.EffectFacts.{Guarded}
use Rattle.thread.proofs.Widths.{Widened}
use Rattle.serial.specs.declared.Routine.{Routine}
use Rattle.serial.specs.Serial.{jumped_to, assigned, advanced, joined, shared, forked, started_on, arguments_from, weight_at, next_effect}
use Rattle.serial.specs.Steps.{GoodRoutine, InReach}

-- does a command of the routine start there?
abbrev pub starts : Job → Routine → ℕ → Bool
starts j l p = is_start (commands_of (code_of j.image l.routine)) p

abbrev pub next_of : Job → Routine → ℕ
next_of j l = l.position + width_of (byte_at j l.routine l.position)

pub length-first : (xs : List ℕ) → length (take 16 (xs ++ replicate 16 0)) ≡ 16
length-first xs = simp (length-take, length-append, length-replicate) (omega arith)

module _ (j : Job) (good : GoodJob j) (l : Routine) (g : GoodRoutine j l) where
  pub slots-few : slots_of j.image l.routine ≤ 16
  slots-few = command.slots-few j good l.routine l.position g.routine g.position

  -- each command weighs 1 at least
  pub weighs : 1 ≤ weight_at j l
  weighs = command.weighs j good l.routine l.position g.routine g.position

  -- so its first byte is one of the table's
  pub byte-few : byte_at j l.routine l.position < length j.weights
  byte-few = command.byte-few j good l.routine l.position g.routine g.position

  -- past the image's end there is no command
  pub place_inside : offset_at j l.routine l.position < length j.image
  place_inside = go (dec_lt (offset_at j l.routine l.position) (length j.image))
    where
      go : Dec (offset_at j l.routine l.position < length j.image) → offset_at j l.routine l.position < length j.image
      go (yes h) = h
      go (no h) =
          let z : byte_at j l.routine l.position ≡ 0 = get_or-eq_default j.image 0 (omega arith) in
          let some = rw z at (command.some_bytes j good l.routine l.position g.routine g.position) in
          absurd (omega arith)

  pub next_small : next_of j l < 65536
  next_small = command.next_small j good l.routine l.position g.routine g.position

  -- what a fork asks for
  abbrev pub ForkMet : ℕ → ℕ → ℕ → ℕ → Type 0
  ForkMet r d a e = command.ForkMet j.image (slots_of j.image l.routine) l.window r d a e

  -- what the image tells of an effect of the command that is met
  abbrev Told : Effect → Type 0
  Told e = command.Met j.image (slots_of j.image l.routine) (starts j l) (next_of j l) (slot_of l.slots 0) (is_pending l.pending) l.window e

  told : Told (next_effect j l)
  unfolding next_effect
  told = command.met-here j good l.routine l.position g.routine g.position (slot_of l.slots 0) (is_pending l.pending) l.window

  tested : Guarded (arguments_of j.image) (context_of (slot_of l.slots 0) (is_pending l.pending) l.window) (next_effect j l)
  unfolding next_effect
  tested = command.tested-here j good l.routine l.position g.routine g.position (context_of (slot_of l.slots 0) (is_pending l.pending) l.window)

  -- the effect tells the command's bytes
  pub width-met : Widened (width_of (byte_at j l.routine l.position)) (next_effect j l)
  unfolding next_effect
  width-met = command.width-here j good l.routine l.position g.routine g.position (context_of (slot_of l.slots 0) (is_pending l.pending) l.window)

  in_reach : (e : Effect) → Told e → Guarded (arguments_of j.image) (context_of (slot_of l.slots 0) (is_pending l.pending) l.window) e → InReach e
  in_reach (Faults x) k t = tt
  in_reach (Sets d v) k t = omega (arith, k.facts.0, slots-few)
  in_reach (Loads d a) k t = (omega (arith, k.facts.0, slots-few), load-in-memory l.window a g.window t.facts.1)
  in_reach (Stores a v) k t = store-in-memory l.window a g.window t.facts
  in_reach (Goes t') k t = tt
  in_reach Continues k t = tt
  in_reach (Lforks r d a e) k t = tt
  in_reach (Forks r d a e) k t = tt
  in_reach Joins k t = tt
  in_reach Suspends k t = tt
  in_reach Yields k t = tt
  in_reach (Returns v) k t = tt
  in_reach (Shares x) k t = tt

  -- with that, its slots and words are there
  pub record Known (e : Effect) : Type 0 where
    pub reach : InReach e
    pub told : Told e

  pub met : Known (next_effect j l)
  met = record { reach = in_reach (next_effect j l) told tested; told = told }

-- the routines that are open behind an effect are good
abbrev pub Next : Job → Routine → Effect → Type 0
Next j l (Faults x) = Unit {0}
Next j l (Sets d v) = GoodRoutine j (advanced j (assigned d v l))
Next j l (Loads d a) = (v : ℕ) → GoodRoutine j (advanced j (assigned d v l))
Next j l (Stores a v) = GoodRoutine j (advanced j l)
Next j l (Goes t) = GoodRoutine j (jumped_to t l)
Next j l Continues = GoodRoutine j (advanced j l)
Next j l (Lforks r d a e) = GoodRoutine j (started_on r (arguments_from j l r a) (child_of l.window e))
    × ((v : ℕ) → GoodRoutine j (assigned d v (advanced j (forked d e l))))
Next j l (Forks r d a e) = GoodRoutine j (started_on r (arguments_from j l r a) (child_of l.window e))
    × ((v : ℕ) → GoodRoutine j (assigned d v (advanced j (forked d e l))))
Next j l Joins = GoodRoutine j (advanced j (joined l))
Next j l Suspends = GoodRoutine j (advanced j l)
Next j l Yields = GoodRoutine j (advanced j l)
Next j l (Returns v) = Unit {0}
Next j l (Shares x) = GoodRoutine j (advanced j (shared x l))

module _ (j : Job) (good : GoodJob j) where
  -- a routine at its first command
  pub fresh : (r : ℕ) (xs : List ℕ) (w : Window) → r < routine_count j.image → Fits w → GoodRoutine j (started_on r xs w)
  fresh r xs w h f = record {
    routine = h;
    position = start-good j.image (accepted j.image good.image) r h;
    slots = length-first xs;
    window = f;
  }

  module _ (l : Routine) (g : GoodRoutine j l) where
    moved : (p : ℕ) → starts j l p ≡ true → GoodRoutine j (jumped_to p l)
    moved p h = record { routine = g.routine; position = h; slots = g.slots; window = g.window }

    set-moved : (d v p : ℕ) → starts j l p ≡ true → GoodRoutine j (jumped_to p (assigned d v l))
    set-moved d v p h = record { routine = g.routine; position = h; slots = length-set l.slots d v ∙ g.slots; window = g.window }

    rejoined-moved : (p : ℕ) → starts j l p ≡ true → GoodRoutine j (jumped_to p (joined l))
    rejoined-moved p h = record { routine = g.routine; position = h; slots = g.slots; window = rejoined-fits l.window g.window }

    shared-moved : (x : ℕ) → command.ShareMet l.window x → (p : ℕ) → starts j l p ≡ true → GoodRoutine j (jumped_to p (shared x l))
    shared-moved x s p h = record {
      routine = g.routine;
      position = h;
      slots = g.slots;
      window = sharing-fits l.window x s.low s.high g.window;
    }

    child-good : (r d a e : ℕ) → ForkMet j good l g r d a e → GoodRoutine j (started_on r (arguments_from j l r a) (child_of l.window e))
    child-good r d a e f = fresh r (arguments_from j l r a) (child_of l.window e) f.routine
        (child_fits l.window e f.low f.high g.window)

    parent-good : (r d a e : ℕ) → ForkMet j good l g r d a e → starts j l (next_of j l) ≡ true
        → (v : ℕ) → GoodRoutine j (assigned d v (advanced j (forked d e l)))
    parent-good r d a e f h v = record {
      routine = g.routine;
      position = h;
      slots = length-set l.slots d v ∙ g.slots;
      window = rest-fits l.window e f.low f.high g.window;
    }

    next-good : (e : Effect) → Known j good l g e → Next j l e
    next-good (Faults x) k = tt
    next-good (Sets d v) k = set-moved d v (next_of j l) k.told.facts.1
    next-good (Loads d a) k = λ v. set-moved d v (next_of j l) k.told.facts.1
    next-good (Stores a v) k = moved (next_of j l) k.told.facts
    next-good (Goes t) k = moved t k.told.facts
    next-good Continues k = moved (next_of j l) k.told.facts
    next-good (Lforks r d a e) k = (child-good r d a e k.told.facts.0, parent-good r d a e k.told.facts.0 k.told.facts.1)
    next-good (Forks r d a e) k = (child-good r d a e k.told.facts.0, parent-good r d a e k.told.facts.0 k.told.facts.1)
    next-good Joins k = rejoined-moved (next_of j l) k.told.facts
    next-good Suspends k = moved (next_of j l) k.told.facts
    next-good Yields k = moved (next_of j l) k.told.facts
    next-good (Returns v) k = tt
    next-good (Shares x) k = shared-moved x k.told.facts.0 (next_of j l) k.told.facts.1

    -- behind the command that is met
    pub next-met : Next j l (next_effect j l)
    next-met = next-good (next_effect j l) (met j good l g)
