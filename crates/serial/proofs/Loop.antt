-- A row of a routine's own commands: what is known of the command that is met, and what each way through the loop leads to. Assumes nothing.
use mathlib.Core.List.{List}
use mathlib.Core.Path.{◌≡◌, refl, sym, ◌∙◌, ap}
use Prim.Native.Nat.{ℕ, ◌+◌, ◌-◌, ◌≤◌, ◌<◌}
use native.Mathlib.Omega.{arith}
use lib.ListN.{length, get_or, length-set}
use Rattle.command.specs.declared.Command.{Command}
use Rattle.command.specs.Command.{decoded_at, five_at}
use Rattle.command.specs.Weight.{weight_of}
use Rattle.image.specs.Layout.{arguments_of}
use Rattle.image.proofs.Accepted.{accepted}
use Rattle.window.specs.declared.Window.{Window}
use Rattle.std.specs.Prelude.{Option, Some, None}
use Rattle.window.specs.Rights.{share_at, rejoined}
use Rattle.window.proofs.Laws.{share-made, share-means}
use Rattle.stacklets.specs.Frames.{slot_of}
use Rattle.thread.specs.declared.Effect.{Effect}
use Rattle.thread.specs.declared.Effect.TheVariants.{Faults, Sets, Loads, Stores, Goes, Continues, Lforks, Forks, Joins, Suspends, Yields, Returns, Shares}
use Rattle.thread.specs.Effect.{effect_of}
use Rattle.thread.specs.Bytes.{bytes_by}
use Rattle.thread.specs.View.{context_of}
use Rattle.thread.specs.Thread.{is_pending}
use Rattle.thread.specs.Job.{Job, GoodJob}
use Rattle.thread.proofs.Widths.{bytes_below}
use Rattle.serial.specs.declared.Routine.{Routine}
use Rattle.serial.specs.declared.Ask.{Ask}
use Rattle.serial.specs.declared.Ask.TheVariants.{GoOn, Join, Call, Return, Share}
use Rattle.serial.specs.declared.answer.Stop.{Stop}
use Rattle.serial.specs.Answer.{number_of_stop}
use Rattle.std.specs.Prelude.{Result, Ok, Err}
use Rattle.serial.specs.Serial.{Ended, done, stopped, weight_at, next_effect, carried, call_from}
use Rattle.serial.specs.Steps.{open_at, Padded, asked_of, slots_after, memory_after, GoodRoutine, InReach, Far, IsFork}
use Rattle.serial.proofs.CommandMet.{met, weighs, byte-few, place_inside, next_small, next_of}
use Rattle.serial.proofs.Turns.{Sharing, wide-here, turn-22, turn-goes, turn-joins, turn-stops, turn-returns, turn-calls, turn-shares}

length-after : (m : List ℕ) (e : Effect) → length (memory_after m e) ≡ length m
unfolding memory_after
length-after m (Faults x) = refl
length-after m (Sets d v) = refl
length-after m (Loads d a) = refl
length-after m (Stores a v) = length-set m (a - 32) v
length-after m (Goes t) = refl
length-after m Continues = refl
length-after m (Lforks r d a e) = refl
length-after m (Forks r d a e) = refl
length-after m Joins = refl
length-after m Suspends = refl
length-after m Yields = refl
length-after m (Returns v) = refl
length-after m (Shares x) = refl

-- the command that is met, as the code reads it
module _ (j : Job) (l : Routine) {code : ℕ} (code_is : code ≡ get_or j.starts l.routine 0) where
  pub place-met : GoodJob j → GoodRoutine j l → code + l.position < 4096
  place-met good well = rw code_is (omega (arith, place_inside j good l well, (accepted j.image good.image).size))

  module _ {padded : List ℕ} (zeros : Padded j.image padded) {five : List ℕ} (read : five ≡ five_at padded (code + l.position)) where
    five-are : five ≡ five_at j.image (code + l.position)
    five-are = read ∙ simp zeros.same

    pub byte-met : GoodJob j → GoodRoutine j l → get_or five 0 0 < length j.weights
    byte-met good well = rw (five-are, code_is) (byte-few j good l well)

    pub cost-met : {weights : List ℕ} → weights ≡ j.weights → {cost : ℕ} → cost ≡ weight_of weights (get_or five 0 0) → cost ≡ weight_at j l
    cost-met w c = c ∙ rw (w, five-are, code_is)

    pub effect-met : {command : Command} → command ≡ decoded_at five 0 → {e : Effect}
        → e ≡ effect_of (arguments_of j.image) (context_of (slot_of l.slots 0) (is_pending l.pending) l.window) command → e ≡ next_effect j l
    unfolding next_effect
    effect-met c x = x ∙ rw (c, five-are, code_is)

module _ {j : Job} {n : ℕ} {whole : Ended} {l : Routine} {m : List ℕ} {left cost : ℕ} (far : Far j n whole l m left) (cost-is : cost ≡ weight_at j l) where
  pub some-cost : 1 ≤ cost
  some-cost = rw cost-is (weighs j far.job l far.routine)

  pub unpaid : left < cost → stopped 22 m (j.allowance - left) ≡ whole
  unpaid h = turn-22 j n l m (j.allowance - left) far.job far.routine (omega (arith, cost-is, far.most)) ∙ far.is

-- a command's weight, which is paid for, and its effect
pub record Met (j : Job) (n : ℕ) (whole : Ended) (l : Routine) (m : List ℕ) (left cost : ℕ) (e : Effect) : Type 0 where
  pub far : Far j n whole l m left
  pub weight : cost ≡ weight_at j l
  pub paid : cost ≤ left
  pub effect : e ≡ next_effect j l

-- what the code has once the effect is carried out: what it leaves to the run, the slots and the memory words
pub record Acted (j : Job) (n : ℕ) (whole : Ended) (l : Routine) (m : List ℕ) (left cost : ℕ) (e : Effect) (k : Result Ask Stop) (slots' m' : List ℕ) : Type 0 where
  pub met : Met j n whole l m left cost e
  pub asked : k ≡ asked_of e l.position
  pub slots : slots' ≡ slots_after j.parameters m l.slots e
  pub memory : m' ≡ memory_after m e

module _ {j : Job} {n : ℕ} {whole : Ended} {l : Routine} {m : List ℕ} {left cost : ℕ} {e : Effect} (x : Met j n whole l m left cost e) where
  paid-weight : weight_at j l ≤ j.allowance - (j.allowance - left)
  paid-weight = omega (arith, x.weight, x.paid, x.far.most)

  pub reach : (length j.parameters ≡ 32) × (length m ≡ 992) × InReach e × (l.position + bytes_by e < 65536)
  reach =
      let g = x.far.job in
      let w = x.far.routine in (
        g.parameters,
        x.far.memory,
        rw x.effect (met j g l w).reach,
        bytes_below l.position _ 65536 e (wide-here j n l m (j.allowance - left) g w paid-weight e x.effect) (next_small j g l w),
      )

module _ {j : Job} {n : ℕ} {whole : Ended} {l : Routine} {m : List ℕ} {left cost : ℕ} {e : Effect} {k : Result Ask Stop} {slots m' : List ℕ}
    (t : Acted j n whole l m left cost e k slots m') where
  -- the units so far
  abbrev u : ℕ
  u = j.allowance - left

  far : Far j n whole l m left
  far = t.met.far

  good : GoodJob j
  good = far.job

  well : GoodRoutine j l
  well = far.routine

  paid : weight_at j l ≤ j.allowance - u
  paid = paid-weight t.met

  pub same_length : length m' ≡ 992
  same_length = ap length t.memory ∙ length-after m e ∙ far.memory

  behind : j.allowance - (left - cost) ≡ u + weight_at j l
  behind = omega (arith, t.met.weight, t.met.paid, far.most)

  -- the run goes on from another routine
  far-on : (l' : Routine) → (call_from j n l' (memory_after m e) (u + weight_at j l) ≡ call_from j n l m u) × GoodRoutine j l'
      → Far j n whole l' m' (left - cost)
  far-on l' x = record {
    job = good;
    routine = x.1;
    memory = same_length;
    most = omega (arith, far.most);
    is = rw (behind, t.memory) (x.0 ∙ far.is);
  }

  pub goes-again : {p : ℕ} → k ≡ Ok (GoOn p) → Far j n whole (open_at l.routine p l.pending l.window slots) m' (left - cost)
  goes-again {p} h = far-on _ (rw t.slots (turn-goes j n l m u good well paid e t.met.effect p (sym t.asked ∙ h)))

  pub join-fits : k ≡ Ok Join → l.position + 1 < 65536
  join-fits h = omega (arith, (turn-joins j n l m u good well paid e t.met.effect (sym t.asked ∙ h)).2, next_small j good l well)

  pub joins-on : k ≡ Ok Join → Far j n whole (open_at l.routine (l.position + 1) 0 (rejoined l.window) slots) m' (left - cost)
  joins-on h =
      let x = turn-joins j n l m u good well paid e t.met.effect (sym t.asked ∙ h) in
      far-on _ (rw t.slots (x.0, x.1))

  pub stops-run : {by : Stop} → k ≡ Err by → stopped (number_of_stop by) m' u ≡ whole
  stops-run {by} h = rw t.memory (turn-stops j n l m u good well paid e t.met.effect by (sym t.asked ∙ h) ∙ far.is)

  pub returns-run : {v : ℕ} → k ≡ Ok (Return v) → done v m' (j.allowance - (left - cost)) ≡ whole
  returns-run {v} h = rw (t.memory, behind) (turn-returns j n l m u good well paid e t.met.effect v (sym t.asked ∙ h) ∙ far.is)

  -- the ceiling goes down
  module _ {s : ℕ} (h : k ≡ Ok (Share s)) where
    shared-turn : (call_from j n l m u ≡ carried j (call_from j) n l m u e) × Sharing j n l m u s e
    shared-turn = turn-shares j n l m u good well paid e t.met.effect s (sym t.asked ∙ h)

    pub share-fits : l.position + 2 < 65536
    share-fits = omega (arith, shared-turn.1.two, next_small j good l well)

    -- s is in range
    pub share-good : share_at l.window s ≡ None → ⊥
    share-good q =
        let x = share-made l.window s shared-turn.1.asks.low shared-turn.1.asks.high in
        let z : ◌≡◌ {A = ℕ} 0 1 = cc in
        omega arith

    pub shares-on : {o : Option Window} → o ≡ share_at l.window s → {w : Window} → o ≡ Some w
        → Far j n whole (open_at l.routine (l.position + 2) l.pending w slots) m' (left - cost)
    shares-on made is =
        let next : l.position + 2 ≡ next_of j l = omega (arith, shared-turn.1.two) in
        rw ((share-means l.window s _ (sym made ∙ is)).is-rest, next)
        (far-on _ (rw t.slots (sym (shared-turn.0 ∙ shared-turn.1.leads.is), shared-turn.1.leads.good)))

  -- a child runs first: slots and memory are as they were
  module _ {c r d a : ℕ} (h : k ≡ Ok (Call c r d a)) where
    asks : asked_of e l.position ≡ Ok (Call c r d a)
    asks = sym t.asked ∙ h

    same-slots : slots ≡ l.slots
    same-slots = t.slots ∙ (turn-calls j n l m u good well paid e t.met.effect c r d a asks).1.slots

    same_memory : m' ≡ m
    same_memory = t.memory ∙ (turn-calls j n l m u good well paid e t.met.effect c r d a asks).1.memory

    pub at_fork : Far j n whole (open_at l.routine l.position l.pending l.window slots) m' left
        × IsFork j (open_at l.routine l.position l.pending l.window slots) left
        (record { cut = c; routine = r; result = d; first = a; weight = cost })
    at_fork = rw (same-slots, same_memory) (far, record { weight = t.met.weight; paid = t.met.paid; asked = rw t.met.effect at asks })
