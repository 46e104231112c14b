-- One turn of the loop over a routine's commands, by what the command's effect leaves to the run: the run goes on from where the code goes
-- on, or ends as the code ends. Assumes nothing.
use mathlib.Core.Bool.{cond}
use mathlib.Core.List.{List}
use mathlib.Core.Path.{◌≡◌, refl, sym, ◌∙◌, ap, subst}
use Prim.Native.Nat.{ℕ, ◌+◌, ◌-◌, ◌≤◌, ◌<◌}
use native.Mathlib.Omega.{arith}
use borrow.Author.Tests.{lt-ltb, le-ltb}
use Rattle.command.specs.Command.{width_of}
use Rattle.image.specs.Layout.{slots_of}
use Rattle.window.specs.Rights.{child_of, sharing_of, rejoined}
use Rattle.thread.specs.declared.Effect.{Effect}
use Rattle.thread.specs.declared.Effect.TheVariants.{Faults, Sets, Loads, Stores, Goes, Continues, Lforks, Forks, Joins, Suspends, Yields, Returns, Shares}
use Rattle.thread.specs.Job.{Job, GoodJob, byte_at}
use Rattle.met.proofs.CommandMet.{ForkMet, ShareMet}
use Rattle.thread.proofs.Widths.{Widened}
use Rattle.thread.specs.Effect.{asked}
use Rattle.serial.specs.declared.Routine.{Routine}
use Rattle.serial.specs.declared.Ask.{Ask}
use Rattle.serial.specs.declared.Ask.TheVariants.{GoOn, Join, Call, Return, Share}
use Rattle.serial.specs.declared.answer.Stop.{Stop}
use Rattle.serial.specs.declared.answer.Stop.TheVariants.{Fault}
use Rattle.serial.specs.Answer.{number_of_stop}
use Rattle.std.specs.Prelude.{Result, Ok, Err}
use Rattle.serial.specs.Serial.{done, stopped, assigned, advanced, forked, started_on, arguments_from, weight_at, next_effect, fork_called, carried, call_from}
use Rattle.serial.specs.Steps.{open_at, asked_of, slots_after, memory_after, GoodRoutine}
use Rattle.serial.proofs.CommandMet.{Next, next-met, met, Known, width-met}
use Rattle.serial.proofs.Unrolled.{unrolled}

-- a number for each case, by which two are told apart
kind : Result Ask Stop → ℕ
kind (Ok (GoOn p)) = 0
kind (Ok Join) = 1
kind (Ok (Call c r d a)) = 2
kind (Ok (Return v)) = 3
kind (Ok (Share x)) = 4
kind (Err by) = 5

unlike : {A : Type 0} (x y : Result Ask Stop) → x ≡ y → (kind x ≡ kind y → ⊥) → A
unlike x y e f = absurd (f (ap kind e))

same-go : (p q : ℕ) → ◌≡◌ {A = Result Ask Stop} (Ok (GoOn p)) (Ok (GoOn q)) → p ≡ q
same-go p q h = cc

same-call : (c r d a c' r' d' a' : ℕ) → ◌≡◌ {A = Result Ask Stop} (Ok (Call c r d a)) (Ok (Call c' r' d' a')) → (c ≡ c') × (r ≡ r') × (d ≡ d') × (a ≡ a')
same-call c r d a c' r' d' a' h = (cc, cc, cc, cc)

same_stop : (x y : Stop) → ◌≡◌ {A = Result Ask Stop} (Err x) (Err y) → x ≡ y
same_stop x y h = cc

same-return : (x y : ℕ) → ◌≡◌ {A = Result Ask Stop} (Ok (Return x)) (Ok (Return y)) → x ≡ y
same-return x y h = cc

same-share : (x y : ℕ) → ◌≡◌ {A = Result Ask Stop} (Ok (Share x)) (Ok (Share y)) → x ≡ y
same-share x y h = cc

-- the position that the code goes on at is the one behind the command
behind : (p i width next : ℕ) → ◌≡◌ {A = Result Ask Stop} (Ok (GoOn (p + i))) (Ok (GoOn next)) → width ≡ i → next ≡ p + width
behind p i width next h e = sym (same-go (p + i) next h) ∙ ap (λ z. p + z) (sym e)

module _ (j : Job) (n : ℕ) (l : Routine) (m : List ℕ) (u : ℕ) where
  abbrev width : ℕ
  width = width_of (byte_at j l.routine l.position)

  abbrev after : Effect → List ℕ
  after e = slots_after j.parameters m l.slots e

  -- the run goes on from a good routine
  pub record Leads (e : Effect) (l' : Routine) : Type 0 where
    pub is : carried j (call_from j) n l m u e ≡ call_from j n l' (memory_after m e) (u + weight_at j l)
    pub good : GoodRoutine j l'

  pub goes : (e : Effect) (next : ℕ) → asked_of e l.position ≡ Ok (GoOn next) → Widened width e → Next j l e
      → Leads e (open_at l.routine next l.pending l.window (after e))
  unfolding asked_of carried slots_after memory_after kind
  goes (Faults x) next h k g = unlike _ _ h (λ z. omega arith)
  goes (Sets d v) next h k g = rw (behind l.position 4 width next h k.is) (record { is = refl; good = g })
  goes (Loads d a) next h k g = rw (behind l.position 3 width next h k.is) (record { is = refl; good = g _ })
  goes (Stores a v) next h k g = rw (behind l.position 3 width next h k.is) (record { is = refl; good = g })
  goes (Goes t) next h k g = rw (sym (same-go t next h)) (record { is = refl; good = g })
  goes Continues next h k g = rw (behind l.position 4 width next h k.is) (record { is = refl; good = g })
  goes (Lforks r d a e) next h k g = unlike _ _ h (λ z. omega arith)
  goes (Forks r d a e) next h k g = unlike _ _ h (λ z. omega arith)
  goes Joins next h k g = unlike _ _ h (λ z. omega arith)
  goes Suspends next h k g = rw (behind l.position 1 width next h k.is) (record { is = refl; good = g })
  goes Yields next h k g = rw (behind l.position 1 width next h k.is) (record { is = refl; good = g })
  goes (Returns v) next h k g = unlike _ _ h (λ z. omega arith)
  goes (Shares x) next h k g = unlike _ _ h (λ z. omega arith)

  pub joins : (e : Effect) → asked_of e l.position ≡ Ok Join → Widened width e → Next j l e
      → (width ≡ 1) × (Leads e (open_at l.routine (l.position + width) 0 (rejoined l.window) (after e)))
  unfolding asked_of carried slots_after memory_after kind
  joins (Faults x) h k g = unlike _ _ h (λ z. omega arith)
  joins (Sets d v) h k g = unlike _ _ h (λ z. omega arith)
  joins (Loads d a) h k g = unlike _ _ h (λ z. omega arith)
  joins (Stores a v) h k g = unlike _ _ h (λ z. omega arith)
  joins (Goes t) h k g = unlike _ _ h (λ z. omega arith)
  joins Continues h k g = unlike _ _ h (λ z. omega arith)
  joins (Lforks r d a e) h k g = unlike _ _ h (λ z. omega arith)
  joins (Forks r d a e) h k g = unlike _ _ h (λ z. omega arith)
  joins Joins h k g = (k.is, record { is = refl; good = g })
  joins Suspends h k g = unlike _ _ h (λ z. omega arith)
  joins Yields h k g = unlike _ _ h (λ z. omega arith)
  joins (Returns v) h k g = unlike _ _ h (λ z. omega arith)
  joins (Shares x) h k g = unlike _ _ h (λ z. omega arith)

  pub stops : (e : Effect) (by : Stop) → asked_of e l.position ≡ Err by → carried j (call_from j) n l m u e ≡ stopped (number_of_stop by) (memory_after m e) u
  unfolding asked_of carried memory_after kind
  stops (Faults y) x h = ap (λ z. stopped (number_of_stop z) m u) (same_stop (Fault y) x h)
  stops (Sets d v) x h = unlike _ _ h (λ z. omega arith)
  stops (Loads d a) x h = unlike _ _ h (λ z. omega arith)
  stops (Stores a v) x h = unlike _ _ h (λ z. omega arith)
  stops (Goes t) x h = unlike _ _ h (λ z. omega arith)
  stops Continues x h = unlike _ _ h (λ z. omega arith)
  stops (Lforks r d a e) x h = unlike _ _ h (λ z. omega arith)
  stops (Forks r d a e) x h = unlike _ _ h (λ z. omega arith)
  stops Joins x h = unlike _ _ h (λ z. omega arith)
  stops Suspends x h = unlike _ _ h (λ z. omega arith)
  stops Yields x h = unlike _ _ h (λ z. omega arith)
  stops (Returns v) x h = unlike _ _ h (λ z. omega arith)
  stops (Shares y) x h = unlike _ _ h (λ z. omega arith)

  pub returns : (e : Effect) (v : ℕ) → asked_of e l.position ≡ Ok (Return v)
      → carried j (call_from j) n l m u e ≡ done v (memory_after m e) (u + weight_at j l)
  unfolding asked_of carried memory_after kind
  returns (Faults y) v h = unlike _ _ h (λ z. omega arith)
  returns (Sets d x) v h = unlike _ _ h (λ z. omega arith)
  returns (Loads d a) v h = unlike _ _ h (λ z. omega arith)
  returns (Stores a x) v h = unlike _ _ h (λ z. omega arith)
  returns (Goes t) v h = unlike _ _ h (λ z. omega arith)
  returns Continues v h = unlike _ _ h (λ z. omega arith)
  returns (Lforks r d a e) v h = unlike _ _ h (λ z. omega arith)
  returns (Forks r d a e) v h = unlike _ _ h (λ z. omega arith)
  returns Joins v h = unlike _ _ h (λ z. omega arith)
  returns Suspends v h = unlike _ _ h (λ z. omega arith)
  returns Yields v h = unlike _ _ h (λ z. omega arith)
  returns (Returns x) v h = ap (λ z. done z m (u + weight_at j l)) (same-return x v h)
  returns (Shares x) v h = unlike _ _ h (λ z. omega arith)

  -- what a share leads to: the run goes on from a good routine behind it, in the window with its new ceiling, and what it asks for
  pub record Sharing (x : ℕ) (e : Effect) : Type 0 where
    pub leads : Leads e (open_at l.routine (l.position + width) l.pending (sharing_of l.window x) (after e))
    pub asks : ShareMet l.window x
    pub two : width ≡ 2

  -- what a fork leads to: the run's equation, what it asks for, and good routines; slots and memory are as they were
  pub record Calls (c r d a : ℕ) (e : Effect) : Type 0 where
    pub is : carried j (call_from j) n l m u e ≡ fork_called j (call_from j) n l (asked r d a c) m u
    pub asks : ForkMet j.image (slots_of j.image l.routine) l.window r d a c
    pub child : GoodRoutine j (started_on r (arguments_from j l r a) (child_of l.window c))
    pub parent : (v : ℕ) → GoodRoutine j (assigned d v (advanced j (forked d c l)))
    pub five : width ≡ 5
    pub slots : after e ≡ l.slots
    pub memory : memory_after m e ≡ m

  by-fork : (e : Effect) (c' r' d' a' c r d a : ℕ) → (c' ≡ c) × (r' ≡ r) × (d' ≡ d) × (a' ≡ a) → Calls c' r' d' a' e → Calls c r d a e
  by-fork e c' r' d' a' c r d a q x = rw (← q.0, ← q.1, ← q.2, ← q.3) x

  module _ (good : GoodJob j) (g : GoodRoutine j l) where
    calls : (e : Effect) (c r d a : ℕ) → asked_of e l.position ≡ Ok (Call c r d a) → Widened width e → Known j good l g e → Next j l e
        → Calls c r d a e
    unfolding asked_of carried slots_after memory_after kind
    calls (Faults y) c r d a h w k x = unlike _ _ h (λ z. omega arith)
    calls (Sets i v) c r d a h w k x = unlike _ _ h (λ z. omega arith)
    calls (Loads i b) c r d a h w k x = unlike _ _ h (λ z. omega arith)
    calls (Stores b v) c r d a h w k x = unlike _ _ h (λ z. omega arith)
    calls (Goes t) c r d a h w k x = unlike _ _ h (λ z. omega arith)
    calls Continues c r d a h w k x = unlike _ _ h (λ z. omega arith)
    calls (Lforks r' d' a' c') c r d a h w k x = by-fork (Lforks r' d' a' c') c' r' d' a' c r d a (same-call _ _ _ _ _ _ _ _ h)
        (record { is = refl; asks = k.told.facts.0; child = x.0; parent = x.1; five = w.is; slots = refl; memory = refl })
    calls (Forks r' d' a' c') c r d a h w k x = by-fork (Forks r' d' a' c') c' r' d' a' c r d a (same-call _ _ _ _ _ _ _ _ h)
        (record { is = refl; asks = k.told.facts.0; child = x.0; parent = x.1; five = w.is; slots = refl; memory = refl })
    calls Joins c r d a h w k x = unlike _ _ h (λ z. omega arith)
    calls Suspends c r d a h w k x = unlike _ _ h (λ z. omega arith)
    calls Yields c r d a h w k x = unlike _ _ h (λ z. omega arith)
    calls (Returns v) c r d a h w k x = unlike _ _ h (λ z. omega arith)
    calls (Shares y) c r d a h w k x = unlike _ _ h (λ z. omega arith)

    shares : (e : Effect) (x : ℕ) → asked_of e l.position ≡ Ok (Share x) → Widened width e → Known j good l g e → Next j l e → Sharing x e
    unfolding asked_of carried slots_after memory_after kind
    shares (Faults y) x h w k s = unlike _ _ h (λ z. omega arith)
    shares (Sets d v) x h w k s = unlike _ _ h (λ z. omega arith)
    shares (Loads d a) x h w k s = unlike _ _ h (λ z. omega arith)
    shares (Stores a v) x h w k s = unlike _ _ h (λ z. omega arith)
    shares (Goes t) x h w k s = unlike _ _ h (λ z. omega arith)
    shares Continues x h w k s = unlike _ _ h (λ z. omega arith)
    shares (Lforks r d a e) x h w k s = unlike _ _ h (λ z. omega arith)
    shares (Forks r d a e) x h w k s = unlike _ _ h (λ z. omega arith)
    shares Joins x h w k s = unlike _ _ h (λ z. omega arith)
    shares Suspends x h w k s = unlike _ _ h (λ z. omega arith)
    shares Yields x h w k s = unlike _ _ h (λ z. omega arith)
    shares (Returns v) x h w k s = unlike _ _ h (λ z. omega arith)
    shares (Shares y) x h w k s = subst (λ z. Sharing z (Shares y)) (same-share y x h)
        (record { leads = record { is = refl; good = s }; asks = k.told.facts.0; two = w.is })

    -- the run where the command is not paid for, and where it is
    pub turn-22 : j.allowance - u < weight_at j l → stopped 22 m u ≡ call_from j n l m u
    turn-22 h = sym (unrolled j good n l m u g ∙ ap (λ b. cond b (stopped 22 m u) (carried j (call_from j) n l m u (next_effect j l)))
        (lt-ltb (j.allowance - u) (weight_at j l) h))

    module _ (h : weight_at j l ≤ j.allowance - u) where
      after_test : call_from j n l m u ≡ carried j (call_from j) n l m u (next_effect j l)
      after_test = unrolled j good n l m u g ∙ ap (λ b. cond b (stopped 22 m u) (carried j (call_from j) n l m u (next_effect j l)))
          (le-ltb (j.allowance - u) (weight_at j l) h)

      module _ (e : Effect) (is : e ≡ next_effect j l) where
        turned : call_from j n l m u ≡ carried j (call_from j) n l m u e
        turned = after_test ∙ ap (carried j (call_from j) n l m u) (sym is)

        known : Known j good l g e
        known = rw is (met j good l g)

        next : Next j l e
        next = rw is (next-met j good l g)

        pub wide-here : Widened width e
        wide-here = rw is (width-met j good l g)

        -- the run, by what the effect leaves to it
        pub turn-goes : (p : ℕ) → asked_of e l.position ≡ Ok (GoOn p)
            → (call_from j n (open_at l.routine p l.pending l.window (after e)) (memory_after m e) (u + weight_at j l) ≡ call_from j n l m u)
            × GoodRoutine j (open_at l.routine p l.pending l.window (after e))
        turn-goes p q = let x = goes e p q wide-here next in (sym (turned ∙ x.is), x.good)

        pub turn-joins : asked_of e l.position ≡ Ok Join
            → (call_from j n (open_at l.routine (l.position + 1) 0 (rejoined l.window) (after e)) (memory_after m e) (u + weight_at j l) ≡ call_from j n l m u)
            × GoodRoutine j (open_at l.routine (l.position + 1) 0 (rejoined l.window) (after e)) × (width ≡ 1)
        turn-joins q =
            let x = joins e q wide-here next in
            subst (λ i. (call_from j n (open_at l.routine (l.position + i) 0 (rejoined l.window) (after e)) (memory_after m e) (u + weight_at j l) ≡ call_from j n l m u)
            × GoodRoutine j (open_at l.routine (l.position + i) 0 (rejoined l.window) (after e)) × (width ≡ i)) x.0
            (sym (turned ∙ x.1.is), x.1.good, refl)

        pub turn-stops : (by : Stop) → asked_of e l.position ≡ Err by → stopped (number_of_stop by) (memory_after m e) u ≡ call_from j n l m u
        turn-stops x q = sym (turned ∙ stops e x q)

        pub turn-returns : (v : ℕ) → asked_of e l.position ≡ Ok (Return v) → done v (memory_after m e) (u + weight_at j l) ≡ call_from j n l m u
        turn-returns v q = sym (turned ∙ returns e v q)

        pub turn-calls : (c r d a : ℕ) → asked_of e l.position ≡ Ok (Call c r d a)
            → (call_from j n l m u ≡ fork_called j (call_from j) n l (asked r d a c) m u) × Calls c r d a e
        turn-calls c r d a q = let x = calls e c r d a q wide-here known next in (turned ∙ x.is, x)

        pub turn-shares : (x : ℕ) → asked_of e l.position ≡ Ok (Share x)
            → (call_from j n l m u ≡ carried j (call_from j) n l m u e) × Sharing x e
        turn-shares x q = (turned, shares e x q wide-here known next)
