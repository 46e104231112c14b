-- What a command has been tested for where it has an effect (`tested`): a fork's result slot is not pending,
-- a return leaves nothing pending, and joins, suspends and yields are these commands. And the first byte of a join. Assumes nothing.
use mathlib.Core.Bool.{Bool, true, false, cond, true≢false}
use mathlib.Core.List.{List, ◌∷◌}
use mathlib.Core.Logic.{◌⊎◌, inl, inr, ⊎_elim}
use mathlib.Core.Path.{◌≡◌, refl, sym, ◌∙◌, ap, subst}
use Prim.Native.Nat.{ℕ, ◌≤◌, ◌<◌}
use native.Mathlib.Omega.{arith}
use lib.Dec.{eqb}
use borrow.Author.Tests.{eqb-true}
use Rattle.command.specs.Command.{decoded, pair}
use Rattle.command.specs.declared.Command.{Command}
use Rattle.command.specs.declared.Command.TheVariants.{Set, Add, Subtract, Load, Store, JumpIfZero, Jump, Lfork, Fork, Join, Suspend, Yield, Return, Share}
use Rattle.image.specs.Layout.{arguments_of}
use Rattle.thread.specs.declared.Effect.{Effect}
use Rattle.thread.specs.declared.Fault.{Fault}
use Rattle.thread.specs.declared.Fault.TheVariants.{SlotPending, CutOutOfRange}
use Rattle.thread.specs.declared.Effect.TheVariants.{Faults, Sets, Loads, Stores, Goes, Continues, Lforks, Forks, Joins, Suspends, Yields, Returns, Shares}
use Rattle.thread.specs.Effect.{IsFault, number_of_fault, Context, run, any_pending, unless_pending, provided, forking, effect_of}
use Rattle.thread.specs.Thread.{is_pending}
use Rattle.thread.proofs.FaultNumbers.{is_fault}
use Rattle.thread.proofs.EffectFacts.{AllClear, all-clear, first-clear}
use Rattle.rules.specs.State.{Job, State, thread_at}
use Rattle.rules.specs.Turn.{effect_at, byte_of}
use Rattle.soundness.proofs.Changes.{pending_at}
use Rattle.soundness.specs.Faults.{share_allowed, command_of, context_at}

module _ (arguments : ℕ → ℕ) (own : Context) where
  -- what has been tested where command c has this effect
  abbrev pub Tests : Command → Effect → Type 0
  Tests c (Faults f) = Unit {0}
  Tests c (Sets d v) = Unit {0}
  Tests c (Loads d a) = Unit {0}
  Tests c (Stores a v) = Unit {0}
  Tests c (Goes t) = Unit {0}
  Tests c Continues = Unit {0}
  Tests c (Lforks r d a e) = own.pending d ≡ false
  Tests c (Forks r d a e) = own.pending d ≡ false
  Tests c Joins = c ≡ Join
  Tests c Suspends = c ≡ Suspend
  Tests c Yields = c ≡ Yield
  Tests c (Returns v) = (k : ℕ) → k < 16 → own.pending k ≡ false
  Tests c (Shares x) = Unit {0}

  -- a record, so that command and effect can be read off it
  pub record Tested (c : Command) (e : Effect) : Type 0 where
    pub facts : Tests c e

  tested-unless : (c : Command) (n : Fault) (ks : List ℕ) (e : Effect) → (AllClear own.pending ks → Tested c e)
      → Tested c (unless_pending n own.pending ks e)
  unfolding unless_pending
  tested-unless c n ks e f = go (any_pending own.pending ks) (λ h. f (all-clear own.pending ks h))
    where
      go : (t : Bool) → (t ≡ false → Tested c e) → Tested c (cond t (Faults n) e)
      go true f = record { facts = tt }
      go false f = f refl

  tested-provided : (c : Command) (t : Bool) (n : Fault) (e : Effect) → Tested c e → Tested c (provided t n e)
  unfolding provided
  tested-provided c true n e f = f
  tested-provided c false n e f = record { facts = tt }

  tested-choice : (c : Command) (t : Bool) (x y : Effect) → Tested c x → Tested c y → Tested c (cond t x y)
  tested-choice c true x y f g = f
  tested-choice c false x y f g = g

  tested-fork : (c : Command) (r d a w : ℕ) (e : Effect) → (own.pending d ≡ false → Tested c e) → Tested c (forking arguments own r d a w e)
  unfolding forking
  tested-fork c r d a w e f =
      tested-unless c _ _ _ (λ none. tested-provided c _ _ _ (f none.0))

  tested : (c : Command) → Tested c (effect_of arguments own c)
  unfolding effect_of
  tested (Set d v) = tested-unless _ _ _ _ (λ none. record { facts = tt })
  tested (Add d a b) = tested-unless _ _ _ _ (λ none. record { facts = tt })
  tested (Subtract d a b) = tested-unless _ _ _ _ (λ none. record { facts = tt })
  tested (Load d a) =
      tested-unless _ _ _ _ (λ none. tested-provided _ _ _ _ (record { facts = tt }))
  tested (Store a b) =
      tested-unless _ _ _ _ (λ none. tested-provided _ _ _ _ (record { facts = tt }))
  tested (JumpIfZero a t) =
      tested-unless _ _ _ _ (λ none. tested-choice _ (eqb (own.slot a) 0) (Goes t) Continues (record { facts = tt })
      (record { facts = tt }))
  tested (Jump t) = record { facts = tt }
  tested (Lfork r d a w) = tested-fork _ r d a w _ (λ f. record { facts = f })
  tested (Fork r d a w) = tested-fork _ r d a w _ (λ f. record { facts = f })
  tested Join = record { facts = refl }
  tested Suspend = record { facts = refl }
  tested Yield = record { facts = refl }
  tested (Return a) = tested-unless _ _ _ _ (λ none. record { facts = λ k l. first-clear own.pending 16 none k l })
  tested (Share a) = tested-unless _ _ _ _ (λ none. tested-provided _ _ _ _ (record { facts = tt }))

-- BYTES. A command that is decoded as a join has first byte 0A
abbrev is_join : Command → ℕ
is_join (Set d v) = 0
is_join (Add d a b) = 0
is_join (Subtract d a b) = 0
is_join (Load d a) = 0
is_join (Store a b) = 0
is_join (JumpIfZero a t) = 0
is_join (Jump t) = 0
is_join (Lfork r d a w) = 0
is_join (Fork r d a w) = 0
is_join Join = 1
is_join Suspend = 0
is_join Yield = 0
is_join (Return a) = 0
is_join (Share a) = 0

pub join-byte : (byte x y z w : ℕ) → decoded byte x y z w ≡ Join → byte ≡ 10
unfolding decoded
join-byte byte x y z w e =
    go (eqb byte 1) (eqb byte 2) (eqb byte 3) (eqb byte 4) (eqb byte 5) (eqb byte 6) (eqb byte 7) (eqb byte 8) (eqb byte 9) (eqb byte 10) refl
    (eqb byte 11) (eqb byte 12) (eqb byte 13)
    (ap is_join e)
  where
    go : (b1 b2 b3 b4 b5 b6 b7 b8 b9 b10 : Bool) → eqb byte 10 ≡ b10 → (b11 b12 b13 : Bool)
        → is_join (cond b1 (Set x (pair y z)) (cond b2 (Add x y z)
        (cond b3 (Subtract x y z) (cond b4 (Load x y) (cond b5 (Store x y) (cond b6 (JumpIfZero x (pair y z))
        (cond b7 (Jump (pair x y)) (cond b8 (Lfork x y z w)
        (cond b9 (Fork x y z w) (cond b10 Join (cond b11 Suspend (cond b12 Yield (cond b13 (Return x) (Share x)))))))))))))) ≡ 1 → byte ≡ 10
    go true b2 b3 b4 b5 b6 b7 b8 b9 b10 f b11 b12 b13 e = absurd (omega arith)
    go false true b3 b4 b5 b6 b7 b8 b9 b10 f b11 b12 b13 e = absurd (omega arith)
    go false false true b4 b5 b6 b7 b8 b9 b10 f b11 b12 b13 e = absurd (omega arith)
    go false false false true b5 b6 b7 b8 b9 b10 f b11 b12 b13 e = absurd (omega arith)
    go false false false false true b6 b7 b8 b9 b10 f b11 b12 b13 e = absurd (omega arith)
    go false false false false false true b7 b8 b9 b10 f b11 b12 b13 e = absurd (omega arith)
    go false false false false false false true b8 b9 b10 f b11 b12 b13 e = absurd (omega arith)
    go false false false false false false false true b9 b10 f b11 b12 b13 e = absurd (omega arith)
    go false false false false false false false false true b10 f b11 b12 b13 e = absurd (omega arith)
    go false false false false false false false false false true f b11 b12 b13 e = eqb-true _ _ f
    go false false false false false false false false false false f true b12 b13 e = absurd (omega arith)
    go false false false false false false false false false false f false true b13 e = absurd (omega arith)
    go false false false false false false false false false false f false false true e = absurd (omega arith)
    go false false false false false false false false false false f false false false e = absurd (omega arith)

-- no fault has a number below 9 or from 13 to 30
pub no-fault : (n : ℕ) → IsFault n → (n < 9) ⊎ ((13 ≤ n) × (n ≤ 30)) → ⊥
no-fault n (inl f) (inl l) = let x = f.0 in omega arith
no-fault n (inl f) (inr l) = let x = f.1 in let y = l.0 in omega arith
no-fault n (inr f) (inl l) = omega arith
no-fault n (inr f) (inr l) = let y = l.1 in omega arith

-- THE NEXT COMMAND of thread t
module _ (j : Job) (s : State) (t : ℕ) where
  next-tested : (e : Effect) → effect_at j s (thread_at s t) ≡ e → Tested (arguments_of j.image) (context_at j s t) (command_of j s t) e
  unfolding effect_at
  next-tested e q = subst (Tested (arguments_of j.image) (context_at j s t) (command_of j s t)) q (tested (arguments_of j.image) (context_at j s t) (command_of j s t))

  -- "faults": 9 to 12, or 31
  pub fault-tested : (f : Fault) → effect_at j s (thread_at s t) ≡ Faults f → IsFault (number_of_fault f)
  fault-tested f q = is_fault f

  -- "9: a pending slot .. written (a fork writes its d)"
  pub lfork-tested : (r d a e : ℕ) → effect_at j s (thread_at s t) ≡ Lforks r d a e → is_pending (pending_at s t) d ≡ false
  lfork-tested r d a e q = (next-tested (Lforks r d a e) q).facts

  pub fork-tested : (r d a e : ℕ) → effect_at j s (thread_at s t) ≡ Forks r d a e → is_pending (pending_at s t) d ≡ false
  fork-tested r d a e q = (next-tested (Forks r d a e) q).facts

  pub join-tested : effect_at j s (thread_at s t) ≡ Joins → byte_of j (thread_at s t) ≡ 10
  join-tested q = join-byte _ _ _ _ _ (next-tested Joins q).facts

  -- "12: return with pending slots"
  pub return-tested : (v : ℕ) → effect_at j s (thread_at s t) ≡ Returns v → (k : ℕ) → k < 16 → is_pending (pending_at s t) k ≡ false
  return-tested v q = (next-tested (Returns v) q).facts

-- SEEDS. The effects that an 08 or 09 can have
abbrev pub SeedEffect : Effect → Type 0
SeedEffect (Faults n) = Unit {0}
SeedEffect (Sets d v) = ⊥
SeedEffect (Loads d a) = ⊥
SeedEffect (Stores a v) = ⊥
SeedEffect (Goes t) = ⊥
SeedEffect Continues = ⊥
SeedEffect (Lforks r d a e) = Unit {0}
SeedEffect (Forks r d a e) = Unit {0}
SeedEffect Joins = ⊥
SeedEffect Suspends = ⊥
SeedEffect Yields = ⊥
SeedEffect (Returns v) = ⊥
SeedEffect (Shares x) = ⊥

forking-seed : (arguments : ℕ → ℕ) (own : Context) (r d a w : ℕ) (e : Effect) → SeedEffect e → SeedEffect (forking arguments own r d a w e)
unfolding forking unless_pending provided
forking-seed arguments own r d a w e k = go (any_pending own.pending (d ∷ w ∷ run a (arguments r))) (own.may_cut (own.slot w))
  where
    go : (b t : Bool) → SeedEffect (cond b (Faults SlotPending) (cond t e (Faults CutOutOfRange)))
    go true t = tt
    go false true = k
    go false false = tt

lfork-seed : (arguments : ℕ → ℕ) (own : Context) (r d a w : ℕ) → SeedEffect (effect_of arguments own (Lfork r d a w))
unfolding effect_of
lfork-seed arguments own r d a w = forking-seed arguments own r d a w _ tt

fork-seed : (arguments : ℕ → ℕ) (own : Context) (r d a w : ℕ) → SeedEffect (effect_of arguments own (Fork r d a w))
unfolding effect_of
fork-seed arguments own r d a w = forking-seed arguments own r d a w _ tt

decoded-seed : (arguments : ℕ → ℕ) (own : Context) (byte x y z w : ℕ) → (byte ≡ 8) ⊎ (byte ≡ 9)
    → SeedEffect (effect_of arguments own (decoded byte x y z w))
unfolding decoded
decoded-seed arguments own byte x y z w k = ⊎_elim (λ e. rw e (lfork-seed arguments own x y z w)) (λ e. rw e (fork-seed arguments own x y z w)) k

pub seed-effect : (j : Job) (s : State) (t : ℕ) → (byte_of j (thread_at s t) ≡ 8) ⊎ (byte_of j (thread_at s t) ≡ 9)
    → SeedEffect (effect_at j s (thread_at s t))
unfolding effect_at
seed-effect j s t k = decoded-seed (arguments_of j.image) (context_at j s t) _ _ _ _ _ k

-- an 08 or 09 shares nothing
decoded-shares : (arguments : ℕ → ℕ) (own : Context) (byte x y z w : ℕ) → (byte ≡ 8) ⊎ (byte ≡ 9) → share_allowed arguments own (decoded byte x y z w) ≡ true
unfolding decoded
decoded-shares arguments own byte x y z w k = ⊎_elim (λ e. rw e) (λ e. rw e) k

pub seed-shares : (j : Job) (s : State) (t : ℕ) → (byte_of j (thread_at s t) ≡ 8) ⊎ (byte_of j (thread_at s t) ≡ 9)
    → share_allowed (arguments_of j.image) (context_at j s t) (command_of j s t) ≡ false → ⊥
seed-shares j s t k e = true≢false (sym (decoded-shares (arguments_of j.image) (context_at j s t) _ _ _ _ _ k) ∙ e)
