-- What `effect_of` has tested where it gives an effect (`guarded`): no slot that is read or written is pending, loads, stores and cuts
-- are allowed, a return leaves nothing pending. And an effect does not depend on what pending slots hold (`effect-hidden`).
use mathlib.Core.Path.{◌≡◌, refl, sym, ◌∙◌, ap, ap₂}
use mathlib.Core.List.{List, [], ◌∷◌}
use mathlib.Core.Bool.{Bool, true, false, cond}
use Prim.Native.Nat.{ℕ, zero, suc, ◌+◌, ◌<◌}
use native.Mathlib.Omega.{arith}
use lib.Dec.{eqb}
use Rattle.command.specs.declared.Command.{Command}
use Rattle.command.specs.declared.Command.TheVariants.{Set, Add, Subtract, Load, Store, JumpIfZero, Jump, Lfork, Fork, Join, Suspend, Yield, Return, Share}
use Rattle.command.proofs.Bools.{neither}
use Rattle.thread.specs.declared.Effect.{Effect}
use Rattle.thread.specs.declared.Fault.{Fault}
use Rattle.thread.specs.declared.Fault.TheVariants.{SlotPending, AddressNotAllowed, CutOutOfRange, ReturnPending, ShareOutOfRange}
use Rattle.thread.specs.declared.Effect.TheVariants.{Faults, Sets, Loads, Stores, Goes, Continues, Lforks, Forks, Joins, Suspends, Yields, Returns, Shares}
use Rattle.thread.specs.Effect.{Context, run, any_pending, unless_pending, provided, sum, difference, forking, effect_of}
use Rattle.thread.proofs.Routines.{InRange}

-- none of these slots is pending
abbrev pub AllClear : (ℕ → Bool) → List ℕ → Type 0
AllClear p [] = Unit {0}
AllClear p (k ∷ ks) = (p k ≡ false) × AllClear p ks

pub all-clear : (p : ℕ → Bool) (ks : List ℕ) → any_pending p ks ≡ false → AllClear p ks
unfolding any_pending
all-clear p [] h = tt
all-clear p (k ∷ ks) h = let (x, y) = neither (p k) (any_pending p ks) h in (x, all-clear p ks y)

pub run-clear : (p : ℕ → Bool) (a n : ℕ) → AllClear p (run a n) → (k : ℕ) → k < n → p (a + k) ≡ false
unfolding run
run-clear p a zero h k l = absurd (omega arith)
run-clear p a (suc n) h zero l = ap p (omega arith) ∙ h.0
run-clear p a (suc n) h (suc k) l = ap p (omega arith) ∙ run-clear p (suc a) n h.1 k (omega arith)

pub first-clear : (p : ℕ → Bool) (n : ℕ) → AllClear p (run 0 n) → (k : ℕ) → k < n → p k ≡ false
first-clear p n h k l = ap p (omega arith) ∙ run-clear p 0 n h k l

-- what a fork has tested
pub record ForkFacts (arguments : ℕ → ℕ) (own : Context) (r d a e : ℕ) : Type 0 where
  pub in-range : d < 16
  pub fresh : own.pending d ≡ false
  pub clear : (k : ℕ) → k < arguments r → own.pending (a + k) ≡ false
  pub allowed : own.may_cut e ≡ true

module _ (arguments : ℕ → ℕ) (own : Context) where
  -- what has been tested where a command has this effect
  abbrev pub Facts : Effect → Type 0
  Facts (Faults n) = Unit {0}
  Facts (Sets d v) = own.pending d ≡ false
  Facts (Loads d a) = (own.pending d ≡ false) × (own.may_load a ≡ true)
  Facts (Stores a v) = own.may_store a ≡ true
  Facts (Goes t) = Unit {0}
  Facts Continues = Unit {0}
  Facts (Lforks r d a e) = ForkFacts arguments own r d a e
  Facts (Forks r d a e) = ForkFacts arguments own r d a e
  Facts Joins = Unit {0}
  Facts Suspends = Unit {0}
  Facts Yields = Unit {0}
  Facts (Returns v) = (k : ℕ) → k < 16 → own.pending k ≡ false
  Facts (Shares x) = own.may_share x ≡ true

  -- a record, so that the effect can be read off it
  pub record Guarded (e : Effect) : Type 0 where
    pub facts : Facts e

  guarded-unless : (n : Fault) (ks : List ℕ) (e : Effect) → (AllClear own.pending ks → Guarded e) → Guarded (unless_pending n own.pending ks e)
  unfolding unless_pending
  guarded-unless n ks e f = go (any_pending own.pending ks) (λ h. f (all-clear own.pending ks h))
    where
      go : (t : Bool) → (t ≡ false → Guarded e) → Guarded (cond t (Faults n) e)
      go true f = record { facts = tt }
      go false f = f refl

  guarded-provided : (t : Bool) (n : Fault) (e : Effect) → (t ≡ true → Guarded e) → Guarded (provided t n e)
  unfolding provided
  guarded-provided true n e f = f refl
  guarded-provided false n e f = record { facts = tt }

  guarded-choice : (t : Bool) (x y : Effect) → Guarded x → Guarded y → Guarded (cond t x y)
  guarded-choice true x y f g = f
  guarded-choice false x y f g = g

  -- with the facts named, so that a test that is not made is missed here
  guarded-set : (d v : ℕ) → own.pending d ≡ false → Guarded (Sets d v)
  guarded-set d v fresh = record { facts = fresh }

  guarded-load : (d a : ℕ) → own.pending d ≡ false → own.may_load a ≡ true → Guarded (Loads d a)
  guarded-load d a fresh allowed = record { facts = (fresh, allowed) }

  guarded-store : (a v : ℕ) → own.may_store a ≡ true → Guarded (Stores a v)
  guarded-store a v allowed = record { facts = allowed }

  guarded-share : (x : ℕ) → own.may_share x ≡ true → Guarded (Shares x)
  guarded-share x allowed = record { facts = allowed }

  guarded-return : (v : ℕ) → ((k : ℕ) → k < 16 → own.pending k ≡ false) → Guarded (Returns v)
  guarded-return v none = record { facts = none }

  guarded-fork : (r d a w : ℕ) (e : Effect) → (ForkFacts arguments own r d a (own.slot w) → Guarded e) → d < 16
      → Guarded (forking arguments own r d a w e)
  unfolding forking
  guarded-fork r d a w e f small = guarded-unless _ _ _ (λ none. guarded-provided _ _ _ (λ allowed.
      f (record { in-range = small; fresh = none.0; clear = run-clear own.pending a (arguments r) none.1.1; allowed = allowed })))

  pub guarded : (c : Command) → InRange c → Guarded (effect_of arguments own c)
  unfolding effect_of
  guarded (Set d v) i = guarded-unless _ _ _ (λ none. guarded-set _ _ none.0)
  guarded (Add d a b) i = guarded-unless _ _ _ (λ none. guarded-set _ _ none.0)
  guarded (Subtract d a b) i = guarded-unless _ _ _ (λ none. guarded-set _ _ none.0)
  guarded (Load d a) i = guarded-unless _ _ _ (λ none. guarded-provided _ _ _ (λ allowed. guarded-load _ _ none.0 allowed))
  guarded (Store a b) i = guarded-unless _ _ _ (λ none. guarded-provided _ _ _ (λ allowed. guarded-store _ _ allowed))
  guarded (JumpIfZero a t) i = guarded-unless _ _ _
      (λ none. guarded-choice (eqb (own.slot a) 0) (Goes t) Continues (record { facts = tt }) (record { facts = tt }))
  guarded (Jump t) i = record { facts = tt }
  guarded (Lfork r d a w) i = guarded-fork _ _ _ _ _ (λ f. record { facts = f }) i
  guarded (Fork r d a w) i = guarded-fork _ _ _ _ _ (λ f. record { facts = f }) i
  guarded Join i = record { facts = tt }
  guarded Suspend i = record { facts = tt }
  guarded Yield i = record { facts = tt }
  guarded (Return a) i = guarded-unless _ _ _ (λ none. guarded-return _ (λ k l. first-clear own.pending 16 none k l))
  guarded (Share a) i = guarded-unless _ _ _ (λ none. guarded-provided _ _ _ (λ allowed. guarded-share _ allowed))

  -- the same with pending slots showing zero
  abbrev pub hidden : Context
  hidden = record {
    slot = λ k. cond (own.pending k) 0 (own.slot k);
    pending = own.pending;
    may_load = own.may_load;
    may_store = own.may_store;
    may_cut = own.may_cut;
    may_share = own.may_share;
  }

  shown : (k : ℕ) → own.pending k ≡ false → own.slot k ≡ hidden.slot k
  shown k h = sym (ap (λ t. cond t 0 (own.slot k)) h)

  unless-same : (n : Fault) (ks : List ℕ) (e e' : Effect) → (AllClear own.pending ks → e ≡ e')
      → unless_pending n own.pending ks e ≡ unless_pending n own.pending ks e'
  unfolding unless_pending
  unless-same n ks e e' f = go (any_pending own.pending ks) (λ h. f (all-clear own.pending ks h))
    where
      go : (t : Bool) → (t ≡ false → e ≡ e') → cond t (Faults n) e ≡ cond t (Faults n) e'
      go true f = refl
      go false f = f refl

  fork-same : (r d a w : ℕ) (e : ℕ → Effect) → forking arguments own r d a w (e (own.slot w)) ≡ forking arguments hidden r d a w (e (hidden.slot w))
  unfolding forking
  fork-same r d a w e = unless-same _ _ _ _ (λ none. ap (λ v. provided (own.may_cut v) CutOutOfRange (e v)) (shown w none.1.0))

  pub effect-hidden : (c : Command) → InRange c → effect_of arguments own c ≡ effect_of arguments hidden c
  unfolding effect_of
  effect-hidden (Set d v) i = refl
  effect-hidden (Add d a b) i = unless-same _ _ _ _ (λ none. ap₂ (λ x y. Sets d (sum x y)) (shown a none.1.0) (shown b none.1.1.0))
  effect-hidden (Subtract d a b) i =
      unless-same _ _ _ _ (λ none. ap₂ (λ x y. Sets d (difference x y)) (shown a none.1.0) (shown b none.1.1.0))
  effect-hidden (Load d a) i = unless-same _ _ _ _ (λ none. ap (λ x. provided (own.may_load x) AddressNotAllowed (Loads d x)) (shown a none.1.0))
  effect-hidden (Store a b) i =
      unless-same _ _ _ _ (λ none. ap₂ (λ x y. provided (own.may_store x) AddressNotAllowed (Stores x y)) (shown a none.0) (shown b none.1.0))
  effect-hidden (JumpIfZero a t) i = unless-same _ _ _ _ (λ none. ap (λ x. cond (eqb x 0) (Goes t) Continues) (shown a none.0))
  effect-hidden (Jump t) i = refl
  effect-hidden (Lfork r d a w) i = fork-same r d a w (λ v. Lforks r d a v)
  effect-hidden (Fork r d a w) i = fork-same r d a w (λ v. Forks r d a v)
  effect-hidden Join i = refl
  effect-hidden Suspend i = refl
  effect-hidden Yield i = refl
  effect-hidden (Return a) i = unless-same _ _ _ _ (λ none. ap Returns (shown a (first-clear own.pending 16 none a i)))
  effect-hidden (Share a) i = unless-same _ _ _ _ (λ none. ap (λ x. provided (own.may_share x) ShareOutOfRange (Shares x)) (shown a none.0))
