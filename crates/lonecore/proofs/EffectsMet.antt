-- What a thread of an image without 09, 0B and 0C meets: no fork, no suspend and no yield. Assumes such an image.
use mathlib.Core.Bool.{Bool, true, false, cond, ◌||◌}
use mathlib.Core.List.{List}
use mathlib.Core.Path.{◌≡◌, refl, sym, ◌∙◌, ap}
use Prim.Native.Nat.{ℕ, ◌+◌}
use native.Mathlib.Omega.{arith}
use lib.Dec.{eqb}
use Rattle.command.specs.declared.Command.{Command}
use Rattle.command.specs.declared.Command.TheVariants.{Set, Add, Subtract, Load, Store, JumpIfZero, Jump, Lfork, Fork, Join, Suspend, Yield, Return, Share}
use Rattle.command.specs.Command.{decoded, decoded_at}
use Rattle.command.proofs.Bools.{neither}
use Rattle.image.specs.Layout.{arguments_of}
use Rattle.thread.specs.declared.Effect.{Effect}
use Rattle.thread.specs.declared.Fault.{Fault}
use Rattle.thread.specs.declared.Fault.TheVariants.{SlotPending, AddressNotAllowed, CutOutOfRange, ReturnPending, ShareOutOfRange}
use Rattle.thread.specs.declared.Effect.TheVariants.{Faults, Sets, Loads, Stores, Goes, Continues, Lforks, Forks, Joins, Suspends, Yields, Returns, Shares}
use Rattle.thread.specs.Effect.{Context, any_pending, unless_pending, provided, forking, effect_of}
use Rattle.rules.specs.State.{Job, State, thread_at}
use Rattle.rules.specs.Turn.{effect_at}
use Rattle.rules.specs.Sound.{GoodJob, Positioned, Sound, Used}
use Rattle.soundness.specs.Numbers.{Stepped}
use Rattle.soundness.proofs.ThreadsMet.{runner}
use Rattle.lonecore.specs.LforksOnly.{is_excluded, LforksOnly}

-- a command other than fork, suspend and yield
abbrev is_calling : Command → Bool
is_calling (Set d v) = true
is_calling (Add d a b) = true
is_calling (Subtract d a b) = true
is_calling (Load d a) = true
is_calling (Store a b) = true
is_calling (JumpIfZero a t) = true
is_calling (Jump t) = true
is_calling (Lfork r d a w) = true
is_calling (Fork r d a w) = false
is_calling Join = true
is_calling Suspend = false
is_calling Yield = false
is_calling (Return a) = true
is_calling (Share a) = true

-- and an effect
abbrev pub calls : Effect → Bool
calls (Faults n) = true
calls (Sets d v) = true
calls (Loads d a) = true
calls (Stores a v) = true
calls (Goes p) = true
calls Continues = true
calls (Lforks r d a e) = true
calls (Forks r d a e) = false
calls Joins = true
calls Suspends = false
calls Yields = false
calls (Returns v) = true
calls (Shares x) = true

either : {A : Type 0} (f : A → Bool) (b : Bool) (x y : A) → f x ≡ true → f y ≡ true → f (cond b x y) ≡ true
either f true x y p q = p
either f false x y p q = q

-- by its first byte
decoded-calls : (byte x y z w : ℕ) → is_excluded byte ≡ false → is_calling (decoded byte x y z w) ≡ true
unfolding decoded
decoded-calls byte x y z w h =
    let (a, bc) = neither (eqb byte 9) (eqb byte 11 || eqb byte 12) h in
    let (b, c) = neither (eqb byte 11) (eqb byte 12) bc in
    rw (a, b, c)
    (either is_calling (eqb byte 1) _ _ refl
    (either is_calling (eqb byte 2) _ _ refl
    (either is_calling (eqb byte 3) _ _ refl
    (either is_calling (eqb byte 4) _ _ refl
    (either is_calling (eqb byte 5) _ _ refl
    (either is_calling (eqb byte 6) _ _ refl
    (either is_calling (eqb byte 7) _ _ refl
    (either is_calling (eqb byte 8) _ _ refl
    (either is_calling (eqb byte 10) _ _ refl
    (either is_calling (eqb byte 13) _ _ refl refl))))))))))

unless : (n : Fault) (p : ℕ → Bool) (ks : List ℕ) (e : Effect) → calls e ≡ true → calls (unless_pending n p ks e) ≡ true
unfolding unless_pending
unless n p ks e h = either calls (any_pending p ks) (Faults n) e refl h

given : (b : Bool) (n : Fault) (e : Effect) → calls e ≡ true → calls (provided b n e) ≡ true
unfolding provided
given true n e h = h
given false n e h = refl

effect-calls : (arguments : ℕ → ℕ) (x : Context) (c : Command) → is_calling c ≡ true → calls (effect_of arguments x c) ≡ true
unfolding effect_of forking
effect-calls arguments x (Set d v) h = unless SlotPending x.pending _ _ refl
effect-calls arguments x (Add d a b) h = unless SlotPending x.pending _ _ refl
effect-calls arguments x (Subtract d a b) h = unless SlotPending x.pending _ _ refl
effect-calls arguments x (Load d a) h = unless SlotPending x.pending _ _ (given _ _ _ refl)
effect-calls arguments x (Store a b) h = unless SlotPending x.pending _ _ (given _ _ _ refl)
effect-calls arguments x (JumpIfZero a t) h = unless SlotPending x.pending _ _ (either calls (eqb (x.slot a) 0) (Goes t) Continues refl refl)
effect-calls arguments x (Jump t) h = refl
effect-calls arguments x (Lfork r d a w) h = unless SlotPending x.pending _ _ (given _ _ _ refl)
effect-calls arguments x (Fork r d a w) h = let z : ◌≡◌ {A = ℕ} 0 1 = cc in absurd (omega arith)
effect-calls arguments x Join h = refl
effect-calls arguments x Suspend h = let z : ◌≡◌ {A = ℕ} 0 1 = cc in absurd (omega arith)
effect-calls arguments x Yield h = let z : ◌≡◌ {A = ℕ} 0 1 = cc in absurd (omega arith)
effect-calls arguments x (Return a) h = unless ReturnPending x.pending _ _ refl
effect-calls arguments x (Share a) h = unless SlotPending x.pending _ _ (given _ _ _ refl)

-- what thread t meets
pub met-calls : (j : Job) (s : State) → GoodJob j → Positioned j s → LforksOnly j.image → (t : ℕ) → Used s t → (e : Effect)
    → effect_at j s (thread_at s t) ≡ e → calls e ≡ true
unfolding effect_at
met-calls j s g p only t u e q =
    ap calls (sym q) ∙ effect-calls (arguments_of j.image) _ _
    (ap (λ z. is_calling (decoded_at j.image (z + (thread_at s t).position))) (g.starts (thread_at s t).origin.routine (p.routine t u))
    ∙ decoded-calls _ _ _ _ _ (only (thread_at s t).origin.routine (thread_at s t).position (p.routine t u) (p.position t u)))

-- by a step
pub step-calls : (j : Job) (s : State) → Sound j s → LforksOnly j.image → (c t : ℕ) → Stepped j s c t → (e : Effect)
    → effect_at j s (thread_at s t) ≡ e → calls e ≡ true
step-calls j s ok only c t k e q = met-calls j s ok.job ok.placed only t (runner j s ok c t k) e q

pub no-fork : (r d a e : ℕ) → calls (Forks r d a e) ≡ true → ⊥
no-fork r d a e h = let z : ◌≡◌ {A = ℕ} 0 1 = cc in omega arith

pub no-suspend : calls Suspends ≡ true → ⊥
no-suspend h = let z : ◌≡◌ {A = ℕ} 0 1 = cc in omega arith

pub no-yield : calls Yields ≡ true → ⊥
no-yield h = let z : ◌≡◌ {A = ℕ} 0 1 = cc in omega arith
