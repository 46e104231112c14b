-- The effect of a command tells how many bytes the command has, where its thread goes on behind it. Assumes nothing.
use mathlib.Core.Bool.{Bool, true, false, cond}
use mathlib.Core.List.{List}
use mathlib.Core.Path.{◌≡◌, refl}
use Prim.Native.Nat.{ℕ, zero, suc, ◌+◌, ◌≤◌, ◌<◌}
use native.Mathlib.Omega.{arith}
use lib.Dec.{eqb}
use lib.ListN.{length, get_or}
use Rattle.command.specs.declared.Command.{Command}
use Rattle.command.specs.declared.Command.TheVariants.{Set, Add, Subtract, Load, Store, JumpIfZero, Jump, Lfork, Fork, Join, Suspend, Yield, Return, Share}
use Rattle.command.specs.Command.{bytes_of_command, decoded, decoded_at, width_of}
use Rattle.thread.specs.declared.Effect.{Effect}
use Rattle.thread.specs.declared.Fault.{Fault}
use Rattle.thread.specs.declared.Effect.TheVariants.{Faults, Sets, Loads, Stores, Goes, Continues, Lforks, Forks, Joins, Suspends, Yields, Returns, Shares}
use Rattle.thread.specs.Effect.{Context, any_pending, unless_pending, provided, forking, effect_of}
use Rattle.thread.specs.Bytes.{bytes_by}

-- a command of n bytes can have the effect
abbrev pub Wide : ℕ → Effect → Type 0
Wide n (Faults x) = Unit {0}
Wide n (Sets d v) = n ≡ 4
Wide n (Loads d a) = n ≡ 3
Wide n (Stores a v) = n ≡ 3
Wide n (Goes t) = Unit {0}
Wide n Continues = n ≡ 4
Wide n (Lforks r d a e) = n ≡ 5
Wide n (Forks r d a e) = n ≡ 5
Wide n Joins = n ≡ 1
Wide n Suspends = n ≡ 1
Wide n Yields = n ≡ 1
Wide n (Returns v) = Unit {0}
Wide n (Shares x) = n ≡ 2

-- a record, so that the effect can be read off it
pub record Widened (n : ℕ) (e : Effect) : Type 0 where
  pub is : Wide n e

wide-unless : {n : ℕ} (x : Fault) (p : ℕ → Bool) (ks : List ℕ) (e : Effect) → Widened n e → Widened n (unless_pending x p ks e)
unfolding unless_pending
wide-unless {n} x p ks e f = go (any_pending p ks)
  where
    go : (t : Bool) → Widened n (cond t (Faults x) e)
    go true = record { is = tt }
    go false = f

wide-provided : {n : ℕ} (t : Bool) (x : Fault) (e : Effect) → Widened n e → Widened n (provided t x e)
unfolding provided
wide-provided true x e f = f
wide-provided false x e f = record { is = tt }

wide-choice : {n : ℕ} (t : Bool) (x y : Effect) → Widened n x → Widened n y → Widened n (cond t x y)
wide-choice true x y f g = f
wide-choice false x y f g = g

wide-fork : {n : ℕ} (arguments : ℕ → ℕ) (own : Context) (r d a k : ℕ) (e : Effect) → Widened n e → Widened n (forking arguments own r d a k e)
unfolding forking
wide-fork arguments own r d a k e f = wide-unless _ _ _ _ (wide-provided _ _ _ f)

-- by the command
pub wide : (arguments : ℕ → ℕ) (own : Context) (c : Command) → Widened (length (bytes_of_command c)) (effect_of arguments own c)
unfolding effect_of bytes_of_command
wide arguments own (Set d v) = wide-unless _ _ _ _ (record { is = refl })
wide arguments own (Add d x y) = wide-unless _ _ _ _ (record { is = refl })
wide arguments own (Subtract d x y) = wide-unless _ _ _ _ (record { is = refl })
wide arguments own (Load d a) = wide-unless _ _ _ _ (wide-provided _ _ _ (record { is = refl }))
wide arguments own (Store x y) = wide-unless _ _ _ _ (wide-provided _ _ _ (record { is = refl }))
wide arguments own (JumpIfZero a p) = wide-unless _ _ _ _
    (wide-choice (eqb (own.slot a) 0) (Goes p) Continues (record { is = tt }) (record { is = refl }))
wide arguments own (Jump p) = record { is = tt }
wide arguments own (Lfork r d a k) = wide-fork _ _ _ _ _ _ _ (record { is = refl })
wide arguments own (Fork r d a k) = wide-fork _ _ _ _ _ _ _ (record { is = refl })
wide arguments own Join = record { is = refl }
wide arguments own Suspend = record { is = refl }
wide arguments own Yield = record { is = refl }
wide arguments own (Return a) = wide-unless _ _ _ _ (record { is = tt })
wide arguments own (Share a) = wide-unless _ _ _ _ (wide-provided _ _ _ (record { is = refl }))

-- what the code adds to a position stays below what the position behind the command stays below
pub bytes_below : (p n top : ℕ) (e : Effect) → Widened n e → p + n < top → p + bytes_by e < top
bytes_below p n top (Faults x) k h = omega arith
bytes_below p n top (Sets d v) k h = let q = k.is in omega arith
bytes_below p n top (Loads d a) k h = let q = k.is in omega arith
bytes_below p n top (Stores a v) k h = let q = k.is in omega arith
bytes_below p n top (Goes t) k h = omega arith
bytes_below p n top Continues k h = let q = k.is in omega arith
bytes_below p n top (Lforks r d a e) k h = let q = k.is in omega arith
bytes_below p n top (Forks r d a e) k h = let q = k.is in omega arith
bytes_below p n top Joins k h = let q = k.is in omega arith
bytes_below p n top Suspends k h = let q = k.is in omega arith
bytes_below p n top Yields k h = let q = k.is in omega arith
bytes_below p n top (Returns v) k h = omega arith
bytes_below p n top (Shares x) k h = let q = k.is in omega arith

-- a decoded command has as many bytes as its first byte tells
decoded-length : (x y z w byte : ℕ) → 1 ≤ width_of byte → length (bytes_of_command (decoded byte x y z w)) ≡ width_of byte
unfolding bytes_of_command decoded
decoded-length x y z w zero h = absurd (omega arith)
decoded-length x y z w (suc zero) h = refl
decoded-length x y z w (suc (suc zero)) h = refl
decoded-length x y z w (suc (suc (suc zero))) h = refl
decoded-length x y z w (suc (suc (suc (suc zero)))) h = refl
decoded-length x y z w (suc (suc (suc (suc (suc zero))))) h = refl
decoded-length x y z w (suc (suc (suc (suc (suc (suc zero)))))) h = refl
decoded-length x y z w (suc (suc (suc (suc (suc (suc (suc zero))))))) h = refl
decoded-length x y z w (suc (suc (suc (suc (suc (suc (suc (suc zero)))))))) h = refl
decoded-length x y z w (suc (suc (suc (suc (suc (suc (suc (suc (suc zero))))))))) h = refl
decoded-length x y z w (suc (suc (suc (suc (suc (suc (suc (suc (suc (suc zero)))))))))) h = refl
decoded-length x y z w (suc (suc (suc (suc (suc (suc (suc (suc (suc (suc (suc zero))))))))))) h = refl
decoded-length x y z w (suc (suc (suc (suc (suc (suc (suc (suc (suc (suc (suc (suc zero)))))))))))) h = refl
decoded-length x y z w (suc (suc (suc (suc (suc (suc (suc (suc (suc (suc (suc (suc (suc zero))))))))))))) h = refl
decoded-length x y z w (suc (suc (suc (suc (suc (suc (suc (suc (suc (suc (suc (suc (suc (suc zero)))))))))))))) h = refl
decoded-length x y z w (suc (suc (suc (suc (suc (suc (suc (suc (suc (suc (suc (suc (suc (suc (suc k))))))))))))))) h = absurd (omega arith)

-- so its effect tells that number
pub decoded-wide : (arguments : ℕ → ℕ) (own : Context) (s : List ℕ) (at : ℕ) → 1 ≤ width_of (get_or s at 0)
    → Widened (width_of (get_or s at 0)) (effect_of arguments own (decoded_at s at))
decoded-wide arguments own s at h = rw (← decoded-length (get_or s (at + 1) 0) (get_or s (at + 2) 0) (get_or s (at + 3) 0) (get_or s (at + 4) 0) (get_or s at 0) h) (wide arguments own (decoded_at s at))
