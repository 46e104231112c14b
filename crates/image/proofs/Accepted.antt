-- What acceptance says of an image: each test passed. Assumes nothing.
use borrow.Author.Tests.{ltb-false, eqb-true, eqb-false, not-false}
use mathlib.Core.Bool.{Bool, true, false, cond, ◌||◌, not}
use mathlib.Core.List.{List}
use mathlib.Core.Path.{◌≡◌, refl}
use Prim.Native.Nat.{ℕ, zero, suc, ◌≤◌}
use native.Mathlib.Omega.{arith}
use lib.Dec.{ltb, eqb}
use lib.ListN.{length}
use Rattle.std.specs.Prelude.{Ok, Err}
use Rattle.command.proofs.Bools.{neither}
use Rattle.image.specs.Code.{Verdict}
use Rattle.image.specs.declared.Refusal.{Refusal}
use Rattle.image.specs.declared.Refusal.TheVariants.{BadLength, BadCount, BadRow}
use Rattle.image.specs.Layout.{routine_count, rows_end, start_of}
use Rattle.image.specs.Image.{rows_good, routines_verdict, image_verdict}

pub record Accepts (s : List ℕ) : Type 0 where
  pub size : length s ≤ 4096
  pub some : 1 ≤ routine_count s
  pub most : routine_count s ≤ 32
  pub total : length s ≡ start_of s (routine_count s)
  pub rows : rows_good s (routine_count s) ≡ true
  pub routines : routines_verdict s (routine_count s) 0 ≡ Ok tt

positive : (k : ℕ) → (k ≡ 0 → ⊥) → 1 ≤ k
positive zero b = absurd (b refl)
positive (suc k) b = omega arith

pub accepted : (s : List ℕ) → image_verdict s ≡ Ok tt → Accepts s
unfolding image_verdict
accepted s e =
    go (eqb (length s) 0 || ltb 4096 (length s)) (eqb (routine_count s) 0 || ltb 32 (routine_count s)) (ltb (length s) (rows_end s))
    (not (eqb (length s) (start_of s (routine_count s)))) (not (rows_good s (routine_count s))) refl refl refl refl refl e
  where
    never : (n : Refusal) {P : Type 0} → ◌≡◌ {A = Verdict} (Err n) (Ok tt) → P
    never n h = let z : ◌≡◌ {A = ℕ} 0 1 = cc in absurd (omega arith)

    go : (a b c d r : Bool) → (eqb (length s) 0 || ltb 4096 (length s)) ≡ a → (eqb (routine_count s) 0 || ltb 32 (routine_count s)) ≡ b
        → ltb (length s) (rows_end s) ≡ c → not (eqb (length s) (start_of s (routine_count s))) ≡ d → not (rows_good s (routine_count s)) ≡ r
        → cond {A = Verdict} a (Err BadLength) (cond b (Err BadCount) (cond c (Err BadLength) (cond d (Err BadLength) (cond r (Err BadRow)
        (routines_verdict s (routine_count s) 0))))) ≡ Ok tt
        → Accepts s
    go true b c d r ea eb ec ed er h = never BadLength h
    go false true c d r ea eb ec ed er h = never BadCount h
    go false false true d r ea eb ec ed er h = never BadLength h
    go false false false true r ea eb ec ed er h = never BadLength h
    go false false false false true ea eb ec ed er h = never BadRow h
    go false false false false false ea eb ec ed er h = record {
      size = ltb-false 4096 (length s) (neither (eqb (length s) 0) (ltb 4096 (length s)) ea).1;
      some = positive (routine_count s) (eqb-false (routine_count s) 0 (neither (eqb (routine_count s) 0) (ltb 32 (routine_count s)) eb).0);
      most = ltb-false 32 (routine_count s) (neither (eqb (routine_count s) 0) (ltb 32 (routine_count s)) eb).1;
      total = eqb-true (length s) (start_of s (routine_count s)) (not-false (eqb (length s) (start_of s (routine_count s))) ed);
      rows = not-false (rows_good s (routine_count s)) er;
      routines = h;
    }
