-- What a beginning says: the first test that is met, or that none is and where the codes start. Assumes nothing.
use mathlib.Core.List.{List}
use mathlib.Core.Path.{◌≡◌, refl, sym, ◌∙◌, ap}
use Prim.Native.Nat.{ℕ}
use native.Mathlib.Omega.{arith}
use Rattle.std.specs.Prelude.{Result, Ok, Err}
use Rattle.image.specs.Layout.{program_of, starts_in}
use Rattle.demands.specs.declared.RunRefusal.{RunRefusal}
use Rattle.demands.specs.Input.{Input, tests_of, number_of_tests, refusal_of}
use Rattle.begin.specs.Begins.{unless_refused, begun_of, Begins}

same_number : (t : Result (Unit {0}) RunRefusal) (starts : List ℕ) → number_of_tests (unless_refused t starts) ≡ number_of_tests t
same_number (Ok passed) starts = refl
same_number (Err why) starts = refl

err-of : (t : Result (Unit {0}) RunRefusal) (starts : List ℕ) (why : RunRefusal) → Err why ≡ unless_refused t starts → t ≡ Err why
err-of (Ok passed) starts why e = let z : ◌≡◌ {A = ℕ} 0 1 = cc in absurd (omega arith)
err-of (Err y) starts why e = cc

ok-of : (t : Result (Unit {0}) RunRefusal) (starts given : List ℕ) → Ok given ≡ unless_refused t starts → (t ≡ Ok tt) × (given ≡ starts)
ok-of (Ok tt) starts given e = (refl, cc)
ok-of (Err y) starts given e = let z : ◌≡◌ {A = ℕ} 0 1 = cc in absurd (omega arith)

module _ (i : Input) (schedule log : List ℕ) where
  pub begins : (r : Result (List ℕ) RunRefusal) → r ≡ begun_of i schedule log → Begins i schedule log r
  unfolding refusal_of
  begins r e = record { is = e; number = ap (number_of_tests {A = List ℕ}) e ∙ same_number (tests_of i schedule log) (starts_in (program_of i.image)) }

  pub refused-by : (why : RunRefusal) → Begins i schedule log (Err why) → tests_of i schedule log ≡ Err why
  refused-by why b = err-of (tests_of i schedule log) (starts_in (program_of i.image)) why b.is

  pub passed-by : (starts : List ℕ) → Begins i schedule log (Ok starts) → refusal_of i schedule log ≡ 0
  passed-by starts b = sym b.number

  pub starts-by : (starts : List ℕ) → Begins i schedule log (Ok starts) → starts ≡ starts_in (program_of i.image)
  starts-by starts b = (ok-of (tests_of i schedule log) (starts_in (program_of i.image)) starts b.is).1
