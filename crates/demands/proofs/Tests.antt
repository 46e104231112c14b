-- The whole-run tests by their numbers. Assumes nothing.
use borrow.Author.Tests.{ne_eqb}
use mathlib.Core.Bool.{Bool, true, false, cond, ◌||◌, not}
use mathlib.Core.List.{List}
use mathlib.Core.Path.{◌≡◌, refl, sym, ap}
use Prim.Native.Nat.{ℕ, ◌≤◌}
use native.Mathlib.Omega.{arith}
use lib.Dec.{ltb, eqb}
use lib.ListN.{length}
use Rattle.std.specs.Prelude.{Ok, Err}
use Rattle.image.specs.Code.{Verdict}
use Rattle.image.specs.declared.Refusal.{Refusal}
use Rattle.image.specs.declared.Refusal.TheVariants.{BadLength, BadCount, BadRow, UnknownByte, OperandsCutOff, OutOfRange, BadEnd, BadTarget}
use Rattle.image.specs.Image.{image_verdict, number_in, number_of_refusal}
use Rattle.schedule.specs.Meaning.{schedule_of, number_of_schedule}
use Rattle.demands.specs.declared.RunRefusal.{RunRefusal}
use Rattle.demands.specs.declared.RunRefusal.TheVariants.{BadCores, BadImage, BadArguments, BadSchedule, BadLengths}
use Rattle.demands.specs.declared.RunAnswer.{RunAnswer}
use Rattle.demands.specs.declared.RunAnswer.TheVariants.{Refused}
use Rattle.demands.specs.Input.{Input, bad_cores, bad_arguments, bad_words, entry_count, image_then, tests_of, number_of_run_refusal, number_of_tests, refusal_of, TellsRefusal}

-- the image's author's numbers
pub refusal-range : (r : Refusal) → (1 ≤ number_of_refusal r) × (number_of_refusal r ≤ 8)
refusal-range BadLength = (omega arith, omega arith)
refusal-range BadCount = (omega arith, omega arith)
refusal-range BadRow = (omega arith, omega arith)
refusal-range UnknownByte = (omega arith, omega arith)
refusal-range OperandsCutOff = (omega arith, omega arith)
refusal-range OutOfRange = (omega arith, omega arith)
refusal-range BadEnd = (omega arith, omega arith)
refusal-range BadTarget = (omega arith, omega arith)

-- an image's number that is not 0
pub given : (k rest : ℕ) → 1 ≤ k → cond (not (eqb k 0)) k rest ≡ k
given k rest h = ap (λ (t : Bool). cond (not t) k rest) (ne_eqb k 0 (λ e. omega arith))

row_of : (c : Bool) (v : Verdict) (a s l : Bool)
    → number_of_tests (cond c (Err BadCores) (image_then v (cond a (Err BadArguments) (cond s (Err BadSchedule) (cond l (Err BadLengths) (Ok tt))))))
    ≡ cond c 23 (cond (not (eqb (number_in v) 0)) (number_in v) (cond a 24 (cond s 13 (cond l 25 0))))
row_of true v a s l = refl
row_of false (Err r) a s l = sym (given (number_of_refusal r) _ (refusal-range r).0)
row_of false (Ok passed) true s l = refl
row_of false (Ok passed) false true l = refl
row_of false (Ok passed) false false true = refl
row_of false (Ok passed) false false false = refl

-- a refusal's number is not 0
pub some-number : (why : RunRefusal) → 1 ≤ number_of_run_refusal why
some-number BadCores = omega arith
some-number (BadImage r) = (refusal-range r).0
some-number BadArguments = omega arith
some-number BadSchedule = omega arith
some-number BadLengths = omega arith

module _ (i : Input) (schedule log : List ℕ) where
  -- the row of tests, by their numbers
  pub by_numbers : refusal_of i schedule log
      ≡ cond (bad_cores i) 23
      (cond (not (eqb (number_in (image_verdict i.image)) 0)) (number_in (image_verdict i.image))
      (cond (bad_arguments i) 24
      (cond (not (eqb (number_of_schedule (schedule_of schedule)) 0)) 13
      (cond (bad_words i || ltb (length log) (entry_count (schedule_of schedule))) 25 0))))
  unfolding refusal_of tests_of
  by_numbers = row_of (bad_cores i) (image_verdict i.image) (bad_arguments i) (not (eqb (number_of_schedule (schedule_of schedule)) 0)) _

  -- where no test is met the number is 0
  pub passing : {passed : Unit {0}} → tests_of i schedule log ≡ Ok passed → refusal_of i schedule log ≡ 0
  unfolding refusal_of
  passing e = ap (number_of_tests {A = Unit {0}}) e

  pub failing : {why : RunRefusal} → tests_of i schedule log ≡ Err why → refusal_of i schedule log ≡ number_of_run_refusal why
  unfolding refusal_of
  failing e = ap (number_of_tests {A = Unit {0}}) e

  -- where one is met it is not
  pub not-zero : {why : RunRefusal} → tests_of i schedule log ≡ Err why → refusal_of i schedule log ≡ 0 → ⊥
  not-zero {why} e z = omega (arith, failing e, some-number why)

  pub tells : {why : RunRefusal} → tests_of i schedule log ≡ Err why → {answer : RunAnswer} → answer ≡ Refused why → TellsRefusal i schedule log answer
  tells {why} e {answer} h = record { why = why; first = e; refused = h; number = rw h (sym (failing e)) }
