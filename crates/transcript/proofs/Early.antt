-- 25 has one cause here: a run of an input that reaches its schedule is never refused by it. Assumes nothing.
use mathlib.Core.Bool.{Bool, true, false, cond, not}
use mathlib.Core.List.{List}
use mathlib.Core.Path.{◌≡◌, refl, sym, ◌∙◌}
use Prim.Native.Nat.{ℕ, ◌≤◌}
use native.Mathlib.Omega.{arith}
use borrow.Author.Tests.{le-ltb}
use lib.Dec.{eqb}
use lib.ListN.{length, replicate, length-replicate}
use Rattle.std.specs.Prelude.{Ok, Err}
use Rattle.image.specs.Code.{Verdict}
use Rattle.image.specs.declared.Refusal.TheVariants.{BadLength, BadCount, BadRow, UnknownByte, OperandsCutOff, OutOfRange, BadEnd, BadTarget}
use Rattle.image.specs.Image.{image_verdict, number_in}
use Rattle.schedule.specs.Meaning.{schedule_of, number_of_schedule}
use Rattle.demands.specs.Input.{Input, bad_cores, bad_arguments, bad_words, entry_count}
use Rattle.demands.proofs.Tests.{by_numbers}
use Rattle.reading.specs.Reading.{schedule_in}
use Rattle.transcript.specs.Job.{input_in}
use Rattle.transcript.specs.Transcript.{number_of_run}

first-eight : (v : Verdict) → number_in v ≤ 8
first-eight (Ok tt) = omega arith
first-eight (Err BadLength) = omega arith
first-eight (Err BadCount) = omega arith
first-eight (Err BadRow) = omega arith
first-eight (Err UnknownByte) = omega arith
first-eight (Err OperandsCutOff) = omega arith
first-eight (Err OutOfRange) = omega arith
first-eight (Err BadEnd) = omega arith
first-eight (Err BadTarget) = omega arith

-- the whole run's tests, the last one not met
tests : (n : ℕ) → n ≤ 8 → (a b c d : Bool) → cond a 23 (cond b n (cond c 24 (cond d 13 0))) ≡ 25 → ⊥
tests n h true b c d e = omega arith
tests n h false true c d e = omega arith
tests n h false false true d e = omega arith
tests n h false false false true e = omega arith
tests n h false false false false e = omega arith

roomy : (i : Input) (s : List ℕ) → bad_words i ≡ false → number_of_run i s ≡ 25 → ⊥
unfolding number_of_run
roomy i s w e =
    let room : List ℕ = replicate (entry_count (schedule_of s)) 0 in
    let l : entry_count (schedule_of s) ≤ length room = omega (arith, length-replicate {A = ℕ} (entry_count (schedule_of s)) 0) in
    tests (number_in (image_verdict i.image)) (first-eight (image_verdict i.image)) (bad_cores i) (not (eqb (number_in (image_verdict i.image)) 0)) (bad_arguments i) (not (eqb (number_of_schedule (schedule_of s)) 0))
    (rw (w, le-ltb (length room) (entry_count (schedule_of s)) l) at (sym (by_numbers i s room) ∙ e))

-- "Input that ends before the schedule gives `refused 25`", and nothing else does
pub only-early : (input : List ℕ) → number_of_run (input_in input) (schedule_in input) ≡ 25 → ⊥
only-early input e = roomy (input_in input) (schedule_in input) refl e
