-- What it says that no whole-run test is met: the input is one that a run takes, the schedule is accepted and the log has room; so Start's
-- state is sound and the schedule can be played. Assumes nothing.
use borrow.Author.Tests.{eqb-true, eqb-false, ltb-false, not-false}
use mathlib.Core.Bool.{Bool, true, false, cond, ◌||◌, not}
use mathlib.Core.List.{List}
use mathlib.Core.Path.{◌≡◌, refl, sym, ◌∙◌}
use Prim.Native.Nat.{ℕ, ◌≤◌, ◌<◌}
use native.Mathlib.Omega.{arith}
use lib.Dec.{ltb, eqb}
use lib.ListN.{length, get_or}
use Rattle.std.specs.Prelude.{Ok, Err}
use Rattle.command.proofs.Bools.{neither}
use Rattle.command.proofs.Tables.{weight-least}
use Rattle.image.specs.Code.{Verdict}
use Rattle.image.specs.Image.{image_verdict, number_in}
use Rattle.image.proofs.Accepted.{accepted}
use Rattle.image.proofs.Places.{starts-at}
use Rattle.schedule.specs.declared.Entry.{Entry}
use Rattle.schedule.specs.Meaning.{Schedule, schedule_of, number_of_schedule}
use Rattle.rules.specs.Sound.{GoodJob}
use Rattle.demands.specs.Input.{Input, job_in, bad_cores, bad_arguments, bad_words, entry_count, refusal_of}
use Rattle.demands.specs.Demands.{Takes}
use Rattle.demands.proofs.Tests.{refusal-range, by_numbers}

-- a test that is not met, and what follows it
passed : (b : Bool) (n rest : ℕ) → 1 ≤ n → cond b n rest ≡ 0 → (b ≡ false) × (rest ≡ 0)
passed true n rest h e = absurd (omega (arith, h, e))
passed false n rest h e = (refl, e)

-- a number that is given where it is not 0
passed-number : (n rest : ℕ) → cond (not (eqb n 0)) n rest ≡ 0 → (n ≡ 0) × (rest ≡ 0)
passed-number n rest e = go (eqb n 0) refl e
  where
    go : (b : Bool) → eqb n 0 ≡ b → cond (not b) n rest ≡ 0 → (n ≡ 0) × (rest ≡ 0)
    go true q h = (eqb-true n 0 q, h)
    go false q h = absurd (eqb-false n 0 q h)

same : (a b : ℕ) → not (eqb a b) ≡ false → a ≡ b
same a b e = eqb-true a b (not-false (eqb a b) e)

no_number : (v : Verdict) → number_in v ≡ 0 → v ≡ Ok tt
no_number (Ok tt) e = refl
no_number (Err r) e = absurd (omega (arith, (refusal-range r).0, e))

-- the job of an input that a run takes
pub good : (i : Input) → Takes i → GoodJob (job_in i)
good i k = record {
  image = k.image;
  bytes = k.bytes;
  starts = λ r h. starts-at i.image r h (accepted i.image k.image).most;
  parameters = k.parameters;
  weighs = weight-least;
}

-- an accepted schedule, with room in a log for its entries
pub record Room (schedule log : List ℕ) : Type 0 where
  pub all : List Entry
  pub means : schedule_of schedule ≡ Ok all
  pub room : length all ≤ length log

room_by : (schedule log : List ℕ) (x : Schedule) → schedule_of schedule ≡ x → number_of_schedule x ≡ 0 → ltb (length log) (entry_count x) ≡ false → Room schedule log
room_by schedule log (Ok es) h e l = record { all = es; means = h; room = ltb-false (length log) (length es) l }
room_by schedule log (Err _) h e l = absurd (omega (arith, e))

module _ (i : Input) (schedule log : List ℕ) (passes : refusal_of i schedule log ≡ 0) where
  abbrev image_number : ℕ
  image_number = number_in (image_verdict i.image)

  abbrev last_test : Bool
  last_test = bad_words i || ltb (length log) (entry_count (schedule_of schedule))

  abbrev fourth : ℕ
  fourth = cond last_test 25 0

  abbrev third : ℕ
  third = cond (not (eqb (number_of_schedule (schedule_of schedule)) 0)) 13 fourth

  first : (bad_cores i ≡ false) × (cond (not (eqb image_number 0)) image_number (cond (bad_arguments i) 24 third) ≡ 0)
  first = passed (bad_cores i) 23 _ (omega arith) (sym (by_numbers i schedule log) ∙ passes)

  second : (image_number ≡ 0) × (cond (bad_arguments i) 24 third ≡ 0)
  second = passed-number image_number _ first.1

  arguments-right : (bad_arguments i ≡ false) × (third ≡ 0)
  arguments-right = passed (bad_arguments i) 24 third (omega arith) second.1

  schedule-right : (not (eqb (number_of_schedule (schedule_of schedule)) 0) ≡ false) × (fourth ≡ 0)
  schedule-right = passed (not (eqb (number_of_schedule (schedule_of schedule)) 0)) 13 fourth (omega arith) arguments-right.1

  words_right : (bad_words i ≡ false) × (ltb (length log) (entry_count (schedule_of schedule)) ≡ false)
  words_right = neither (bad_words i) _ (passed last_test 25 0 (omega arith) schedule-right.1).0

  lengths-right : (not (eqb (length i.parameters) 32) ≡ false) × (not (eqb (length i.memory) 992) ≡ false)
  lengths-right = neither _ _ words_right.0

  cores-right : (eqb i.cores 0 ≡ false) × (ltb 4 i.cores ≡ false)
  cores-right = neither _ _ first.0

  pub takes : ((k : ℕ) → get_or i.image k 0 < 256) → Takes i
  takes bytes =
      let zero-not : i.cores ≡ 0 → ⊥ = eqb-false i.cores 0 cores-right.0 in
      record {
        image = no_number (image_verdict i.image) second.0;
        bytes = bytes;
        some = omega (arith, zero-not);
        most = ltb-false 4 i.cores cores-right.1;
        arguments = same _ _ arguments-right.0;
        parameters = same _ _ lengths-right.0;
        memory = same _ _ lengths-right.1;
      }

  pub has_room : Room schedule log
  has_room = room_by schedule log (schedule_of schedule) refl (same _ _ schedule-right.0) words_right.1
