-- The whole-run tests of the serial run in their order, and what they give: a good job and a good first routine. Assumes nothing.
use mathlib.Core.List.{List}
use mathlib.Core.Path.{◌≡◌, sym, ◌∙◌}
use Prim.Native.Nat.{ℕ, ◌-◌, ◌≤◌, ◌<◌}
use native.Mathlib.Omega.{arith}
use borrow.Author.Tests.{eq-eqb, ne_eqb}
use lib.ListN.{get_or, length}
use Rattle.std.specs.Prelude.{Ok, Err}
use Rattle.command.proofs.Tables.{weight-least}
use Rattle.image.specs.declared.Refusal.{Refusal}
use Rattle.image.specs.Layout.{arguments_of, program_of, starts_in}
use Rattle.image.specs.Image.{image_verdict, number_of_refusal}
use Rattle.image.proofs.Accepted.{accepted}
use Rattle.image.proofs.Laws.{slots-most, arguments-most}
use Rattle.image.proofs.Places.{starts-at}
use Rattle.window.specs.declared.Window.{Window}
use Rattle.window.specs.Rights.{root_window}
use Rattle.window.proofs.Laws.{root-fits}
use Rattle.thread.specs.Job.{Job, job_of, GoodJob}
use Rattle.serial.specs.Serial.{Ended, stopped, ended_by, started_on, call_from, serial_from, serial_of}
use Rattle.serial.specs.declared.Returned.{Returned}
use Rattle.serial.specs.declared.Halted.{Halted}
use Rattle.serial.specs.Steps.{Far, EndAs, left_of, serial_answer}
use Rattle.std.specs.Prelude.{Result, Ok, Err}
use Rattle.serial.proofs.CommandMet.{fresh}

-- the job of an accepted image is good
pub good-job : (image parameters : List ℕ) (allowance : ℕ) → image_verdict image ≡ Ok tt → ((i : ℕ) → get_or image i 0 < 256) → length parameters ≡ 32
    → GoodJob (job_of image (starts_in (program_of image)) parameters allowance)
good-job image parameters allowance h bytes many = record {
  image = h;
  bytes = bytes;
  starts = λ r less. starts-at image r less (accepted image h).most;
  parameters = many;
  weighs = weight-least;
}

module _ (image parameters arguments memory : List ℕ) (allowance : ℕ) where
  abbrev j : Job
  j = job_of image (starts_in (program_of image)) parameters allowance

  pub refused : (x : Refusal) → image_verdict image ≡ Err x → stopped (number_of_refusal x) memory 0 ≡ serial_of j arguments memory
  unfolding serial_of
  refused x h = rw h

  pub wrong-count : image_verdict image ≡ Ok tt → (length arguments ≡ arguments_of image 0 → ⊥) → stopped 24 memory 0 ≡ serial_of j arguments memory
  unfolding serial_of
  wrong-count h c = rw (h, ne_eqb (length arguments) (arguments_of image 0) c)

  pub wrong-parameters : image_verdict image ≡ Ok tt → length arguments ≡ arguments_of image 0 → (length parameters ≡ 32 → ⊥)
      → stopped 25 memory 0 ≡ serial_of j arguments memory
  unfolding serial_of
  wrong-parameters h c q = rw (h, eq-eqb (length arguments) (arguments_of image 0) c, ne_eqb (length parameters) 32 q)

  pub wrong-memory : image_verdict image ≡ Ok tt → length arguments ≡ arguments_of image 0 → length parameters ≡ 32 → (length memory ≡ 992 → ⊥)
      → stopped 25 memory 0 ≡ serial_of j arguments memory
  unfolding serial_of
  wrong-memory h c q w =
      rw (h, eq-eqb (length arguments) (arguments_of image 0) c, eq-eqb (length parameters) 32 q, ne_eqb (length memory) 992 w)

  pub all_right : image_verdict image ≡ Ok tt → length arguments ≡ arguments_of image 0 → length parameters ≡ 32 → length memory ≡ 992
      → serial_of j arguments memory ≡ serial_from j arguments memory
  unfolding serial_of
  all_right h c q w =
      rw (h, eq-eqb (length arguments) (arguments_of image 0) c, eq-eqb (length parameters) 32 q, eq-eqb (length memory) 992 w)

  module _ (h : image_verdict image ≡ Ok tt) where
    pub few-arguments : length arguments ≡ arguments_of image 0 → length arguments ≤ 16
    few-arguments c =
        let a = accepted image h in
        omega (arith, arguments-most image a 0 (omega (arith, a.some)), slots-most image a 0 (omega (arith, a.some)))

    module _ (starts : List ℕ) (starts-are : starts ≡ starts_in (program_of image)) (root : Window) (root_is : root ≡ root_window)
        (c : length arguments ≡ arguments_of image 0) where
      abbrev run : Ended
      run = call_from (job_of image starts parameters allowance) 1 (started_on 0 arguments root) memory 0

      pub whole-far : ((i : ℕ) → get_or image i 0 < 256) → length parameters ≡ 32 → length memory ≡ 992
          → Far (job_of image starts parameters allowance) 1 run (started_on 0 arguments root) memory allowance
      whole-far bytes q w =
          let z : allowance - allowance ≡ 0 = omega arith in
          rw (starts-are, root_is) (record {
            job = good-job image parameters allowance h bytes q;
            routine = fresh j (good-job image parameters allowance h bytes q) 0 arguments root_window (omega (arith, (accepted image h).some)) root-fits;
            memory = w;
            most = omega arith;
            is = rw z;
          })

      pub whole_run : (o : Ended) → length parameters ≡ 32 → length memory ≡ 992 → o ≡ run → o ≡ serial_of j arguments memory
      unfolding serial_from
      whole_run o q w e = rw (starts-are, root_is) at e ∙ sym (all_right h c q w)

-- a run that has ended, as its answer
pub ended-less : (j : Job) (whole : Ended) (most : ℕ) (m : List ℕ) (o : Result Returned Halted) → EndAs j whole most m o → left_of o ≤ most
ended-less j whole most m (Ok r) e = e.less
ended-less j whole most m (Err h) e = e.less

pub ended-is : (j : Job) (whole : Ended) (most : ℕ) (m : List ℕ) (o : Result Returned Halted) → EndAs j whole most m o
    → ended_by (serial_answer j.allowance o) m ≡ whole
ended-is j whole most m (Ok r) e = e.is
ended-is j whole most m (Err h) e = e.is
