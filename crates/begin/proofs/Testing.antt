-- What stands before a run's first entry, test by test. Assumes nothing.
use borrow.Author.Tests.{eq-eqb, ne_eqb, lt-ltb, le-ltb}
use mathlib.Core.List.{List}
use mathlib.Core.Logic.{◌⊎◌, inl, inr}
use mathlib.Core.Path.{◌≡◌}
use Prim.Native.Nat.{ℕ, ◌≤◌, ◌<◌}
use lib.ListN.{length}
use Rattle.std.specs.Prelude.{Ok, Err}
use Rattle.image.specs.declared.Refusal.{Refusal}
use Rattle.image.specs.Layout.{arguments_of, program_of, starts_in}
use Rattle.image.specs.Image.{image_verdict}
use Rattle.schedule.specs.declared.Entry.{Entry}
use Rattle.schedule.specs.Meaning.{schedule_of, number_of_schedule}
use Rattle.demands.specs.declared.RunRefusal.TheVariants.{BadCores, BadImage, BadArguments, BadSchedule, BadLengths}
use Rattle.demands.specs.Input.{Input, tests_of}
use Rattle.begin.specs.Begins.{begun_of}

module _ (i : Input) (schedule log : List ℕ) where
  pub by_cores : (i.cores ≡ 0) ⊎ ((i.cores ≡ 0 → ⊥) × (4 < i.cores)) → Err BadCores ≡ begun_of i schedule log
  unfolding tests_of
  by_cores (inl z) = rw (eq-eqb _ _ z)
  by_cores (inr h) = rw (ne_eqb _ _ h.0, lt-ltb _ _ h.1)

  module _ (some : i.cores ≡ 0 → ⊥) (most : i.cores ≤ 4) where
    pub by_image : (refusal : Refusal) → image_verdict i.image ≡ Err refusal → Err (BadImage refusal) ≡ begun_of i schedule log
    unfolding tests_of
    by_image refusal v = rw (ne_eqb _ _ some, le-ltb _ _ most, v)

    module _ (image : image_verdict i.image ≡ Ok tt) where
      pub by_arguments : (length i.arguments ≡ arguments_of i.image 0 → ⊥) → Err BadArguments ≡ begun_of i schedule log
      unfolding tests_of
      by_arguments n = rw (ne_eqb _ _ some, le-ltb _ _ most, image, ne_eqb _ _ n)

      module _ (arguments : length i.arguments ≡ arguments_of i.image 0) where
        pub by_schedule : number_of_schedule (schedule_of schedule) ≡ 13 → Err BadSchedule ≡ begun_of i schedule log
        unfolding tests_of
        by_schedule s = rw (ne_eqb _ _ some, le-ltb _ _ most, image, eq-eqb _ _ arguments, s)

        module _ (es : List Entry) (means : schedule_of schedule ≡ Ok es) where
          pub by_lengths : (length i.parameters ≡ 32 → ⊥) ⊎ (((length i.parameters ≡ 32) × (length i.memory ≡ 992 → ⊥)) ⊎ ((length i.parameters ≡ 32) × (length i.memory ≡ 992) × (length log < length es)))
              → Err BadLengths ≡ begun_of i schedule log
          unfolding tests_of
          by_lengths (inl p) = rw (ne_eqb _ _ some, le-ltb _ _ most, image, eq-eqb _ _ arguments, means, ne_eqb _ _ p)
          by_lengths (inr (inl (p, m))) = rw (ne_eqb _ _ some, le-ltb _ _ most, image, eq-eqb _ _ arguments, means, eq-eqb _ _ p, ne_eqb _ _ m)
          by_lengths (inr (inr (p, m, l))) = rw (ne_eqb _ _ some, le-ltb _ _ most, image, eq-eqb _ _ arguments, means, eq-eqb _ _ p, eq-eqb _ _ m, lt-ltb _ _ l)

          pub by_none : length i.parameters ≡ 32 → length i.memory ≡ 992 → length es ≤ length log → Ok (starts_in (program_of i.image)) ≡ begun_of i schedule log
          unfolding tests_of
          by_none p m l = rw (ne_eqb _ _ some, le-ltb _ _ most, image, eq-eqb _ _ arguments, means, eq-eqb _ _ p, eq-eqb _ _ m, le-ltb _ _ l)
