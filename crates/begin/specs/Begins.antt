-- What stands before a run's first entry.
use Rattle.std.specs.Prelude.{List, ◌≡◌, ℕ, Result, Ok, Err}
use Rattle.image.specs.Layout.{program_of, starts_in}
use Rattle.demands.specs.declared.RunRefusal.{RunRefusal}
use Rattle.demands.specs.Input.{Input, tests_of, number_of_tests, refusal_of}

-- what is given of some starts by what the tests say
abbrev pub unless_refused : Result (Unit {0}) RunRefusal → List ℕ → Result (List ℕ) RunRefusal
unless_refused (Ok passed) starts = Ok starts
unless_refused (Err why) starts = Err why

-- where the codes start, or the first whole-run test that is met
abbrev pub begun_of : Input → List ℕ → List ℕ → Result (List ℕ) RunRefusal
begun_of i schedule log = unless_refused (tests_of i schedule log) (starts_in (program_of i.image))

-- what stands before the first entry: that, and the number of a run that is refused
pub record Begins (i : Input) (schedule log : List ℕ) (r : Result (List ℕ) RunRefusal) : Type 0 where
  pub is : r ≡ begun_of i schedule log
  pub number : number_of_tests r ≡ refusal_of i schedule log
