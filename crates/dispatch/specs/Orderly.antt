-- What an entry gives, and what a take relies on. A sound state gives all of it.
use Rattle.std.specs.Prelude.{List, [], ◌∷◌, ◌≡◌, ℕ, ◌<◌, length}
use Rattle.rules.specs.State.{Job, After}
use Rattle.rules.specs.Sound.{Sound}
use Rattle.tables.specs.Meaning.{size, meaning}

-- what the tables mean behind an entry, with its log byte
abbrev pub after : ℕ → List ℕ → List ℕ → List ℕ → After
after log xs words memory = record { state = meaning xs words memory; log = log }

-- tables that mean a sound state, with some job and some words
pub record Orderly (xs : List ℕ) : Type 0 where
  pub sized : length xs ≡ size
  pub job : Job
  pub words : List ℕ
  pub memory : List ℕ
  pub sound : Sound job (meaning xs words memory)

-- the first number, if there is one, is below n
abbrev pub HeadBelow : ℕ → List ℕ → Type 0
HeadBelow n [] = Unit {0}
HeadBelow n (x ∷ xs) = x < n
