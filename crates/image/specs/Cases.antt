-- Document 01's starred bench cases that concern images: each image's bytes, and the number that it is refused by, 0 where it is accepted.
use Rattle.std.specs.Prelude.{List, [], ◌∷◌, ◌++◌, ℕ, length}
use Rattle.command.specs.Command.{low, high}

-- a row of the table
pub record ImageCase : Type 0 where
  pub image : List ℕ
  pub number : ℕ

-- an image of one routine, with one slot and no arguments
abbrev pub one_routine : List ℕ → List ℕ
one_routine code = 0x01 ∷ 0x01 ∷ 0x00 ∷ low (length code) ∷ high (length code) ∷ code

-- the image of the case "Whole": the count and two rows, and the two codes
abbrev pub whole : List ℕ
whole =
    (0x02 ∷ 0x03 ∷ 0x00 ∷ 0x15 ∷ 0x00 ∷ 0x01 ∷ 0x00 ∷ 0x06 ∷ 0x00 ∷ [])
    ++ (0x01 ∷ 0x02 ∷ 0x20 ∷ 0x00 ∷ 0x08 ∷ 0x01 ∷ 0x00 ∷ 0x00 ∷ 0x02 ∷ 0x08 ∷ 0x01 ∷ 0x01 ∷ 0x01 ∷ 0x02 ∷ 0x0A ∷ 0x02 ∷ 0x00 ∷ 0x00 ∷ 0x01 ∷ 0x0D ∷ 0x00 ∷ [])
    ++ (0x01 ∷ 0x00 ∷ 0x05 ∷ 0x00 ∷ 0x0D ∷ 0x00 ∷ [])

-- "Bench cases (starred ones proved)", in document 01's order
abbrev pub starred_images : List ImageCase
starred_images =
    record { image = []; number = 1 }
    ∷ record { image = 0x00 ∷ []; number = 2 }
    ∷ record { image = 0x01 ∷ 0x01 ∷ 0x00 ∷ 0x02 ∷ 0x00 ∷ 0x0D ∷ 0x00 ∷ []; number = 0 }
    ∷ record { image = 0x01 ∷ 0x01 ∷ 0x02 ∷ 0x02 ∷ 0x00 ∷ 0x0D ∷ 0x00 ∷ []; number = 3 }
    ∷ record { image = one_routine (0xFF ∷ 0x00 ∷ []); number = 4 }
    ∷ record { image = one_routine (0x0D ∷ []); number = 5 }
    ∷ record { image = one_routine (0x0D ∷ 0x01 ∷ []); number = 6 }
    ∷ record { image = one_routine (0x0A ∷ []); number = 7 }
    ∷ record { image = one_routine (0x07 ∷ 0x01 ∷ 0x00 ∷ []); number = 8 }
    ∷ record { image = whole; number = 0 }
    ∷ []
