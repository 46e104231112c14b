-- A text's lines: "line ends of LF or CR LF, the last perhaps missing".
use Rattle.std.specs.Prelude.{cond, ◌&&◌, List, [], ◌∷◌, ℕ, eqb, get_or}
use Rattle.hex_format.specs.Digits.{line_feed, carriage_return}

-- lines, with a character before the first; it begins a line where there is none
abbrev pub before : ℕ → List (List ℕ) → List (List ℕ)
before c [] = (c ∷ []) ∷ []
before c (line ∷ lines) = (c ∷ line) ∷ lines

-- an LF ends a line; a CR belongs to a line's end only where an LF follows, and is a character of its line elsewhere
unfoldable pub text_lines : List ℕ → List (List ℕ)
text_lines [] = []
text_lines (c ∷ text) =
    cond (eqb c line_feed) ([] ∷ text_lines text)
    (cond (eqb c carriage_return && eqb (get_or text 0 0) line_feed) (text_lines text)
    (before c (text_lines text)))
