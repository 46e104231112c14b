-- Text as ASCII bytes: words, numbers, and the lines of a log.
use Rattle.std.specs.Prelude.{cond, List, [], ◌∷◌, ◌++◌, ℕ, zero, suc, ◌+◌, ◌/◌, ◌%◌, ltb}
use Prim.Native.Char.{code}
use Prim.Native.String.{String, [] as none, ◌∷◌ as first}

abbrev pub ascii : String → List ℕ
ascii none = []
ascii (first c s) = code c ∷ ascii s

-- the digits of a number: those of its tenth, and then its last; 48 is the character `0`, and the count of steps ends the recursion
unfoldable pub digits_of : ℕ → ℕ → List ℕ
digits_of zero n = (48 + n) ∷ []
digits_of (suc steps) n =
    let longer : List ℕ = digits_of steps (n / 10) ++ ((48 + n % 10) ∷ []) in
    cond (ltb n 10) ((48 + n) ∷ []) longer

-- a number in decimal; n steps are enough (`units-only` and `tens-and-units` in proofs/Digits are its equations without them)
unfoldable pub decimal_of : ℕ → List ℕ
decimal_of n = digits_of n n

-- a number after a blank
abbrev pub spaced : ℕ → List ℕ
spaced n = ascii " " ++ decimal_of n

-- a word, numbers, each after a blank, and the line's end
abbrev pub line : List ℕ → List ℕ → List ℕ
line text [] = text ++ ascii "\n"
line text (x ∷ xs) = line (text ++ spaced x) xs

-- "Per entry it prints its number from 0 and its log byte"
abbrev pub entry_line : ℕ → ℕ → List ℕ
entry_line number log = decimal_of number ++ spaced log ++ ascii "\n"

-- a line for each log byte, from an entry's number on
unfoldable pub entry_lines : ℕ → List ℕ → List ℕ
entry_lines number [] = []
entry_lines number (log ∷ logs) = entry_line number log ++ entry_lines (number + 1) logs
