-- Characters, by their ASCII codes, and hexadecimal digits.
use Rattle.std.specs.Prelude.{Bool, cond, ◌&&◌, ◌||◌, ℕ, ◌+◌, ◌-◌, ltb, leb}

abbrev pub colon : ℕ
colon = 58

abbrev pub line_feed : ℕ
line_feed = 10

abbrev pub carriage_return : ℕ
carriage_return = 13

-- the character of a digit, "in capitals": `0` is 48, and `A` is 65
unfoldable pub capital : ℕ → ℕ
capital d = cond (ltb d 10) (48 + d) (55 + d)

-- is a number one of those from the first to the last?
abbrev pub between : ℕ → ℕ → ℕ → Bool
between first last n = leb first n && leb n last

-- "either case of letters": `0` to `9`, `A` to `F`, `a` to `f`
unfoldable pub is_digit : ℕ → Bool
is_digit c = between 48 57 c || (between 65 70 c || between 97 102 c)

-- the value of a digit's character
unfoldable pub digit_value : ℕ → ℕ
digit_value c = cond (leb c 57) (c - 48) (cond (leb c 70) (c - 55) (c - 87))
