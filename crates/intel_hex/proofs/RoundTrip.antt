-- What is written is read: a line of the text says the record that it was made of. Assumes nothing.
use Rattle.std.proofs.Common.{◌≡◌, ℕ, zero, suc, ◌+◌, ◌-◌, ◌*◌, ◌/◌, ◌%◌, ◌<◌, ◌≤◌, Bool, true, false, eqb, List, [], ◌∷◌, ◌++◌, length, get_or, take, drop, refl, ap, ◌∙◌, arith, length-append, take_all, drop-cons, take_at, eqb-true}
use borrow.Author.Tests.{eqb-false}
use Rattle.hex_format.specs.Digits.{is_digit, digit_value}
use Rattle.hex_format.specs.Text.{pairs_of, total, checksum_of, fields_of, line_of}
use Rattle.hex_format.specs.Lines.{text_lines}
use Rattle.hex_format.specs.Record.{line_byte, bytes_from, count_of, address_of, type_of, data_of, sum_of, well_formed}
use Rattle.intel_hex.proofs.DigitLaws.{capital-digit, plain}
use Rattle.intel_hex.proofs.LineLaws.{Plain, plain-first}
use Rattle.intel_hex.proofs.RecordLaws.{is-formed}
use Rattle.intel_hex.proofs.TextLaws.{pair-high, pair-low, pairs-length, total-append}

-- every byte is below 256
abbrev pub Small : List ℕ → Type 0
Small xs = (i : ℕ) → get_or xs i 0 < 256

pub small-append : (xs ys : List ℕ) → Small xs → Small ys → Small (xs ++ ys)
small-append [] ys h l i = l i
small-append (x ∷ xs) ys h l zero = h 0
small-append (x ∷ xs) ys h l (suc i) = small-append xs ys (λ j. h (suc j)) l i

pub small_one : (x : ℕ) → x < 256 → Small (x ∷ [])
small_one x h zero = h
small_one x h (suc i) = omega arith

pub odd : (j : ℕ) → (j % 2 ≡ 0 → ⊥) → j ≡ 2 * (j / 2) + 1
odd j h = go (j % 2) refl (omega arith)
  where
    go : (r : ℕ) → j % 2 ≡ r → r < 2 → j ≡ 2 * (j / 2) + 1
    go zero e l = absurd (h e)
    go (suc zero) e l = omega arith
    go (suc (suc r)) e l = absurd (omega arith)

-- a line of bytes: its characters after the colon are digits, and say the bytes
module _ (xs : List ℕ) (small : Small xs) where
  high_digit : (k : ℕ) → k < length xs → (is_digit (get_or (pairs_of xs) (2 * k) 0) ≡ true) × (digit_value (get_or (pairs_of xs) (2 * k) 0) ≡ get_or xs k 0 / 16)
  high_digit k h = rw (pair-high xs k h) (capital-digit (get_or xs k 0 / 16) (omega (arith, small k)))

  low_digit : (k : ℕ) → k < length xs → (is_digit (get_or (pairs_of xs) (2 * k + 1) 0) ≡ true) × (digit_value (get_or (pairs_of xs) (2 * k + 1) 0) ≡ get_or xs k 0 % 16)
  low_digit k h = rw (pair-low xs k h) (capital-digit (get_or xs k 0 % 16) (omega arith))

  says : (k : ℕ) → k < length xs → line_byte (58 ∷ pairs_of xs) k ≡ get_or xs k 0
  says k h =
      let one : 2 * k + 1 ≡ suc (2 * k) = omega arith in
      let two : 2 * k + 2 ≡ suc (2 * k + 1) = omega arith in
      let a : digit_value (get_or (58 ∷ pairs_of xs) (2 * k + 1) 0) ≡ get_or xs k 0 / 16 = ap (λ (j : ℕ). digit_value (get_or (58 ∷ pairs_of xs) j 0)) one ∙ (high_digit k h).1 in
      let b : digit_value (get_or (58 ∷ pairs_of xs) (2 * k + 2) 0) ≡ get_or xs k 0 % 16 = ap (λ (j : ℕ). digit_value (get_or (58 ∷ pairs_of xs) j 0)) two ∙ (low_digit k h).1 in
      rw (a, b) (omega arith)

  pub says_all : (k n : ℕ) → k + n ≤ length xs → bytes_from (58 ∷ pairs_of xs) k n ≡ take n (drop k xs)
  unfolding bytes_from
  says_all k zero h = refl
  says_all k (suc n) h = rw (says k (omega arith), says_all (suc k) n (omega arith), drop-cons xs k 0 (omega arith))

  pub only-digits : (j : ℕ) → j < 2 * length xs → is_digit (get_or (pairs_of xs) j 0) ≡ true
  only-digits j h = go (eqb (j % 2) 0) refl
    where
      go : (b : Bool) → eqb (j % 2) 0 ≡ b → is_digit (get_or (pairs_of xs) j 0) ≡ true
      go true e = let n : j ≡ 2 * (j / 2) = omega (arith, eqb-true (j % 2) 0 e) in rw n (high_digit (j / 2) (omega arith)).0
      go false e = let n : j ≡ 2 * (j / 2) + 1 = odd j (eqb-false (j % 2) 0 e) in rw n (low_digit (j / 2) (omega arith)).0

adds-up : (t : ℕ) → (t + ((256 - t % 256) % 256 + 0)) % 256 ≡ 0
adds-up t = omega arith

-- a record's line, read
pub record Says (t a : ℕ) (bytes line : List ℕ) : Type 0 where
  pub formed : well_formed line ≡ true
  pub count : count_of line ≡ length bytes
  pub address : address_of line ≡ a
  pub type : type_of line ≡ t
  pub said : data_of line ≡ bytes
  pub sum : sum_of line % 256 ≡ 0

module _ (type address : ℕ) (bytes : List ℕ) (small : Small bytes) (few : length bytes < 256) (byte : type < 256) (below : address < 65536) where
  small-fields : Small (fields_of type address bytes ++ (checksum_of (fields_of type address bytes) ∷ []))
  small-fields = small-append (fields_of type address bytes) (checksum_of (fields_of type address bytes) ∷ []) heads (small_one (checksum_of (fields_of type address bytes)) (omega arith))
    where
      heads : Small (fields_of type address bytes)
      heads zero = few
      heads (suc zero) = omega arith
      heads (suc (suc zero)) = omega arith
      heads (suc (suc (suc zero))) = byte
      heads (suc (suc (suc (suc i)))) = small i

  fields-size : length (fields_of type address bytes ++ (checksum_of (fields_of type address bytes) ∷ [])) ≡ 5 + length bytes
  fields-size = omega (arith, length-append (fields_of type address bytes) (checksum_of (fields_of type address bytes) ∷ []))

  pub line-says : Says type address bytes (line_of type address bytes)
  unfolding total
  line-says =
      let xs : List ℕ = fields_of type address bytes ++ (checksum_of (fields_of type address bytes) ∷ []) in
      let at : (k n : ℕ) → k + n ≤ length xs → bytes_from (58 ∷ pairs_of xs) k n ≡ take n (drop k xs) = says_all xs small-fields in
      let count : count_of (line_of type address bytes) ≡ length bytes = says xs small-fields 0 (omega (arith, fields-size)) in
      record {
        formed = is-formed (line_of type address bytes) (record {
          colon = refl;
          digits = λ j l. only-digits xs small-fields j (omega (arith, pairs-length xs));
          size = omega (arith, pairs-length xs, fields-size, count);
        });
        count = count;
        address = rw (says xs small-fields 1 (omega (arith, fields-size)), says xs small-fields 2 (omega (arith, fields-size))) (omega arith);
        type = says xs small-fields 3 (omega (arith, fields-size));
        said = rw count (at 4 (length bytes) (omega (arith, fields-size)) ∙ take_at bytes (checksum_of (fields_of type address bytes) ∷ []) (length bytes) refl);
        sum = rw (count, at 0 (length bytes + 5) (omega (arith, fields-size)), take_all (length bytes + 5) xs (omega (arith, fields-size)), total-append (fields_of type address bytes) (checksum_of (fields_of type address bytes) ∷ [])) (adds-up (total (fields_of type address bytes)));
      }

  pub line_plain : (j : ℕ) → j < length (line_of type address bytes) → Plain (get_or (line_of type address bytes) j 0)
  line_plain zero h = (λ e. omega arith, λ e. omega arith)
  line_plain (suc j) h =
      let xs : List ℕ = fields_of type address bytes ++ (checksum_of (fields_of type address bytes) ∷ []) in
      plain (get_or (pairs_of xs) j 0) (only-digits xs small-fields j (omega (arith, pairs-length xs)))

-- a plain line and its LF, before other lines
pub line_first : (line rest : List ℕ) → ((j : ℕ) → j < length line → Plain (get_or line j 0)) → text_lines ((line ++ (10 ∷ [])) ++ rest) ≡ line ∷ text_lines rest
unfolding text_lines
line_first [] rest h = refl
line_first (c ∷ line) rest h = plain-first c ((line ++ (10 ∷ [])) ++ rest) (h 0 (omega arith)) ∙ rw (line_first line rest (λ j l. h (suc j) (omega arith)))
