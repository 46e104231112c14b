-- Laws of the text that is written: pairs of digits, lines and their lengths. Assumes nothing.
use Rattle.std.proofs.Common.{◌≡◌, ℕ, zero, suc, ◌+◌, ◌-◌, ◌*◌, ◌/◌, ◌%◌, ◌<◌, ◌≤◌, Bool, true, false, cond, eqb, List, [], ◌∷◌, ◌++◌, length, get_or, take, drop, set, sym, refl, ap, ◌∙◌, append_assoc, append-nil, add-zero, zero-add, add-one, arith, length-append, length-drop, length-take-le, take_all, take-suc, drop-drop, eq-eqb, ne_eqb}
use Rattle.hex_format.specs.Digits.{capital}
use Rattle.hex_format.specs.Text.{pairs_of, total, checksum_of, fields_of, line_of, record_line, data_lines}
use Rattle.intel_hex.specs.Answers.{text_length}
use Rattle.intel_hex.specs.declared.writing.TheConstants.{PAIRS}
use Rattle.intel_hex.specs.Found.{PutsText, head_of, check_of}
use Rattle.intel_hex.proofs.Storing.{puts_then, puts_one, puts-same}

pub pairs-append : (xs ys : List ℕ) → pairs_of (xs ++ ys) ≡ pairs_of xs ++ pairs_of ys
unfolding pairs_of
pairs-append [] ys = refl
pairs-append (x ∷ xs) ys = ap (λ (l : List ℕ). capital (x / 16) ∷ capital (x % 16) ∷ l) (pairs-append xs ys)

pub pairs-length : (xs : List ℕ) → length (pairs_of xs) ≡ 2 * length xs
unfolding pairs_of
pairs-length [] = refl
pairs-length (x ∷ xs) = omega (arith, pairs-length xs)

pub total-append : (xs ys : List ℕ) → total (xs ++ ys) ≡ total xs + total ys
unfolding total
total-append [] ys = sym (zero-add (total ys))
total-append (x ∷ xs) ys = omega (arith, total-append xs ys)

-- the two characters of a byte
pub pair-high : (xs : List ℕ) (k : ℕ) → k < length xs → get_or (pairs_of xs) (2 * k) 0 ≡ capital (get_or xs k 0 / 16)
unfolding pairs_of
pair-high [] k h = absurd (omega arith)
pair-high (x ∷ xs) zero h = refl
pair-high (x ∷ xs) (suc k) h =
    let e : 2 * suc k ≡ suc (suc (2 * k)) = omega arith in
    rw e (pair-high xs k (omega arith))

pub pair-low : (xs : List ℕ) (k : ℕ) → k < length xs → get_or (pairs_of xs) (2 * k + 1) 0 ≡ capital (get_or xs k 0 % 16)
unfolding pairs_of
pair-low [] k h = absurd (omega arith)
pair-low (x ∷ xs) zero h = refl
pair-low (x ∷ xs) (suc k) h =
    let e : 2 * suc k + 1 ≡ suc (suc (2 * k + 1)) = omega arith in
    rw e (pair-low xs k (omega arith))

-- so many numbers from one on
unfoldable pub count_up : ℕ → ℕ → List ℕ
count_up zero from = []
count_up (suc n) from = from ∷ count_up n (suc from)

pub counted : (n from k : ℕ) → k < n → get_or (count_up n from) k 0 ≡ from + k
unfolding count_up
counted zero from k h = absurd (omega arith)
counted (suc n) from zero h = sym (add-zero from)
counted (suc n) from (suc k) h = counted n (suc from) k (omega arith) ∙ omega arith

pub counted-length : (n from : ℕ) → length (count_up n from) ≡ n
unfolding count_up
counted-length zero from = refl
counted-length (suc n) from = ap suc (counted-length n (suc from))

-- the table has the characters of all bytes
all-pairs : PAIRS ≡ pairs_of (count_up 256 0)
unfolding pairs_of capital count_up
all-pairs = refl

stored-from : (table b : List ℕ) (at byte : ℕ) → table ≡ pairs_of (count_up 256 0) → byte < 256 → PutsText (pairs_of (byte ∷ [])) b at (set (set b at (get_or table (2 * byte) 0)) (at + 1) (get_or table (2 * byte + 1) 0))
unfolding pairs_of
stored-from table b at byte e h =
    let size : byte < length (count_up 256 0) = rw (counted-length 256 0) h in
    let is : get_or (count_up 256 0) byte 0 ≡ byte = counted 256 0 byte h ∙ zero-add byte in
    let high : get_or table (2 * byte) 0 ≡ capital (byte / 16) = rw e (pair-high (count_up 256 0) byte size) ∙ ap (λ (n : ℕ). capital (n / 16)) is in
    let low : get_or table (2 * byte + 1) 0 ≡ capital (byte % 16) = rw e (pair-low (count_up 256 0) byte size) ∙ ap (λ (n : ℕ). capital (n % 16)) is in
    record { stored = rw (high, low, add-one at) }

-- the two stores of a byte
pub stored-pair : (b : List ℕ) (at byte k : ℕ) → k ≡ byte → byte < 256 → PutsText (pairs_of (byte ∷ [])) b at (set (set b at (get_or PAIRS (2 * k) 0)) (at + 1) (get_or PAIRS (2 * k + 1) 0))
stored-pair b at byte k e h = rw e (stored-from PAIRS b at byte all-pairs h)

-- a line's head by its parts
pub head-written : {b n o q e : List ℕ} {at : ℕ} (count address high low : ℕ) → high ≡ address / 256 % 256 → low ≡ address % 256
    → PutsText (pairs_of (count ∷ [])) (set b at 58) (at + 1) n → PutsText (pairs_of (high ∷ [])) n (at + 3) o → PutsText (pairs_of (low ∷ [])) o (at + 5) q → PutsText (pairs_of (0 ∷ [])) q (at + 7) e
    → PutsText (head_of count address) b at e
unfolding pairs_of
head-written {b} {n} {o} {q} {e} {at} count address high low h l p2 p3 p4 p5 =
    let four : PutsText (58 ∷ pairs_of (count ∷ high ∷ low ∷ 0 ∷ [])) b at e = puts_then (puts_then (puts_then (puts_then (puts_one 58 b at) (at + 1) refl p2) (at + 3) refl p3) (at + 5) refl p4) (at + 7) refl p5 in
    rw (h, l) at four

-- sums modulo 256
mod-left : (a b : ℕ) → (a % 256 + b) % 256 ≡ (a + b) % 256
mod-left a b = omega arith

mod-right : (a b : ℕ) → (a + b % 256) % 256 ≡ (a + b) % 256
mod-right a b = omega arith

opposite : (u check : ℕ) → u < 256 → check < 256 → (check + u) % 256 ≡ 0 → check ≡ (256 - u) % 256
opposite u check h l e = omega arith

-- the checksum, and the LF after it
pub check-written : {b m : List ℕ} {at : ℕ} (count address inner high low place more sum check : ℕ) → high ≡ address / 256 % 256 → low ≡ address % 256 → place ≡ (high + low) % 256
    → more ≡ (place + inner) % 256 → sum ≡ (count + more) % 256 → check < 256 → (check + sum) % 256 ≡ 0 → PutsText (pairs_of (check ∷ [])) b at m → PutsText (check_of count address inner) b at (set m (at + 2) 10)
unfolding pairs_of
check-written {b} {m} {at} count address inner high low place more sum check h l p e s c z put =
    let m' : more ≡ (high + low + inner) % 256 = e ∙ rw p (mod-left (high + low) inner) in
    let s' : sum ≡ (count + (high + low + inner)) % 256 = s ∙ rw m' (mod-right count (high + low + inner)) in
    let all : count + (high + low + inner) ≡ count + (address / 256 % 256 + (address % 256 + (0 + inner))) = omega arith in
    let u : sum ≡ (count + (address / 256 % 256 + (address % 256 + (0 + inner)))) % 256 = s' ∙ ap (λ (n : ℕ). n % 256) all in
    let right : check ≡ (256 - (count + (address / 256 % 256 + (address % 256 + (0 + inner)))) % 256) % 256 = opposite _ check (omega arith) c (rw u at z) in
    puts-same (puts_then put (at + 2) refl (puts_one 10 m (at + 2))) (ap (λ (n : ℕ). pairs_of (n ∷ []) ++ (10 ∷ [])) right)

-- a line, part by part
checked : (bytes : List ℕ) (address inner : ℕ) → inner ≡ total bytes % 256 → check_of (length bytes) address inner ≡ pairs_of (checksum_of (fields_of 0 address bytes) ∷ []) ++ (10 ∷ [])
unfolding total
checked bytes address inner e =
    let s : (length bytes + (address / 256 % 256 + (address % 256 + (0 + inner)))) % 256 ≡ (length bytes + (address / 256 % 256 + (address % 256 + (0 + total bytes)))) % 256 =
    inside (length bytes) (address / 256 % 256) (address % 256) inner (total bytes) e in
    ap (λ (n : ℕ). pairs_of ((256 - n) % 256 ∷ []) ++ (10 ∷ [])) s
  where
    inside : (n h l i t : ℕ) → i ≡ t % 256 → (n + (h + (l + (0 + i)))) % 256 ≡ (n + (h + (l + (0 + t)))) % 256
    inside n h l i t e = omega arith

pub line-written : {b m n o : List ℕ} {at : ℕ} (bytes : List ℕ) (address inner : ℕ) → inner ≡ total bytes % 256 → PutsText (head_of (length bytes) address) b at m → PutsText (pairs_of bytes) m (at + 9) n
    → PutsText (check_of (length bytes) address inner) n (at + 9 + 2 * length bytes) o → PutsText (record_line 0 address bytes) b at o
unfolding pairs_of
line-written {b} {m} {n} {o} {at} bytes address inner e p q r =
    let check : ℕ = checksum_of (fields_of 0 address bytes) in
    let two = puts_then p (at + 9) refl q in
    let three = puts_then two (at + 9 + 2 * length bytes) (omega (arith, length-append (head_of (length bytes) address) (pairs_of bytes), pairs-length bytes)) (puts-same r (checked bytes address inner e)) in
    puts-same three (parts bytes address check)
  where
    parts : (bytes : List ℕ) (address check : ℕ)
        → (head_of (length bytes) address ++ pairs_of bytes) ++ (pairs_of (check ∷ []) ++ (10 ∷ [])) ≡ 58 ∷ (pairs_of (fields_of 0 address bytes ++ (check ∷ [])) ++ (10 ∷ []))
    parts bytes address check = rw (pairs-append bytes (check ∷ [])) (sym (append_assoc (head_of (length bytes) address ++ pairs_of bytes) (pairs_of (check ∷ [])) (10 ∷ [])))

pub line-length : (type address : ℕ) (bytes : List ℕ) → length (line_of type address bytes) ≡ 11 + 2 * length bytes
line-length type address bytes =
    omega (arith, pairs-length (fields_of type address bytes ++ (checksum_of (fields_of type address bytes) ∷ [])), length-append (fields_of type address bytes) (checksum_of (fields_of type address bytes) ∷ []))

pub record-length : (type address : ℕ) (bytes : List ℕ) → length (record_line type address bytes) ≡ 12 + 2 * length bytes
record-length type address bytes = omega (arith, length-append (line_of type address bytes) (10 ∷ []), line-length type address bytes)

-- the lines of records of 16 bytes, with one more at the end
pub lines-last : (k address : ℕ) (bytes : List ℕ) → data_lines (suc k) address bytes ≡ data_lines k address bytes ++ record_line 0 (address + 16 * k) (take 16 (drop (16 * k) bytes))
unfolding data_lines
lines-last zero address bytes =
    let z : address + 16 * 0 ≡ address = omega arith in
    rw (z, append-nil)
lines-last (suc k) address bytes =
    let a : address + 16 * suc k ≡ address + 16 + 16 * k = omega arith in
    let n : 16 * suc k ≡ 16 + 16 * k = omega arith in
    let d : drop (16 * suc k) bytes ≡ drop (16 * k) (drop 16 bytes) = ap (λ (m : ℕ). drop m bytes) n ∙ sym (drop-drop (16 * k) 16 bytes) in
    rw (a, d) (onto (record_line 0 address (take 16 bytes)) _ _ (lines-last k (address + 16) (drop 16 bytes)))
  where
    onto : (first xs ys : List ℕ) {l : List ℕ} → l ≡ xs ++ ys → first ++ l ≡ (first ++ xs) ++ ys
    onto first xs ys e = rw e (sym (append_assoc first xs ys))

-- each has 44 characters
pub lines-length : (k address : ℕ) (bytes : List ℕ) → 16 * k ≤ length bytes → length (data_lines k address bytes) ≡ 44 * k
unfolding data_lines
lines-length zero address bytes h = refl
lines-length (suc k) address bytes h =
    omega (
      arith,
      length-append (record_line 0 address (take 16 bytes)) (data_lines k (address + 16) (drop 16 bytes)),
      record-length 0 address (take 16 bytes),
      length-take-le 16 bytes (omega arith),
      lines-length k (address + 16) (drop 16 bytes) (omega (arith, length-drop 16 bytes)),
    )

-- one byte more of a record's data
pub one-more-pair : (b text e : List ℕ) (at : ℕ) (bytes : List ℕ) (i : ℕ) → i < length bytes → PutsText (pairs_of (take i bytes)) b at text → PutsText (pairs_of (get_or bytes i 0 ∷ [])) text (at + 2 * i) e
    → PutsText (pairs_of (take (i + 1) bytes)) b at e
one-more-pair b text e at bytes i h p q =
    let size : length (take i bytes) ≡ i = length-take-le i bytes (omega arith) in
    rw (add-one i, take-suc bytes i 0 h, pairs-append (take i bytes) (get_or bytes i 0 ∷ [])) (puts_then p (at + 2 * i) (rw (pairs-length (take i bytes), size)) q)

pub one-more-summed : (bytes : List ℕ) (i sum : ℕ) → i < length bytes → sum ≡ total (take i bytes) % 256 → (sum + get_or bytes i 0) % 256 ≡ total (take (i + 1) bytes) % 256
unfolding total
one-more-summed bytes i sum h e = rw (add-one i, take-suc bytes i 0 h) (omega (arith, total-append (take i bytes) (get_or bytes i 0 ∷ [])))

pub all-summed : (bytes : List ℕ) (i sum : ℕ) → length bytes ≤ i → sum ≡ total (take i bytes) % 256 → sum ≡ total bytes % 256
all-summed bytes i sum h e = e ∙ rw (take_all i bytes h)

pub all-put : (bytes : List ℕ) (i : ℕ) → length bytes ≤ i → {b : List ℕ} {at : ℕ} {e : List ℕ} → PutsText (pairs_of (take i bytes)) b at e → PutsText (pairs_of bytes) b at e
all-put bytes i h p = puts-same p (ap pairs_of (take_all i bytes h))

-- the length of a text, without and with a last record of fewer bytes
pub even-length : (n k : ℕ) → n ≡ 16 * k → text_length n ≡ 44 * k + 12
even-length n k e = rw (eq-eqb (n % 16) 0 (omega arith)) (omega arith)

pub rest-length : (n k r : ℕ) → n ≡ 16 * k + r → 0 < r → r < 16 → text_length n ≡ 44 * k + (12 + 2 * r) + 12
rest-length n k r e h l = rw (ne_eqb (n % 16) 0 (λ z. omega arith)) (omega arith)

-- room for one more record of 16 bytes
pub more_room : (n k : ℕ) → 16 * k + 16 ≤ n → 44 * k + 44 ≤ text_length n
more_room n k h = go (eqb (n % 16) 0)
  where
    go : (b : Bool) → 44 * k + 44 ≤ 44 * (n / 16) + cond b 0 (12 + 2 * (n % 16)) + 12
    go true = omega arith
    go false = omega arith
