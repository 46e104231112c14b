-- The text of bytes is read and gives them; and the bytes that a text gives have such a text. Assumes nothing.
use Rattle.std.proofs.Common.{◌≡◌, ℕ, zero, suc, ◌+◌, ◌-◌, ◌*◌, ◌/◌, ◌%◌, ◌<◌, ◌≤◌, Bool, true, false, not, ◌&&◌, ◌||◌, eqb, ltb, List, [], ◌∷◌, ◌++◌, length, take, drop, sym, refl, ap, ◌∙◌, true≢false, append_assoc, append-nil, arith, length-append, length-drop, take-append-drop, get_or-drop, take_all, ltb-false, le-ltb, eq-eqb, eqb-true}
use borrow.Author.Tests.{eqb-false}
use Rattle.hex_format.specs.Text.{line_of, record_line, data_lines, record_count, hex_of}
use Rattle.hex_format.specs.Lines.{text_lines}
use Rattle.hex_format.specs.Record.{bytes_from, count_of, address_of, type_of, data_of, well_formed, is_data, is_end}
use Rattle.hex_format.specs.Reading.{malformed, bad_checksum, bad_span, said_by}
use Rattle.intel_hex.specs.Answers.{text_length, ReadsAs}
use Rattle.intel_hex.proofs.RecordLaws.{Formed, formed, byte-most, data-parts, is-data, is-end, end-parts, Good, end, more, good}
use Rattle.intel_hex.proofs.Scanning.{no-lines, bytes-size}
use Rattle.intel_hex.proofs.TextLaws.{record-length, lines-length, lines-last}
use Rattle.intel_hex.proofs.RoundTrip.{Small, small-append, Says, line-says, line_plain, line_first}

-- what a text's lines say, where those before said so many bytes
record Reading (count : ℕ) (lines : List (List ℕ)) (bytes : List ℕ) : Type 0 where
  pub fine : malformed lines ≡ false
  pub sums : bad_checksum lines ≡ false
  pub span : bad_span count lines ≡ false
  pub said : said_by lines ≡ bytes

small-none : Small []
small-none i = omega arith

-- the end record alone
end-says : Says 1 0 [] (line_of 1 0 [])
end-says = line-says 1 0 [] small-none (omega arith) (omega arith) (omega arith)

is-end-record : is_end (line_of 1 0 []) ≡ true
is-end-record = is-end (line_of 1 0 []) (record { formed = end-says.formed; type = end-says.type; none = end-says.count; first = end-says.address })

end-lines : text_lines (record_line 1 0 []) ≡ line_of 1 0 [] ∷ []
end-lines =
    let e : text_lines (record_line 1 0 [] ++ []) ≡ line_of 1 0 [] ∷ text_lines [] = line_first (line_of 1 0 []) [] (line_plain 1 0 [] small-none (omega arith) (omega arith) (omega arith)) in
    sym (ap text_lines (append-nil (record_line 1 0 []))) ∙ e ∙ rw no-lines

end-reading : (count : ℕ) → Reading count (text_lines (record_line 1 0 [])) []
unfolding malformed bad_checksum bad_span said_by bytes_from
end-reading count =
    record {
      fine = rw (end-lines, is-end-record);
      sums = rw (end-lines, end-says.sum);
      span = rw (end-lines, is-end-record);
      said = rw (end-lines, end-says.said);
    }

no_end : (line : List ℕ) → type_of line ≡ 0 → is_end line ≡ false
unfolding is_end
no_end line e = rw e (and-false (well_formed line))
  where
    and-false : (b : Bool) → (b && false) ≡ false
    and-false true = refl
    and-false false = refl

-- a data record's line, and what the lines behind it say
module _ (address count : ℕ) (first rest : List ℕ) (text : List ℕ) (small : Small first) (some : 1 ≤ length first) (few : length first ≤ 16) where
  data-reading : count ≡ address → count + length first ≤ 65536 → Reading (count + length first) (text_lines text) rest → Reading count (text_lines (record_line 0 address first ++ text)) (first ++ rest)
  unfolding malformed bad_checksum bad_span said_by
  data-reading place below r =
      let s : Says 0 address first (line_of 0 address first) = line-says 0 address first small (omega arith) (omega arith) (omega arith) in
      let l : text_lines (record_line 0 address first ++ text) ≡ line_of 0 address first ∷ text_lines text =
      line_first (line_of 0 address first) text (line_plain 0 address first small (omega arith) (omega arith) (omega arith)) in
      let d : is_data (line_of 0 address first) ≡ true =
      is-data (line_of 0 address first) (record { formed = s.formed; type = s.type; some = rw s.count some; few = rw s.count few }) in
      let n : is_end (line_of 0 address first) ≡ false = no_end (line_of 0 address first) s.type in
      record {
        fine = rw (l, n, d) r.fine;
        sums = rw (l, s.sum) r.sums;
        span = rw (l, n, s.address, s.count, eq-eqb address count (sym place), le-ltb 65536 (count + length first) below) r.span;
        said = rw (l, s.said, r.said);
      }

same-said : {count : ℕ} {lines : List (List ℕ)} {xs ys : List ℕ} → xs ≡ ys → Reading count lines xs → Reading count lines ys
same-said e r = rw e at r

small-take : (n : ℕ) (xs : List ℕ) → Small xs → Small (take n xs)
small-take zero xs h i = omega arith
small-take (suc n) [] h i = omega arith
small-take (suc n) (x ∷ xs) h zero = h 0
small-take (suc n) (x ∷ xs) h (suc i) = small-take n xs (λ j. h (suc j)) i

small-drop : (n : ℕ) (xs : List ℕ) → Small xs → Small (drop n xs)
small-drop n xs h i = rw (get_or-drop n xs i 0) (h (n + i))

-- so many records' lines and the end record's
lines-reading : (k address count : ℕ) (bytes : List ℕ) → k ≡ record_count (length bytes) → Small bytes → (0 < length bytes → count ≡ address) → count + length bytes ≤ 65536
    → Reading count (text_lines (data_lines k address bytes ++ record_line 1 0 [])) bytes
unfolding data_lines
lines-reading zero address count [] e small place below = end-reading count
lines-reading zero address count (x ∷ bytes) e small place below = absurd (omega arith)
lines-reading (suc k) address count bytes e small place below =
    let first : List ℕ = take 16 bytes in
    let rest : List ℕ = drop 16 bytes in
    let both : length first + length rest ≡ length bytes = sym (length-append first rest) ∙ ap length (take-append-drop 16 bytes) in
    let left : length rest ≡ length bytes - 16 = length-drop 16 bytes in
    let behind = lines-reading k (address + 16) (count + length first) rest (omega arith) (small-drop 16 bytes small) (λ h. omega (arith, place (omega arith))) (omega arith) in
    let all = data-reading address count first rest (data_lines k (address + 16) rest ++ record_line 1 0 []) (small-take 16 bytes small) (omega arith) (omega arith) (place (omega arith)) (omega arith) behind in
    same-said (take-append-drop 16 bytes) (rw (append_assoc (record_line 0 address first) (data_lines k (address + 16) rest) (record_line 1 0 [])) all)

-- "Writing and then reading an image returns that image", and so of any bytes up to address FFFF
pub reads-back : (bytes : List ℕ) → Small bytes → length bytes ≤ 65536 → ReadsAs (hex_of bytes) bytes
unfolding hex_of
reads-back bytes small below =
    let r = lines-reading (record_count (length bytes)) 0 0 bytes refl small (λ h. refl) (omega arith) in
    record { lines = r.fine; checksums = r.sums; span = r.span; said = sym r.said }

-- the bytes of a line, and of all lines that are not malformed
small_bytes : (line : List ℕ) → Formed line → (k n : ℕ) → k + n ≤ 5 + count_of line → Small (bytes_from line k n)
unfolding bytes_from
small_bytes line f k zero h i = omega arith
small_bytes line f k (suc n) h zero = omega (arith, byte-most line f k (omega (arith, f.size)))
small_bytes line f k (suc n) h (suc i) = small_bytes line f (suc k) n (omega arith) i

good-small : (line : List ℕ) (lines : List (List ℕ)) → Good line lines → Small (data_of line)
good-small line lines (end e nothing) = small_bytes line (formed line (end-parts line e).formed) 4 (count_of line) (omega arith)
good-small line lines (more e d m) = small_bytes line (formed line (data-parts line d).formed) 4 (count_of line) (omega arith)

good-rest : (line : List ℕ) (lines : List (List ℕ)) → Good line lines → malformed lines ≡ false
unfolding malformed
good-rest line lines (end e nothing) = rw nothing
good-rest line lines (more e d m) = m

pub small-said : (lines : List (List ℕ)) → malformed lines ≡ false → Small (said_by lines)
unfolding said_by
small-said [] h = λ i. omega arith
small-said (line ∷ lines) h =
    let g = good line lines h in
    small-append (data_of line) (said_by lines) (good-small line lines g) (small-said lines (good-rest line lines g))

neither : (a b : Bool) → (a || b) ≡ false → (a ≡ false) × (b ≡ false)
neither true b h = absurd (true≢false h)
neither false b h = (refl, h)

pub below-64k : (lines : List (List ℕ)) (count : ℕ) → malformed lines ≡ false → bad_span count lines ≡ false → count ≤ 65536 → count + length (said_by lines) ≤ 65536
unfolding said_by bad_span
below-64k [] count h b l = absurd (true≢false b)
below-64k (line ∷ lines) count h b l = go (λ n m p q. below-64k lines n m p q) (good line lines h)
  where
    size : length (data_of line ++ said_by lines) ≡ count_of line + length (said_by lines)
    size = length-append (data_of line) (said_by lines) ∙ rw (bytes-size line 4 (count_of line))

    go : ((n : ℕ) → malformed lines ≡ false → bad_span n lines ≡ false → n ≤ 65536 → n + length (said_by lines) ≤ 65536) → Good line lines → count + length (data_of line ++ said_by lines) ≤ 65536
    go rest (end e nothing) =
        let z : length (said_by lines) ≡ 0 = rw nothing in
        omega (arith, size, (end-parts line e).none)
    go rest (more e d m) =
        let t : (not (eqb (address_of line) count) || (ltb 65536 (count + count_of line) || bad_span (count + count_of line) lines)) ≡ false = rw e at b in
        let u = neither (ltb 65536 (count + count_of line)) (bad_span (count + count_of line) lines) (neither (not (eqb (address_of line) count)) (ltb 65536 (count + count_of line) || bad_span (count + count_of line) lines) t).1 in
        omega (arith, size, rest (count + count_of line) m u.1 (ltb-false 65536 (count + count_of line) u.0))

-- of every accepted text the canonical text of its bytes is accepted too and gives the same bytes
pub canonical : (text bytes : List ℕ) → ReadsAs text bytes → ReadsAs (hex_of bytes) bytes
canonical text bytes r =
    rw r.said (reads-back (said_by (text_lines text)) (small-said (text_lines text) r.lines) (omega (arith, below-64k (text_lines text) 0 r.lines r.span (omega arith))))

more-than : (n : ℕ) → (n % 16 ≡ 0 → ⊥) → record_count n ≡ suc (n / 16)
more-than n h = go (n % 16) refl
  where
    go : (r : ℕ) → n % 16 ≡ r → record_count n ≡ suc (n / 16)
    go zero e = absurd (h e)
    go (suc r) e = omega arith

-- the length of the text of bytes
pub text-length : (bytes : List ℕ) → length (hex_of bytes) ≡ text_length (length bytes)
unfolding hex_of
text-length bytes =
    length-append (data_lines (record_count (length bytes)) 0 bytes) (record_line 1 0 []) ∙ rw (record-length 1 0 []) (by-rest (eqb (length bytes % 16) 0) refl)
  where
    even : length bytes % 16 ≡ 0 → length (data_lines (record_count (length bytes)) 0 bytes) ≡ 44 * (length bytes / 16)
    even e =
        let r : record_count (length bytes) ≡ length bytes / 16 = omega arith in
        rw r (lines-length (length bytes / 16) 0 bytes (omega arith))

    odd : (length bytes % 16 ≡ 0 → ⊥) → length (data_lines (record_count (length bytes)) 0 bytes) ≡ 44 * (length bytes / 16) + (12 + 2 * (length bytes % 16))
    odd e =
        let k : ℕ = length bytes / 16 in
        let r : record_count (length bytes) ≡ suc (length bytes / 16) = more-than (length bytes) e in
        let last : List ℕ = take 16 (drop (16 * (length bytes / 16)) bytes) in
        let s : length last ≡ length bytes % 16 = ap length (take_all 16 (drop (16 * (length bytes / 16)) bytes) (omega (arith, length-drop (16 * (length bytes / 16)) bytes))) ∙ length-drop (16 * (length bytes / 16)) bytes ∙ omega arith in
        rw (r, lines-last (length bytes / 16) 0 bytes) (omega (
          arith,
          length-append (data_lines (length bytes / 16) 0 bytes) (record_line 0 (0 + 16 * (length bytes / 16)) last),
          lines-length (length bytes / 16) 0 bytes (omega arith),
          record-length 0 (0 + 16 * (length bytes / 16)) last,
          s,
        ))

    by-rest : (b : Bool) → eqb (length bytes % 16) 0 ≡ b → length (data_lines (record_count (length bytes)) 0 bytes) + (12 + 2 * 0) ≡ text_length (length bytes)
    by-rest true e = rw (even (eqb-true (length bytes % 16) 0 e), e) (omega arith)
    by-rest false e = rw (odd (eqb-false (length bytes % 16) 0 e), e) (omega arith)
