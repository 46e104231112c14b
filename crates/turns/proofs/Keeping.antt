-- Entries written to the buffer, one behind another. Assumes nothing.
use borrow.Author.Tests.{le-leb}
use mathlib.Core.Bool.{Bool, true, false}
use mathlib.Core.List.{List, [], ◌∷◌, ◌++◌, append_assoc, append-nil}
use mathlib.Core.Path.{◌≡◌, refl, sym, ◌∙◌, ap, subst}
use Prim.Native.Nat.{ℕ, zero, suc, ◌+◌, ◌-◌, ◌*◌, ◌≤◌, ◌<◌}
use native.Mathlib.Nat.{add-zero}
use native.Mathlib.Numerals.{add-one}
use native.Mathlib.Omega.{arith}
use lib.ListN.{length, take, drop, replicate, length-append, take-append-drop}
use lib.Seq.{take_at, drop_at, drop-drop, length-take-le}
use Rattle.schedule.specs.declared.Entry.{Entry}
use Rattle.schedule.specs.declared.Entry.TheVariants.{Step, Take, Steal, Enable}
use Rattle.schedule.specs.Format.{bytes_of_entry, bytes_of_entries}
use Rattle.schedule.specs.Writing.{placed, written_of, Writes}
use Rattle.rounds.specs.Rounds.{is_written}
use Rattle.turns.specs.Steps.{last_kept, kept, Puts, Keeps}
use Rattle.std.proofs.Common.{Result, Ok}
use Rattle.std.specs.Result.{result_unwrap_or}
use Rattle.schedule.specs.declared.NoRoom.{NoRoom}

-- "when .. fewer than 3 bytes are left": an entry has 2 or 3
pub short : (e : Entry) → (2 ≤ length (bytes_of_entry e)) × (length (bytes_of_entry e) ≤ 3)
short (Step c) = (omega arith, omega arith)
short (Take c) = (omega arith, omega arith)
short (Steal c t) = (omega arith, omega arith)
short (Enable t) = (omega arith, omega arith)

-- the bytes of entries behind others
pub bytes-append : (es ds : List Entry) → bytes_of_entries (es ++ ds) ≡ bytes_of_entries es ++ bytes_of_entries ds
unfolding bytes_of_entries
bytes-append [] ds = refl
bytes-append (e ∷ es) ds = ap (λ (l : List ℕ). bytes_of_entry e ++ l) (bytes-append es ds) ∙ sym (append_assoc (bytes_of_entry e) (bytes_of_entries es) (bytes_of_entries ds))

pub many-append : (es ds : List Entry) → length (bytes_of_entries (es ++ ds)) ≡ length (bytes_of_entries es) + length (bytes_of_entries ds)
many-append es ds = ap length (bytes-append es ds) ∙ length-append (bytes_of_entries es) (bytes_of_entries ds)

-- of one entry again and again
module _ (e : Entry) where
  pub row_more : (n : ℕ) → bytes_of_entries (replicate n e) ++ bytes_of_entry e ≡ bytes_of_entries (replicate (suc n) e)
  unfolding bytes_of_entries
  row_more zero = sym (append-nil (bytes_of_entry e))
  row_more (suc n) = append_assoc (bytes_of_entry e) (bytes_of_entries (replicate n e)) (bytes_of_entry e) ∙ ap (λ (l : List ℕ). bytes_of_entry e ++ l) (row_more n)

  pub row_fits : (i n : ℕ) → i < n → length (bytes_of_entries (replicate i e)) + length (bytes_of_entry e) ≤ length (bytes_of_entries (replicate n e))
  unfolding bytes_of_entries
  row_fits i zero l = absurd (omega (arith, l))
  row_fits zero (suc n) l = omega (arith, length-append (bytes_of_entry e) (bytes_of_entries (replicate n e)))
  row_fits (suc i) (suc n) l =
      omega (arith, row_fits i n (omega (arith, l)), length-append (bytes_of_entry e) (bytes_of_entries (replicate i e)), length-append (bytes_of_entry e) (bytes_of_entries (replicate n e)))

  pub row-many : (n : ℕ) → length (bytes_of_entry e) ≡ 2 → length (bytes_of_entries (replicate n e)) ≡ 2 * n
  unfolding bytes_of_entries
  row-many zero two = refl
  row-many (suc n) two = length-append (bytes_of_entry e) (bytes_of_entries (replicate n e)) ∙ omega (arith, two, row-many n two)

  -- the last one
  pub last-bytes : (log : ℕ) → is_written log ≡ true → bytes_of_entries (last_kept e log) ≡ bytes_of_entry e
  unfolding bytes_of_entries
  last-bytes log h = rw h (append-nil (bytes_of_entry e))

  pub last_none : (log : ℕ) → is_written log ≡ false → bytes_of_entries (last_kept e log) ≡ []
  unfolding bytes_of_entries
  last_none log h = rw h

  pub last-few : (log : ℕ) → length (bytes_of_entries (last_kept e log)) ≤ 3
  last-few log = by (is_written log) refl
    where
      by : (b : Bool) → is_written log ≡ b → length (bytes_of_entries (last_kept e log)) ≤ 3
      by true h = rw (last-bytes log h) (short e).1
      by false h = rw (last_none log h) (omega arith)

-- nothing is written
pub puts_none : (b : List ℕ) (at : ℕ) → Puts [] b at at b
puts_none b at = record {
  position = sym (add-zero at);
  buffer = rw add-zero (sym (take-append-drop at b));
}

-- bytes behind others
pub puts-more : (xs ys b b' b'' : List ℕ) (at p q : ℕ) → at ≤ length b → Puts xs b at p b' → Puts ys b' p q b'' → Puts (xs ++ ys) b at q b''
puts-more xs ys b b' b'' at p q low h k =
    let front : length (take at b ++ xs) ≡ p = length-append (take at b) xs ∙ omega (arith, h.position, length-take-le at b low) in
    let is : b' ≡ (take at b ++ xs) ++ drop p b = h.buffer ∙ ap (λ (n : ℕ). take at b ++ (xs ++ drop n b)) (sym h.position) ∙ sym (append_assoc (take at b) xs (drop p b)) in
    let head : take p b' ≡ take at b ++ xs = ap (take p) is ∙ take_at (take at b ++ xs) (drop p b) p front in
    let tail : drop (p + length ys) b' ≡ drop (p + length ys) b =
    sym (drop-drop (length ys) p b') ∙ ap (λ (l : List ℕ). drop (length ys) (drop p l)) is ∙ ap (drop (length ys)) (drop_at (take at b ++ xs) (drop p b) p front) ∙ drop-drop (length ys) p b
    in
    let all : p + length ys ≡ at + length (xs ++ ys) = omega (arith, h.position, length-append xs ys) in
    record {
      position = k.position ∙ all;
      buffer = k.buffer ∙ rw (head, tail, all)
          (append_assoc (take at b) xs (ys ++ drop (at + length (xs ++ ys)) b) ∙ ap (λ (l : List ℕ). take at b ++ l) (sym (append_assoc xs ys (drop (at + length (xs ++ ys)) b))));
    }

-- one entry where it fits
module _ (e : Entry) (b : List ℕ) (at : ℕ) (room : at + length (bytes_of_entry e) ≤ length b) where
  pub puts : (r : Result ℕ NoRoom) (n : ℕ) (after : List ℕ) → Writes (bytes_of_entry e) b at r after → n ≡ result_unwrap_or r 0 → Puts (bytes_of_entry e) b at (at + n) after
  unfolding placed written_of
  puts r n after w is =
      let all : r ≡ Ok (length (bytes_of_entry e)) = w.answer ∙ rw (le-leb _ _ room) in
      let many : n ≡ length (bytes_of_entry e) = is ∙ ap (λ (x : Result ℕ NoRoom). result_unwrap_or x 0) all in
      record {
        position = rw many;
        buffer = w.buffer ∙ rw (le-leb _ _ room, append_assoc);
      }

-- none stands there yet
pub first : (e : Entry) (b : List ℕ) (at : ℕ) → Puts (bytes_of_entries (replicate 0 e)) b at at b
unfolding bytes_of_entries
first e b at = puts_none b at

-- an entry that is kept: so many of it are written, and then the last
module _ (e : Entry) (again log : ℕ) (b : List ℕ) (at : ℕ) (room : at + length (bytes_of_entries (kept e again log)) ≤ length b) where
  all_fit : at + length (bytes_of_entries (replicate again e)) + length (bytes_of_entries (last_kept e log)) ≤ length b
  all_fit = omega (arith, room, many-append (replicate again e) (last_kept e log))

  module _ (p : ℕ) (b' : List ℕ) (same : length b' ≡ length b) where
    -- i of them are
    module _ (i : ℕ) (h : Puts (bytes_of_entries (replicate i e)) b at p b') where
      pub next_fits : i < again → p + length (bytes_of_entry e) ≤ length b'
      next_fits l = omega (arith, same, all_fit, h.position, row_fits e i again l)

      pub one_more : (q : ℕ) (b'' : List ℕ) → Puts (bytes_of_entry e) b' p q b'' → Puts (bytes_of_entries (replicate (i + 1) e)) b at q b''
      one_more q b'' k = subst (λ (l : List ℕ). Puts l b at q b'') (row_more e i ∙ ap (λ (n : ℕ). bytes_of_entries (replicate n e)) (sym (add-one i))) (puts-more _ _ b b' b'' at p q (omega (arith, all_fit)) h k)

    -- all of them are
    module _ (h : Puts (bytes_of_entries (replicate again e)) b at p b') where
      pub last_fits : is_written log ≡ true → p + length (bytes_of_entry e) ≤ length b'
      last_fits w = omega (arith, same, all_fit, h.position, ap length (last-bytes e log w))

      pub all-kept : is_written log ≡ true → (q : ℕ) (b'' : List ℕ) → Puts (bytes_of_entry e) b' p q b'' → Keeps e again log b at q b''
      all-kept w q b'' k =
          subst (λ (l : List ℕ). Puts l b at q b'') (ap (λ (l : List ℕ). bytes_of_entries (replicate again e) ++ l) (sym (last-bytes e log w)) ∙ sym (bytes-append (replicate again e) (last_kept e log)))
          (puts-more _ _ b b' b'' at p q (omega (arith, all_fit)) h k)

      pub not-kept : is_written log ≡ false → Keeps e again log b at p b'
      not-kept w =
          subst (λ (l : List ℕ). Puts l b at p b')
          (sym (append-nil _) ∙ ap (λ (l : List ℕ). bytes_of_entries (replicate again e) ++ l) (sym (last_none e log w)) ∙ sym (bytes-append (replicate again e) (last_kept e log))) h
