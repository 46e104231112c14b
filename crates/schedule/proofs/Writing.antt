-- Laws of bytes put into a buffer, and of entries written and read. Assumes nothing.
use mathlib.Core.Path.{◌≡◌, refl, ap, ◌∙◌}
use mathlib.Core.List.{List, ◌++◌, append_assoc}
use Prim.Native.Nat.{ℕ, ◌+◌, ◌≤◌, ◌<◌}
use native.Mathlib.Omega.{arith}
use borrow.Author.Tests.{le-leb, lt-leb}
use lib.ListN.{length, take, drop, take-append-drop}
use lib.Seq.{drop_at, length-take-le}
use Rattle.schedule.proofs.Standing.{FoundAt, found, reads-entry}
use Rattle.schedule.specs.Format.{bytes_of_entry, entry_at}
use Rattle.schedule.specs.Writing.{placed, written_of, number_of_written, Writes}
use Rattle.schedule.specs.declared.Entry.{Entry}
use Rattle.std.proofs.Common.{Some, Ok, Err}

module _ (bytes b : List ℕ) (at : ℕ) where
  -- without room nothing is written
  pub no_room : length b < at + length bytes → Writes bytes b at (Err (record {})) b
  unfolding placed written_of
  no_room h = record {
    answer = rw (lt-leb _ _ h);
    number25 = (λ p. h, λ l. refl);
    number0 = (λ p. absurd (omega arith), ap number_of_written);
    buffer = rw (lt-leb _ _ h);
  }

  -- with room they stand there
  pub room : at + length bytes ≤ length b → (after : List ℕ) → after ≡ take at b ++ bytes ++ drop (at + length bytes) b → Writes bytes b at (Ok (length bytes)) after
  unfolding placed written_of
  room h after is = record {
    answer = rw (le-leb _ _ h);
    number25 = (λ p. absurd (omega arith), λ l. absurd (omega arith));
    number0 = (λ p. refl, λ p. refl);
    buffer = is ∙ rw (le-leb _ _ h);
  }

-- a written entry reads back as itself, with the position after its bytes
pub reads-written : (e : Entry) (b : List ℕ) (at : ℕ) → at + length (bytes_of_entry e) ≤ length b → entry_at (placed (bytes_of_entry e) b at) at ≡ Ok (Some (e, at + length (bytes_of_entry e)))
unfolding placed
reads-written e b at h =
    let rest : List ℕ = drop (at + length (bytes_of_entry e)) b in
    let d : drop at ((take at b ++ bytes_of_entry e) ++ rest) ≡ bytes_of_entry e ++ rest = rw append_assoc (drop_at (take at b) (bytes_of_entry e ++ rest) at (length-take-le at b (omega arith))) in
    rw (le-leb _ _ h) (reads-entry ((take at b ++ bytes_of_entry e) ++ rest) at e rest d)

-- what is read is written again as the same bytes
pub writes-read : (e : Entry) (s : List ℕ) (at next : ℕ) → entry_at s at ≡ Ok (Some (e, next)) → placed (bytes_of_entry e) s at ≡ s
unfolding placed
writes-read e s at next h =
    let f : FoundAt s at e next = found s at e next h in
    let l : at + length (bytes_of_entry e) ≤ length s = omega (arith, f.after, f.within) in
    rw (le-leb _ _ l, append_assoc, ← f.after, ← f.bytes) (take-append-drop at s)
