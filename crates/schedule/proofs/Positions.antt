-- Where the entries of an accepted schedule start: reading there finds them in order, and then the end. Assumes nothing.
use mathlib.Core.Path.{◌≡◌}
use mathlib.Core.List.{List, [], ◌∷◌}
use Prim.Native.Nat.{ℕ, zero, suc, ◌+◌, ◌<◌}
use native.Mathlib.Nat.{zero-add, add-zero, add_assoc}
use native.Mathlib.Omega.{arith}
use lib.ListN.{length, get_or, drop}
use Rattle.schedule.proofs.Following.{next-entry, no-entry, accepted}
use Rattle.schedule.specs.Format.{bytes_of_entry, entry_at}
use Rattle.schedule.specs.Meaning.{entries_of, schedule_of}
use Rattle.schedule.specs.declared.Entry.{Entry}
use Rattle.std.proofs.Common.{Some, None, Ok}

-- the position after the first k entries
abbrev pub position_of : List Entry → ℕ → ℕ
position_of es zero = 0
position_of [] (suc k) = 0
position_of (e ∷ es) (suc k) = length (bytes_of_entry e) + position_of es k

-- from a position on, where the entries es are left
entry-from : (s : List ℕ) (at : ℕ) (es : List Entry) (k : ℕ) (d : Entry) → entries_of (drop at s) ≡ Ok es → k < length es
    → entry_at s (at + position_of es k) ≡ Ok (Some (get_or es k d, at + position_of es (suc k)))
entry-from s at [] k d h l = absurd (omega arith)
entry-from s at (e ∷ es) zero d h l = rw (add-zero, add-zero) (next-entry s at e es h).read
entry-from s at (e ∷ es) (suc k) d h l =
    rw (← add_assoc at (length (bytes_of_entry e)) (position_of es k), ← add_assoc at (length (bytes_of_entry e)) (position_of es (suc k)))
    (entry-from s (at + length (bytes_of_entry e)) es k d (next-entry s at e es h).rest (omega arith))

end-from : (s : List ℕ) (at : ℕ) (es : List Entry) → entries_of (drop at s) ≡ Ok es → entry_at s (at + position_of es (length es)) ≡ Ok None
end-from s at [] h = rw add-zero (no-entry s at h)
end-from s at (e ∷ es) h =
    rw (← add_assoc at (length (bytes_of_entry e)) (position_of es (length es)))
    (end-from s (at + length (bytes_of_entry e)) es (next-entry s at e es h).rest)

-- reading after the first k entries of an accepted schedule gives entry k and the position after it
pub entry-number : (s : List ℕ) (es : List Entry) (k : ℕ) (d : Entry) → schedule_of s ≡ Ok es → k < length es
    → entry_at s (position_of es k) ≡ Ok (Some (get_or es k d, position_of es (suc k)))
entry-number s es k d h l = rw (← zero-add (position_of es k), ← zero-add (position_of es (suc k))) (entry-from s 0 es k d (accepted s es h).means l)

-- and after the last the end
pub end-position : (s : List ℕ) (es : List Entry) → schedule_of s ≡ Ok es → entry_at s (position_of es (length es)) ≡ Ok None
end-position s es h = rw (← zero-add (position_of es (length es))) (end-from s 0 es (accepted s es h).means)
