-- What reading an entry gives, each answer exactly under its condition. Assumes nothing.
use mathlib.Core.List.{List}
use mathlib.Core.Logic.{◌↔◌, ◌⊎◌, inl, inr}
use mathlib.Core.Path.{◌≡◌, refl, sym, ◌∙◌, ap}
use Prim.Native.Nat.{ℕ, ◌+◌, ◌-◌, ◌≤◌, ◌<◌}
use native.Mathlib.Decide.{dec_le}
use native.Mathlib.Omega.{arith}
use lib.ListN.{length, drop, length-drop}
use Rattle.schedule.proofs.Standing.{found, ended, reads_end, reads-entry}
use Rattle.schedule.specs.Format.{EntryRead, bytes_of_entry, entry_at, number_of_entry_read, StandsAt, EntryAnswer}
use Rattle.schedule.specs.declared.Entry.{Entry}
use Rattle.std.proofs.Common.{Some, None, Ok, Err}

module _ (s : List ℕ) (at : ℕ) where
  -- an entry that is found stands there, and one that stands there is found
  stands : (e : Entry) (next : ℕ) → entry_at s at ≡ Ok (Some (e, next)) → StandsAt s at e
  stands e next h = (drop next s, (found s at e next h).bytes)

  finds : (e : Entry) → StandsAt s at e → entry_at s at ≡ Ok (Some (e, at + length (bytes_of_entry e)))
  finds e (rest, h) = reads-entry s at e rest h

  -- the end is met where nothing is left
  nothing : entry_at s at ≡ Ok None → length s ≤ at
  nothing h =
      let none : length s - at ≡ 0 = rw length-drop at (ap length (ended s at h)) in
      omega arith

  -- what is read, seen with the reason
  data Seen : EntryRead → Type 0 where
    one : (e : Entry) (next : ℕ) → StandsAt s at e → at < length s → Seen (Ok (Some (e, next)))
    end : length s ≤ at → ((e : Entry) → ¬ (StandsAt s at e)) → Seen (Ok None)
    bad : at < length s → ((e : Entry) → ¬ (StandsAt s at e)) → Seen (Err (record {}))

  seen : (r : EntryRead) → entry_at s at ≡ r → Seen r
  seen (Ok (Some (e, next))) h = let f = found s at e next h in one e next (stands e next h) (omega (arith, f.wide, f.within))
  seen (Ok None) h = end (nothing h) (λ e st. let k = finds e st in let z : ◌≡◌ {A = ℕ} 0 1 = cc in omega arith)
  seen (Err _) h = bad (some (dec_le (length s) at)) (λ e st. let k = finds e st in let z : ◌≡◌ {A = ℕ} 0 1 = cc in omega arith)
    where
      some : Dec (length s ≤ at) → at < length s
      some (yes l) = let k = reads_end s at l in let z : ◌≡◌ {A = ℕ} 0 1 = cc in absurd (omega arith)
      some (no l) = omega arith

  read-13 : {r : EntryRead} → Seen r → (number_of_entry_read r ≡ 13) ↔ ((at < length s) × ((e : Entry) → ¬ (StandsAt s at e)))
  read-13 (one e next st l) = (λ p. absurd (omega arith), λ c. absurd (c.1 e st))
  read-13 (end l n) = (λ p. absurd (omega arith), λ c. absurd (omega (arith, c.0)))
  read-13 (bad l n) = (λ p. (l, n), λ c. refl)

  read-0 : {r : EntryRead} → Seen r → (number_of_entry_read r ≡ 0) ↔ ((length s ≤ at) ⊎ ((e : Entry) × StandsAt s at e))
  read-0 (one e next st l) = (λ p. inr (e, st), λ c. refl)
  read-0 (end l n) = (λ p. inl l, λ c. refl)
  read-0 (bad l n) = (λ p. absurd (omega arith), λ c. absurd (neither c))
    where
      neither : (length s ≤ at) ⊎ ((e : Entry) × StandsAt s at e) → ⊥
      neither (inl h) = omega arith
      neither (inr (e, st)) = n e st

  pub answers : (r : EntryRead) → r ≡ entry_at s at → EntryAnswer s at r
  answers r is =
      let what : Seen r = seen r (sym is) in
      record {
        is = is;
        number13 = read-13 what;
        number0 = read-0 what;
        ends = (λ p. nothing (sym is ∙ p), λ l. is ∙ reads_end s at l);
        finds = λ e. (λ p. stands e (at + length (bytes_of_entry e)) (sym is ∙ p), λ st. is ∙ finds e st);
      }
