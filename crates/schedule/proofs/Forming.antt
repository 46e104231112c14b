-- A schedule is read as entries exactly where it is their bytes, and refused exactly where it is no entries' bytes. Assumes nothing.
use mathlib.Core.List.{List}
use mathlib.Core.Logic.{◌↔◌}
use mathlib.Core.Path.{◌≡◌, refl, ◌∙◌, ap, subst}
use Prim.Native.Nat.{ℕ, ◌≤◌}
use native.Mathlib.Omega.{arith}
use lib.ListN.{length}
use Rattle.schedule.proofs.Following.{accepted, accepts-short}
use Rattle.schedule.specs.Meaning.{Schedule, schedule_of, IsSchedule, WellFormed}
use Rattle.schedule.specs.declared.Entry.{Entry}
use Rattle.std.proofs.Common.{Ok, Err}

module _ (s : List ℕ) where
  pub read_as : (es : List Entry) → schedule_of s ≡ Ok es → IsSchedule s es
  read_as es h = let a = accepted s es h in record { bytes = a.bytes; short = a.short }

  pub reads_as : (es : List Entry) → IsSchedule s es → schedule_of s ≡ Ok es
  reads_as es w = ap schedule_of w.bytes ∙ accepts-short es (subst (λ (l : List ℕ). length l ≤ 32768) w.bytes w.short)

  pub means : (es : List Entry) → (schedule_of s ≡ Ok es) ↔ IsSchedule s es
  means es = (read_as es, reads_as es)

  never_both : (es : List Entry) → schedule_of s ≡ Err (record {}) → schedule_of s ≡ Ok es → ⊥
  never_both es p q = let z : ◌≡◌ {A = ℕ} 0 1 = cc in omega arith

  unread : ¬ (WellFormed s) → schedule_of s ≡ Err (record {})
  unread n = go (schedule_of s) refl
    where
      go : (x : Schedule) → schedule_of s ≡ x → schedule_of s ≡ Err (record {})
      go (Ok es) h = absurd (n (es, read_as es h))
      go (Err _) h = h

  pub malforms : (schedule_of s ≡ Err (record {})) ↔ (¬ (WellFormed s))
  malforms = (λ h. λ (es, w). never_both es h (reads_as es w), unread)
