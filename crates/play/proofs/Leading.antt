-- The entries at a schedule's front are those that reading finds one after another. Assumes nothing.
use mathlib.Core.Bool.{Bool, true, false, cond, true≢false}
use mathlib.Core.List.{List, [], ◌∷◌, ◌++◌}
use mathlib.Core.Path.{◌≡◌, refl, sym, ap, ◌∙◌}
use Prim.Native.Nat.{ℕ, zero, suc, ◌+◌, ◌*◌, ◌≤◌, ◌<◌}
use native.Mathlib.Omega.{arith}
use lib.Dec.{eqb}
use lib.ListN.{length, drop, replicate}
use lib.Seq.{drop-drop}
use Rattle.schedule.specs.declared.Entry.{Entry}
use Rattle.schedule.specs.declared.Entry.TheVariants.{Step, Steal}
use Rattle.schedule.specs.Format.{EntryRead, bytes_of_entry, entry_in, entry_at}
use Rattle.schedule.specs.Meaning.{entries_of}
use Rattle.schedule.proofs.Standing.{found}
use Rattle.reader.specs.Row.{StepsRow}
use Rattle.schedule.proofs.Following.{one_map, next-entry, no-entry}
use Rattle.play.specs.Entries.{leading}
use Rattle.std.proofs.Common.{Option, Some, None, Ok, Err, is_some}
use Rattle.std.specs.Result.{result_unwrap_or}

-- the entries from what was read at a position on
abbrev from : List ℕ → EntryRead → List Entry
from s (Ok (Some (e, next))) = e ∷ leading (drop next s)
from s (Ok None) = []
from s (Err _) = []

from-steal : (s : List ℕ) (a : Bool) (e : Entry) (n : ℕ) (l : List ℕ) (r : EntryRead) (t : List Entry) → drop n s ≡ l → t ≡ from s r
    → cond a (e ∷ leading l) t ≡ from s (cond a (Ok (Some (e, n))) r)
from-steal s true e n l r t h k = rw h
from-steal s false e n l r t h k = k

in-leads : (s : List ℕ) (at : ℕ) (l : List ℕ) → drop at s ≡ l → leading l ≡ from s (entry_in at l)
unfolding leading entry_in
in-leads s at [] h = refl
in-leads s at (k ∷ []) h = refl
in-leads s at (k ∷ x ∷ []) h =
    let d : drop (at + 2) s ≡ [] = sym (drop-drop 2 at s) ∙ ap (drop 2) h in
    sym (one_map (from s) x (λ e. Ok (Some (e, at + 2))) (Err (record {})) (eqb k 1) (eqb k 2) (eqb k 4) ∙ rw d)
in-leads s at (k ∷ x ∷ y ∷ rest) h =
    let d : drop (at + 2) s ≡ y ∷ rest = sym (drop-drop 2 at s) ∙ ap (drop 2) h in
    let t : drop (at + 3) s ≡ rest = sym (drop-drop 3 at s) ∙ ap (drop 3) h in
    from-steal s (eqb k 3) (Steal x y) (at + 3) rest _ _ t (sym (one_map (from s) x (λ e. Ok (Some (e, at + 2))) (Err (record {})) (eqb k 1) (eqb k 2) (eqb k 4) ∙ rw d))

none-some : (o : Option (Entry × ℕ)) (e : Entry) (next : ℕ) → o ≡ Some (e, next) → ¬ (o ≡ None)
none-some o e next some none = true≢false (sym (ap is_some some) ∙ ap is_some none)

module _ (s : List ℕ) (at : ℕ) where
  leads : leading (drop at s) ≡ from s (entry_at s at)
  unfolding entry_at
  leads = in-leads s at (drop at s) refl

  -- an entry is read
  pub leads-found : (e : Entry) (next : ℕ) → entry_at s at ≡ Ok (Some (e, next)) → leading (drop at s) ≡ e ∷ leading (drop next s)
  leads-found e next h = leads ∙ ap (from s) h

  -- none is
  pub leads-none : (r : EntryRead) (o : Option (Entry × ℕ)) → r ≡ entry_at s at → o ≡ result_unwrap_or r None → ((e : Entry) (next : ℕ) → o ≡ Some (e, next) → ⊥) → leading (drop at s) ≡ []
  leads-none (Ok (Some (e, next))) o is what none = absurd (none e next what)
  leads-none (Ok None) o is what none = leads ∙ ap (from s) (sym is)
  leads-none (Err _) o is what none = leads ∙ ap (from s) (sym is)

  -- what was read, by its parts
  pub read-here : (r : EntryRead) (o : Option (Entry × ℕ)) (e : Entry) (next : ℕ) → r ≡ entry_at s at → o ≡ result_unwrap_or r None → o ≡ Some (e, next) → entry_at s at ≡ Ok (Some (e, next))
  read-here (Ok x) o e next is what some = sym is ∙ ap (λ (o : Option (Entry × ℕ)). Ok o) (sym what ∙ some)
  read-here (Err _) o e next is what some = absurd (none-some o e next some what)

  pub step-here : (r : EntryRead) (o : Option (Entry × ℕ)) (e : Entry) (c next : ℕ) → r ≡ entry_at s at → o ≡ result_unwrap_or r None → o ≡ Some (e, next) → e ≡ Step c
      → entry_at s at ≡ Ok (Some (Step c, next))
  step-here r o e c next is what some step = read-here r o e next is what some ∙ ap (λ (e : Entry). Ok (Some (e, next))) step

-- a row of steps is read
pub leads-row : (s : List ℕ) (c r at : ℕ) → ((i : ℕ) → i < r → entry_at s (at + 2 * i) ≡ Ok (Some (Step c, at + 2 * i + 2)))
    → leading (drop at s) ≡ replicate r (Step c) ++ leading (drop (at + 2 * r) s)
leads-row s c zero at each = let same : at ≡ at + 2 * 0 = omega arith in ap (λ (n : ℕ). leading (drop n s)) same
leads-row s c (suc r) at each =
    let front : at ≡ at + 2 * 0 = omega arith in
    let here : entry_at s at ≡ Ok (Some (Step c, at + 2)) =
    ap (entry_at s) front ∙ each 0 (omega arith) ∙ ap (λ (n : ℕ). Ok (Some (Step c, n + 2))) (sym front)
    in
    let later : (i : ℕ) → i < r → entry_at s (at + 2 + 2 * i) ≡ Ok (Some (Step c, at + 2 + 2 * i + 2)) =
    λ i l.
    let there : at + 2 + 2 * i ≡ at + 2 * suc i = omega arith in
    ap (entry_at s) there ∙ each (suc i) (omega (arith, l)) ∙ ap (λ (n : ℕ). Ok (Some (Step c, n + 2))) (sym there)
    in
    let behind : at + 2 + 2 * r ≡ at + 2 * suc r = omega arith in
    leads-found s at (Step c) (at + 2) here
    ∙ ap (λ (l : List Entry). Step c ∷ l) (leads-row s c r (at + 2) later ∙ ap (λ (n : ℕ). replicate r (Step c) ++ leading (drop n s)) behind)

-- an accepted schedule's entries are all at its front
pub leads-all : (s : List ℕ) (es : List Entry) (at : ℕ) → entries_of (drop at s) ≡ Ok es → leading (drop at s) ≡ es
leads-all s [] at h = leads s at ∙ ap (from s) (no-entry s at h)
leads-all s (e ∷ es) at h =
    let n = next-entry s at e es h in
    leads-found s at e (at + length (bytes_of_entry e)) n.read ∙ ap (λ (l : List Entry). e ∷ l) (leads-all s es (at + length (bytes_of_entry e)) n.rest)

-- it ends within the schedule
pub row_within : (s : List ℕ) (next c more follow : ℕ) → StepsRow s next c more → follow ≤ more → next ≤ length s → next + 2 * follow ≤ length s
row_within s next c more zero row few l = omega (arith, l)
row_within s next c more (suc follow) row few l =
    omega (arith, (found s (next + 2 * follow) (Step c) (next + 2 * follow + 2) (row.each follow (omega (arith, few)))).within)
