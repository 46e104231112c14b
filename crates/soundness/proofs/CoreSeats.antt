-- `Seats`, "running threads and cores match", after a change that gives one core another thread or none (`seats-move`), and after one
-- that leaves the cores alone (`seats-same`). Assumes nothing.
use mathlib.Core.Path.{◌≡◌, sym, ◌∙◌, ap}
use Prim.Native.Nat.{ℕ, ◌<◌, ◌≤◌}
use native.Mathlib.Decide.{ℕ_discrete}
use native.Mathlib.Omega.{arith}
use lib.ListN.{set, length}
use lib.Seq.{get_or-set_same, get_or-set_other}
use Rattle.thread.specs.declared.Thread.{Thread}
use Rattle.thread.specs.Thread.{none}
use Rattle.rules.specs.State.{State, thread_at, on_core}
use Rattle.rules.specs.Sound.{status_at, Seats}
use Rattle.soundness.proofs.Changes.{standing}

-- a record has a status exactly where the one before had it
pub record Same (k : ℕ) (h h' : Thread) : Type 0 where
  pub to : standing h ≡ k → standing h' ≡ k
  pub from : standing h' ≡ k → standing h ≡ k

pub same_refl : (k : ℕ) (h : Thread) → Same k h h
same_refl k h = record { to = λ e. e; from = λ e. e }

-- neither record has the status
pub neither : (k : ℕ) (h h' : Thread) → ¬ (standing h ≡ k) → ¬ (standing h' ≡ k) → Same k h h'
neither k h h' f g = record { to = λ e. absurd (f e); from = λ e. absurd (g e) }

-- thread u where a core was given x (none for no thread) in the place of old
pub data Seat (old x u : ℕ) (h h' : Thread) : Type 0 where
  -- it is the one that came
  came : u ≡ x → Seat old x u h h'
  -- it was on the core, and runs no more
  went : u ≡ old → ¬ (standing h' ≡ 1) → Seat old x u h h'
  -- it was not, and runs where it did
  sits : (standing h ≡ 1 → ¬ (u ≡ old)) → Same 1 h h' → Seat old x u h h'

module _ (s s' : State) (ok : Seats s) (wide : s.count ≤ length s.cores) (c x : ℕ) (l : c < s.count)
    (cores : s'.cores ≡ set s.cores c x) (count : s'.count ≡ s.count)
    (view : (u : ℕ) → Seat (on_core s c) x u (thread_at s u) (thread_at s' u))
    (runs-x : x < none → status_at s' x ≡ 1) (new : x < none → ¬ (status_at s x ≡ 1)) where
  on-here : on_core s' c ≡ x
  on-here = rw cores (get_or-set_same s.cores c x 0 (omega arith))

  on-there : (d : ℕ) → ¬ (d ≡ c) → on_core s' d ≡ on_core s d
  on-there d n = rw cores (get_or-set_other s.cores c d x 0 n)

  pub seats-move : Seats s'
  seats-move = record {
    runs = λ d m. runs d (rw count at m) (ℕ_discrete d c);
    seated = λ u e. seated u e (view u);
    one = λ d e m n. one d e (rw count at m) (rw count at n) (ℕ_discrete d c) (ℕ_discrete e c);
  }
    where
      other : (d : ℕ) → d < s.count → ¬ (d ≡ c) → on_core s d < none
          → Seat (on_core s c) x (on_core s d) (thread_at s (on_core s d)) (thread_at s' (on_core s d)) → status_at s' (on_core s d) ≡ 1
      other d m n k (came e) = rw e (runs-x (rw e at k))
      other d m n k (went e _) = absurd (n (ok.one d c m l k e))
      other d m n k (sits _ f) = f.to (ok.runs d m k)

      runs : (d : ℕ) → d < s.count → Dec (d ≡ c) → on_core s' d < none → status_at s' (on_core s' d) ≡ 1
      runs d m (yes e) k = rw (e, on-here) (runs-x (rw (e, on-here) at k))
      runs d m (no n) k = rw (on-there d n) (other d m n (rw (on-there d n) at k) (view (on_core s d)))

      seated : (u : ℕ) → status_at s' u ≡ 1 → Seat (on_core s c) x u (thread_at s u) (thread_at s' u) → (d : ℕ) × (d < s'.count) × (on_core s' d ≡ u)
      seated u h (came e) = (c, rw count l, on-here ∙ sym e)
      seated u h (went _ n) = absurd (n h)
      seated u h (sits n f) =
          let z = ok.seated u (f.from h) in
          (z.0, rw count z.1, on-there z.0 (λ e. n (f.from h) (sym z.2 ∙ ap (on_core s) e)) ∙ z.2)

      lone : (d : ℕ) → d < s.count → ¬ (d ≡ c) → on_core s d ≡ x → x < none → ⊥
      lone d m n e k = new k (rw e at (ok.runs d m (rw e k)))

      one : (d e : ℕ) → d < s.count → e < s.count → Dec (d ≡ c) → Dec (e ≡ c) → on_core s' d < none → on_core s' d ≡ on_core s' e → d ≡ e
      one d e m n (yes p) (yes q) h k = p ∙ sym q
      one d e m n (yes p) (no q) h k = absurd (lone e n q (sym (on-there e q) ∙ sym k ∙ ap (on_core s') p ∙ on-here) (rw (p, on-here) at h))
      one d e m n (no p) (yes q) h k =
          let z : on_core s' d ≡ x = k ∙ ap (on_core s') q ∙ on-here in
          absurd (lone d m p (sym (on-there d p) ∙ z) (rw z at h))
      one d e m n (no p) (no q) h k = ok.one d e m n (rw (on-there d p) at h) (sym (on-there d p) ∙ k ∙ on-there e q)

pub seats-same : (s s' : State) → Seats s → s'.cores ≡ s.cores → s'.count ≡ s.count → ((u : ℕ) → Same 1 (thread_at s u) (thread_at s' u))
    → Seats s'
seats-same s s' ok cores count view = record {
  runs = λ c l h. rw cores ((view _).to (ok.runs c (rw count at l) (rw cores at h)));
  seated = λ t e. rw (count, cores) (ok.seated t ((view t).from e));
  one = λ c d l m h e. ok.one c d (rw count at l) (rw count at m) (rw cores at h) (rw cores at e);
}
