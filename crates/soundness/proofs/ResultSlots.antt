-- `Results`, "unended children's result slots are pending and distinct": so a thread that may return has no children (`clear-childless`),
-- and a fork, whose result slot is not pending, makes no second child for it (`results-born`). Assumes nothing.
use mathlib.Core.Bool.{true, false}
use mathlib.Core.Logic.{◌⊎◌, ⊎_elim}
use mathlib.Core.Path.{◌≡◌, refl, sym, ◌∙◌, ap}
use Prim.Native.Nat.{ℕ, ◌<◌}
use native.Mathlib.Decide.{ℕ_discrete}
use native.Mathlib.Omega.{arith}
use lib.ListN.{length}
use Rattle.thread.specs.declared.Thread.{Thread}
use Rattle.thread.specs.Thread.{is_pending}
use Rattle.rules.specs.State.{State, thread_at}
use Rattle.rules.specs.Sound.{status_at, Used, Tree, Results, parent_at}
use Rattle.soundness.proofs.Changes.{pending_at, result_at, used_low}
use Rattle.soundness.proofs.LentThreads.{not-both}
use Rattle.soundness.proofs.ForkTree.{Stays, Childless}

-- a child of a thread in use is not the root
pub not_root : (s : State) → length s.threads ≡ 32 → Tree s → (t : ℕ) → Used s t → (u : ℕ) → Used s u → parent_at s u ≡ t → ¬ (u ≡ 0)
not_root s many tree t h u k e z = ⊎_elim (λ y. let a = y.1 in let b = used_low s many t h in omega arith) (λ y. y.0 z) (tree.tree u k)

-- a thread of which no result slot below 16 is pending has no children
pub clear-childless : (s : State) → length s.threads ≡ 32 → Tree s → Results s → ((u : ℕ) → Used s u → result_at s u < 16)
    → (t : ℕ) → Used s t → ((k : ℕ) → k < 16 → is_pending (pending_at s t) k ≡ false) → Childless s t
clear-childless s many tree ok ranged t h clear u k e =
    not-both _ (ap (λ p. is_pending (pending_at s p) (result_at s u)) (sym e) ∙ ok.pending u k (not_root s many tree t h u k e))
    (clear (result_at s u) (ranged u k))

-- slots pending in a record stay pending in the other
abbrev pub Pends : Thread → Thread → Type 0
Pends h h' = (k : ℕ) → is_pending h.family.pending k ≡ true → is_pending h'.family.pending k ≡ true

-- no child is born; a thread with children keeps its pending slots
pub results-living : (s s' : State) → Results s → ((u : ℕ) → Used s' u → Stays (thread_at s u) (thread_at s' u))
    → ((u : ℕ) → Childless s u ⊎ Pends (thread_at s u) (thread_at s' u)) → Results s'
results-living s s' ok view pends = record {
  pending = λ u h m.
      let k = view u h in
      let g = k.from h in
      rw (k.parent, k.result) (⊎_elim (λ none. absurd (none u g refl)) (λ f. f (result_at s u) (ok.pending u g m)) (pends (parent_at s u)));
  distinct = λ u v h i p r.
      let k = view u h in
      let l = view v i in
      ok.distinct u v (k.from h) (l.from i) (sym k.parent ∙ p ∙ l.parent) (sym k.result ∙ r ∙ l.result);
}

-- n is born, a child of t with result slot d, which was not pending
module _ (s s' : State) (many : length s.threads ≡ 32) (tree : Tree s) (ok : Results s) (t n d : ℕ) (used-t : Used s t) (free : status_at s n ≡ 0)
    (clear : is_pending (pending_at s t) d ≡ false) (view : (u : ℕ) → ¬ (u ≡ n) → Stays (thread_at s u) (thread_at s' u))
    (pends : (u : ℕ) → ¬ (u ≡ n) → Pends (thread_at s u) (thread_at s' u))
    (parent-n : parent_at s' n ≡ t) (result-n : result_at s' n ≡ d) (now : is_pending (pending_at s' t) d ≡ true) where
  -- a child's parent is not n, which was free
  parent-old : (u : ℕ) → Used s u → ¬ (u ≡ 0) → ¬ (parent_at s u ≡ n)
  parent-old u h m e = ⊎_elim (λ z. m z.0) (λ z. let y = z.1 in let x = ap (status_at s) e in omega arith) (tree.tree u h)

  -- no other child of t delivers to d
  lone : (v : ℕ) → Used s v → parent_at s v ≡ t → result_at s v ≡ d → ⊥
  lone v h p r =
      not-both _ (ap (λ k. is_pending (pending_at s t) k) (sym r) ∙ ap (λ q. is_pending (pending_at s q) (result_at s v)) (sym p)
      ∙ ok.pending v h (not_root s many tree t used-t v h p)) clear

  pub results-born : Results s'
  results-born = record {
    pending = λ u h m. pending u h m (ℕ_discrete u n);
    distinct = λ u v h i p r. distinct u v h i p r (ℕ_discrete u n) (ℕ_discrete v n);
  }
    where
      pending : (u : ℕ) → Used s' u → ¬ (u ≡ 0) → Dec (u ≡ n) → is_pending (pending_at s' (parent_at s' u)) (result_at s' u) ≡ true
      pending u h m (yes e) =
          let p : parent_at s' u ≡ t = ap (parent_at s') e ∙ parent-n in
          let r : result_at s' u ≡ d = ap (result_at s') e ∙ result-n in
          rw (p, r) now
      pending u h m (no q) =
          let k = view u q in
          let g = k.from h in
          rw (k.parent, k.result) (pends (parent_at s u) (parent-old u g m) (result_at s u) (ok.pending u g m))

      distinct : (u v : ℕ) → Used s' u → Used s' v → parent_at s' u ≡ parent_at s' v → result_at s' u ≡ result_at s' v → Dec (u ≡ n) → Dec (v ≡ n)
          → u ≡ v
      distinct u v h i p r (yes e) (yes f) = e ∙ sym f
      distinct u v h i p r (yes e) (no n') =
          let l = view v n' in
          absurd (lone v (l.from i) (sym l.parent ∙ sym p ∙ ap (parent_at s') e ∙ parent-n)
          (sym l.result ∙ sym r ∙ ap (result_at s') e ∙ result-n))
      distinct u v h i p r (no n') (yes f) =
          let l = view u n' in
          absurd (lone u (l.from h) (sym l.parent ∙ p ∙ ap (parent_at s') f ∙ parent-n) (sym l.result ∙ r ∙ ap (result_at s') f ∙ result-n))
      distinct u v h i p r (no n1) (no n2) =
          let k = view u n1 in
          let l = view v n2 in
          ok.distinct u v (k.from h) (l.from i) (sym k.parent ∙ p ∙ l.parent) (sym k.result ∙ r ∙ l.result)
