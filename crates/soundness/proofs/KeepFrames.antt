-- Every entry keeps frames as they are to be: within their stacklets, below the tops, apart, each above the lowest on its parent's, and a
-- child's result slot in its parent's.
-- Assumes nothing.
use mathlib.Core.Logic.{◌⊎◌, inl, inr, ⊎_elim}
use mathlib.Core.Path.{◌≡◌, sym, ◌∙◌}
use Prim.Native.Nat.{ℕ, zero, suc, ◌+◌, ◌/◌, ◌%◌, ◌≤◌, ◌<◌}
use native.Mathlib.Decide.{ℕ_discrete}
use native.Mathlib.Omega.{arith}
use lib.ListN.{length}
use Rattle.image.specs.Layout.{slots_of}
use Rattle.image.proofs.Accepted.{accepted}
use Rattle.image.proofs.Laws.{slots-some}
use Rattle.schedule.specs.declared.Entry.{Entry}
use Rattle.stacklets.specs.Tops.{top_at, base_on, pushed_tops, popped_tops}
use Rattle.stacklets.specs.Layout.{Apart, Under}
use Rattle.stacklets.proofs.Places.{apart-sym, fits-means, base-stacklet, base-place, base-below, pushed-top, pushed_most, pushed-under, pushed-apart, popped-top, popped-other, popped-most}
use Rattle.rules.specs.State.{Job, State, thread_at}
use Rattle.rules.specs.Rules.{entry_of}
use Rattle.rules.specs.Sound.{Sound, Frames, Used, size_at}
use Rattle.soundness.proofs.ForkTree.{Childless}
use Rattle.soundness.proofs.FrameChanges.{Like, Steady, NewPlace, above_parent, on_new, Birth, Ending, Change, steady, birth, ending, Family, newborn, elder, child_of_birth, family, elder-stays, survivor}
use Rattle.soundness.proofs.ThreadsMet.{parent_of}
use Rattle.soundness.proofs.EntryChanges.{entry-change}

module _ (j : Job) (s : State) (ok : Sound j s) where
  -- a thread in use has a frame of some words
  pub size-some : (t : ℕ) → Used s t → 0 < size_at j s t
  size-some t u = slots-some j.image (accepted j.image ok.job.image) (thread_at s t).origin.routine (ok.placed.routine t u)

  -- the frame of a thread without children is the topmost of its stacklet: one above it would stand on its parent's, which would stand
  -- above too, down to a child's
  pub below-childless : (t : ℕ) → Used s t → Childless s t → (fuel u : ℕ) → (thread_at s u).origin.base < fuel → Used s u → (u ≡ t → ⊥)
      → (thread_at s u).origin.base / 64 ≡ (thread_at s t).origin.base / 64 → (thread_at s u).origin.base % 64 + size_at j s u ≤ (thread_at s t).origin.base % 64
  below-childless t h alone zero u l k n e = absurd (omega arith)
  below-childless t h alone (suc fuel) u l k n e =
      ⊎_elim (λ a. absurd (above (below-childless t h alone fuel) a (ok.frames.stacked u k))) (λ a. omega arith)
      (ok.frames.apart t u h k (λ q. n (sym q)))
    where
      p : ℕ
      p = (thread_at s u).origin.parent

      above : ((v : ℕ) → (thread_at s v).origin.base < fuel → Used s v → (v ≡ t → ⊥) → (thread_at s v).origin.base / 64 ≡ (thread_at s t).origin.base / 64
          → (thread_at s v).origin.base % 64 + size_at j s v ≤ (thread_at s t).origin.base % 64)
          → (thread_at s t).origin.base + size_at j s t ≤ (thread_at s u).origin.base
          → ((thread_at s u).origin.base % 64 ≡ 0) ⊎ (Used s p × ((thread_at s p).origin.base + size_at j s p ≡ (thread_at s u).origin.base)) → ⊥
      above rec a (inl z) = let q = size-some t h in omega arith
      above rec a (inr z) =
          let q = size-some p z.0 in
          let q' = size-some t h in
          let g = ok.frames.under p z.0 in
          let g' = ok.frames.most ((thread_at s p).origin.base / 64) in
          let y = z.1 in
          let r = rec p (omega arith) z.0 (alone u k) (omega arith) in
          omega arith

  -- no frame comes or goes
  steady-frames : (s' : State) → Steady j s s' → Frames j s'
  steady-frames s' f = record {
    bounded = λ t u. rw (f.stays t).base (ok.frames.bounded t ((f.stays t).was u));
    most = λ x. rw f.tops (ok.frames.most x);
    under = λ t u. rw (f.tops, (f.stays t).base, (f.stays t).routine) (ok.frames.under t ((f.stays t).was u));
    apart = λ t u h k n. rw ((f.stays t).base, (f.stays t).routine, (f.stays u).base, (f.stays u).routine)
        (ok.frames.apart t u ((f.stays t).was h) ((f.stays u).was k) n);
    stacked = λ t u. rw ((f.stays t).base, (f.stays t).parent) (⊎_elim (λ z. inl z) (λ z. inr (
      (f.stays (thread_at s t).origin.parent).still z.0,
      rw ((f.stays (thread_at s t).origin.parent).base, (f.stays (thread_at s t).origin.parent).routine) z.1,
    )) (ok.frames.stacked t ((f.stays t).was u)));
    result = λ t u n. rw ((f.stays t).result, (f.stays t).parent, (f.stays (thread_at s t).origin.parent).routine) (ok.frames.result t ((f.stays t).was u) n);
  }

  -- a fork
  module _ (s' : State) (t n r d x cut : ℕ) (b : Birth j s s' t n r d x cut) where
    -- the number of words in the new frame
    abbrev size : ℕ
    size = slots_of j.image r

    small : 0 < size
    small = slots-some j.image (accepted j.image ok.job.image) r b.routine

    room : x < length s.store.tops
    room = let z = (fits-means s.store.tops x size b.fit).0 in let y = ok.sized.tops in omega arith

    -- the new frame overlaps none
    new_apart : (u : ℕ) → Used s u → Apart (thread_at s u).origin.base (size_at j s u) (base_on s.store.tops x) size
    new_apart u h = pushed-apart s.store.tops x size b.fit small (thread_at s u).origin.base (size_at j s u) (ok.frames.under u h)
        (ok.frames.most ((thread_at s u).origin.base / 64))

    birth-frames : Frames j s'
    birth-frames = record {
      bounded = λ u h. bounded u h (family b u);
      most = λ y. rw b.tops (pushed_most s.store.tops x size b.fit small y (ok.frames.most y));
      under = λ u h. rw b.tops (under u h (family b u));
      apart = λ u v h k m. apart u v h k m (family b u) (family b v);
      stacked = λ u h. stacked u h (family b u);
      result = λ u h m. result u h m (family b u);
    }
      where
        bounded : (u : ℕ) → Used s' u → Family s s' n (child_of_birth b) u → (thread_at s' u).origin.base < 1024
        bounded u h (newborn _ e) = rw e (let z = base-below s.store.tops x size b.fit small in let y = small in omega arith)
        bounded u h (elder _ k) = rw k.base (ok.frames.bounded u (k.was h))

        under : (u : ℕ) → Used s' u → Family s s' n (child_of_birth b) u → Under (pushed_tops s.store.tops x size) (thread_at s' u).origin.base (size_at j s' u)
        under u h (newborn _ e) = rw (
          e,
          base-stacklet s.store.tops x size b.fit small,
          base-place s.store.tops x size b.fit small,
          pushed-top s.store.tops x size b.fit small room,
        ) (omega arith)
        under u h (elder _ k) = rw (k.base, k.routine) (pushed-under s.store.tops x size b.fit small (thread_at s u).origin.base (size_at j s u) (ok.frames.under u (k.was h)))

        apart : (u v : ℕ) → Used s' u → Used s' v → (u ≡ v → ⊥) → Family s s' n (child_of_birth b) u → Family s s' n (child_of_birth b) v
            → Apart (thread_at s' u).origin.base (size_at j s' u) (thread_at s' v).origin.base (size_at j s' v)
        apart u v h k m (newborn e _) (newborn e' _) = absurd (m (e ∙ sym e'))
        apart u v h k m (newborn _ e) (elder _ f) = rw (e, f.base, f.routine) (apart-sym _ _ _ _ (new_apart v (f.was k)))
        apart u v h k m (elder _ f) (newborn _ e) = rw (e, f.base, f.routine) (new_apart u (f.was h))
        apart u v h k m (elder _ f) (elder _ g) = rw (f.base, f.routine, g.base, g.routine) (ok.frames.apart u v (f.was h) (g.was k) m)

        on-place : NewPlace j s s' t x → (base_on s.store.tops x % 64 ≡ 0) ⊎ ((thread_at s t).origin.base + size_at j s t ≡ base_on s.store.tops x)
        on-place (above_parent e _ _) = inr (sym e)
        on-place (on_new e _) = inl (base-place s.store.tops x size b.fit small ∙ e)

        stacked : (u : ℕ) → Used s' u → Family s s' n (child_of_birth b) u → ((thread_at s' u).origin.base % 64 ≡ 0)
            ⊎ (Used s' (thread_at s' u).origin.parent × ((thread_at s' (thread_at s' u).origin.parent).origin.base + size_at j s' (thread_at s' u).origin.parent ≡ (thread_at s' u).origin.base))
        stacked u h (newborn _ e) = rw e (⊎_elim (λ z. inl z) (λ z. inr (b.parent.still b.parent-used, rw (b.parent.base, b.parent.routine) z)) (on-place b.place))
        stacked u h (elder _ k) = rw (k.base, k.parent) (⊎_elim (λ z. inl z)
            (λ z. inr ((elder-stays b _ z.0).still z.0, rw ((elder-stays b (thread_at s u).origin.parent z.0).base, (elder-stays b (thread_at s u).origin.parent z.0).routine) z.1))
            (ok.frames.stacked u (k.was h)))

        result : (u : ℕ) → Used s' u → (u ≡ 0 → ⊥) → Family s s' n (child_of_birth b) u → (thread_at s' u).origin.result < size_at j s' (thread_at s' u).origin.parent
        result u h m (newborn _ e) = rw (e, b.parent.routine) b.slot
        result u h m (elder _ k) =
            let p = elder-stays b (thread_at s u).origin.parent (parent_of j s ok u (k.was h) m) in
            rw (k.result, k.parent, p.routine) (ok.frames.result u (k.was h) m)

  -- a return
  module _ (s' : State) (t : ℕ) (f : Ending j s s' t) where
    low-here : top_at (popped_tops s.store.tops (thread_at s t).origin.base) ((thread_at s t).origin.base / 64) ≡ (thread_at s t).origin.base % 64
    low-here = popped-top s.store.tops (thread_at s t).origin.base (let z = ok.frames.bounded t f.used in let y = ok.sized.tops in omega arith)

    under-after : (u : ℕ) → Used s u → (u ≡ t → ⊥) → Dec ((thread_at s u).origin.base / 64 ≡ (thread_at s t).origin.base / 64)
        → Under (popped_tops s.store.tops (thread_at s t).origin.base) (thread_at s u).origin.base (size_at j s u)
    under-after u h n (yes e) = rw (e, low-here) (below-childless t f.used f.childless (suc (thread_at s u).origin.base) u (omega arith) h n e)
    under-after u h n (no e) = rw (popped-other s.store.tops (thread_at s t).origin.base ((thread_at s u).origin.base / 64) e) (ok.frames.under u h)

    -- the parent of a thread that stays was no other than one that stays
    parent-stays : (u : ℕ) → Used s u → Like (thread_at s (thread_at s u).origin.parent) (thread_at s' (thread_at s u).origin.parent)
    parent-stays u h = f.others (thread_at s u).origin.parent (f.childless u h)

    ending-frames : Frames j s'
    ending-frames = record {
      bounded = λ u h. let w = (survivor s s' t f u h).1.stays in rw w.base (ok.frames.bounded u (w.was h));
      most = λ x. rw f.tops (popped-most s.store.tops (thread_at s t).origin.base x (ok.frames.most x));
      under = λ u h. let w = (survivor s s' t f u h).1.stays in
          rw (f.tops, w.base, w.routine) (under-after u (w.was h) (survivor s s' t f u h).0 (ℕ_discrete ((thread_at s u).origin.base / 64) ((thread_at s t).origin.base / 64)));
      apart = λ u v h k n. let w = (survivor s s' t f u h).1.stays in let y = (survivor s s' t f v k).1.stays in
          rw (w.base, w.routine, y.base, y.routine) (ok.frames.apart u v (w.was h) (y.was k) n);
      stacked = λ u h. let w = (survivor s s' t f u h).1.stays in rw (w.base, w.parent) (⊎_elim (λ z. inl z)
          (λ z. let p = (parent-stays u (w.was h)).stays in inr (p.still z.0, rw (p.base, p.routine) z.1)) (ok.frames.stacked u (w.was h)));
      result = λ u h n. let w = (survivor s s' t f u h).1.stays in let p = (parent-stays u (w.was h)).stays in
          rw (w.result, w.parent, p.routine) (ok.frames.result u (w.was h) n);
    }

  change-frames : (s' : State) → Change j s s' → Frames j s'
  change-frames s' (steady f) = steady-frames s' f
  change-frames s' (birth t n r d x cut b) = birth-frames s' t n r d x cut b
  change-frames s' (ending t f) = ending-frames s' t f

  -- every entry keeps frames
  pub keep-frames : (e : Entry) → Frames j (entry_of j s e).state
  keep-frames e = change-frames (entry_of j s e).state (entry-change j s ok e)
