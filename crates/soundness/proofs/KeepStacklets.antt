-- Every entry keeps the queue of free stacklets: each stacklet is in use or stands in it once. And in a finished machine all 16 are free.
-- Assumes nothing.
use mathlib.Core.Bool.{Bool, true, false, cond}
use mathlib.Core.List.{[], ◌∷◌, ◌++◌}
use mathlib.Core.Logic.{inl, inr, ⊎_elim}
use mathlib.Core.Path.{◌≡◌, refl, sym, ◌∙◌, ap}
use Prim.Native.Nat.{ℕ, suc, ◌+◌, ◌/◌, ◌%◌, ◌<◌}
use native.Mathlib.Decide.{ℕ_discrete}
use native.Mathlib.Omega.{arith}
use lib.Dec.{eqb}
use lib.ListN.{length}
use borrow.Author.Tests.{eqb-true, eqb-false}
use Rattle.image.specs.Layout.{slots_of}
use Rattle.image.proofs.Accepted.{accepted}
use Rattle.image.proofs.Laws.{slots-some}
use Rattle.schedule.specs.declared.Entry.{Entry}
use Rattle.queue.specs.Contents.{appended, capacity}
use Rattle.stacklets.specs.Tops.{top_at}
use Rattle.stacklets.proofs.Places.{base-stacklet, pushed-other, popped-top, popped-other}
use Rattle.rules.specs.Lists.{Every, Member, Distinct}
use Rattle.rules.specs.State.{Job, State, finished, thread_at}
use Rattle.rules.specs.Return.{stacklets_without}
use Rattle.rules.specs.Rules.{entry_of}
use Rattle.rules.specs.Sound.{Sound, FreeStacklets, Used, Unused, size_at}
use Rattle.soundness.proofs.Queues.{every_map, every-member, member-every, every-last, member-left, member-last, distinct-last, appended-new, at_most, at_least}
use Rattle.soundness.proofs.FrameChanges.{Steady, NewPlace, above_parent, on_new, Birth, Ending, Change, steady, birth, ending, Family, newborn, elder, child_of_birth, family, elder-stays, survivor}
use Rattle.soundness.proofs.EntryChanges.{entry-change}
use Rattle.soundness.proofs.KeepFrames.{size-some, below-childless}

-- a free stacklet of a state
abbrev Vacant : State → ℕ → Type 0
Vacant s x = (x < 16) × (top_at s.store.tops x ≡ 0) × Unused s x

module _ (j : Job) (s : State) (ok : Sound j s) where
  -- a stacklet in the queue carries no frame
  not_free : (t : ℕ) → Used s t → Member ((thread_at s t).origin.base / 64) s.queues.free_stacklets → ⊥
  not_free t h m = (every-member (Vacant s) s.queues.free_stacklets ok.free_stacklets.free ((thread_at s t).origin.base / 64) m).2 t h refl

  steady-stacklets : (s' : State) → Steady j s s' → FreeStacklets s'
  steady-stacklets s' f = record {
    free = rw f.free (every_map (λ x h. (h.0, rw f.tops h.1, λ t u e. h.2 t ((f.stays t).was u) (sym (ap (λ b. b / 64) (f.stays t).base) ∙ e)))
        s.queues.free_stacklets ok.free_stacklets.free);
    once = rw f.free ok.free_stacklets.once;
    stands = λ x l u. rw f.free (ok.free_stacklets.stands x l (λ t h e. u t ((f.stays t).still h) (ap (λ b. b / 64) (f.stays t).base ∙ e)));
  }

  -- a fork
  module _ (s' : State) (t n r d x cut : ℕ) (b : Birth j s s' t n r d x cut) where
    -- the number of words in the new frame
    abbrev size : ℕ
    size = slots_of j.image r

    small : 0 < size
    small = slots-some j.image (accepted j.image ok.job.image) r b.routine

    -- another stacklet stays free, or in use
    stays-vacant : (y : ℕ) → (y ≡ x → ⊥) → Vacant s y → Vacant s' y
    stays-vacant y other h =
        (h.0, rw b.tops (pushed-other s.store.tops x size b.fit small y other ∙ h.1), λ u k e. clear u k e (family b u))
      where
        clear : (u : ℕ) → Used s' u → (thread_at s' u).origin.base / 64 ≡ y → Family s s' n (child_of_birth b) u → ⊥
        clear u k e (newborn _ q) = other (sym e ∙ ap (λ h. h.origin.base / 64) q ∙ base-stacklet s.store.tops x size b.fit small)
        clear u k e (elder _ f) = h.2 u (f.was k) (sym (ap (λ b. b / 64) f.base) ∙ e)

    was-unused : (y : ℕ) → Unused s' y → Unused s y
    was-unused y f u h e = f u ((elder-stays b u h).still h) (ap (λ b. b / 64) (elder-stays b u h).base ∙ e)

    -- the new frame's own is in use
    now-used : Unused s' x → ⊥
    now-used f = f n (rw b.child b.used) (ap (λ h. h.origin.base / 64) b.child ∙ base-stacklet s.store.tops x size b.fit small)

    birth-stacklets : FreeStacklets s'
    birth-stacklets = go b.place
      where
        go : NewPlace j s s' t x → FreeStacklets s'
        go (above_parent _ here same) = record {
          free = rw same (member-every s.queues.free_stacklets (λ y m. stays-vacant y (λ e. not_free t b.parent-used (rw (e ∙ here) at m))
              (every-member (Vacant s) s.queues.free_stacklets ok.free_stacklets.free y m)));
          once = rw same ok.free_stacklets.once;
          stands = λ y l f. rw same (ok.free_stacklets.stands y l (was-unused y f));
        }
        go (on_new _ taken) = record {
          free = member-every s'.queues.free_stacklets (λ y m. stays-vacant y (λ e. once.0 (rw e at m)) (every-member (Vacant s) s'.queues.free_stacklets all.1 y m));
          once = once.1;
          stands = λ y l f. stands y l f (rw taken at (ok.free_stacklets.stands y l (was-unused y f)));
        }
          where
            once : Distinct (x ∷ s'.queues.free_stacklets)
            once = rw taken at ok.free_stacklets.once

            all : Every (Vacant s) (x ∷ s'.queues.free_stacklets)
            all = rw taken at ok.free_stacklets.free

            stands : (y : ℕ) → y < 16 → Unused s' y → Member y (x ∷ s'.queues.free_stacklets) → Member y s'.queues.free_stacklets
            stands y l f (inl e) = absurd (now-used (rw e at f))
            stands y l f (inr m) = m

  -- a return
  module _ (s' : State) (t : ℕ) (f : Ending j s s' t) where
    below : (thread_at s t).origin.base / 64 < 16
    below = let z = ok.frames.bounded t f.used in omega arith

    absent : Member ((thread_at s t).origin.base / 64) s.queues.free_stacklets → ⊥
    absent = not_free t f.used

    -- a free stacklet is another one, and stays free
    stays-free : (y : ℕ) → Member y s.queues.free_stacklets → Vacant s' y
    stays-free y m =
        let h = every-member (Vacant s) s.queues.free_stacklets ok.free_stacklets.free y m in (
          h.0,
          rw f.tops (popped-other s.store.tops (thread_at s t).origin.base y (λ e. absent (rw e at m)) ∙ h.1),
          λ u k e. let w = (survivor s s' t f u k).1.stays in h.2 u (w.was k) (sym (ap (λ b. b / 64) w.base) ∙ e),
        )

    -- any other stacklet that is now unused was so
    was-unused-else : (y : ℕ) → (y ≡ (thread_at s t).origin.base / 64 → ⊥) → Unused s' y → Unused s y
    was-unused-else y other g u h e =
        let w = (f.others u (λ q. other (sym e ∙ ap (λ v. (thread_at s v).origin.base / 64) q))).stays in
        g u (w.still h) (ap (λ b. b / 64) w.base ∙ e)

    -- where the frame stood lowest, none is left
    emptied : (thread_at s t).origin.base % 64 ≡ 0 → Vacant s' ((thread_at s t).origin.base / 64)
    emptied z =
        (below, rw f.tops (popped-top s.store.tops (thread_at s t).origin.base (let l = below in let y = ok.sized.tops in omega arith) ∙ z), λ u k e. clear u k e)
      where
        clear : (u : ℕ) → Used s' u → (thread_at s' u).origin.base / 64 ≡ (thread_at s t).origin.base / 64 → ⊥
        clear u k e =
            let w = survivor s s' t f u k in
            let h = w.1.stays.was k in
            let q = size-some j s ok u h in
            let l = below-childless j s ok t f.used f.childless (suc (thread_at s u).origin.base) u (omega arith) h w.0 (sym (ap (λ b. b / 64) w.1.stays.base) ∙ e) in
            omega arith

    -- where it stood above another, that is its parent's and stays
    parent-left : ((thread_at s t).origin.base % 64 ≡ 0 → ⊥) → Unused s' ((thread_at s t).origin.base / 64) → ⊥
    parent-left n g = ⊎_elim (λ z. n z) (λ z. on z) (ok.frames.stacked t f.used)
      where
        p : ℕ
        p = (thread_at s t).origin.parent

        on : Used s p × ((thread_at s p).origin.base + size_at j s p ≡ (thread_at s t).origin.base) → ⊥
        on z =
            let w = (f.others p (f.childless t f.used)).stays in
            let u = ok.frames.under p z.0 in
            let m = ok.frames.most ((thread_at s p).origin.base / 64) in
            let q = size-some j s ok p z.0 in
            let y = z.1 in
            let e : (thread_at s p).origin.base / 64 ≡ (thread_at s t).origin.base / 64 = omega arith in
            g p (w.still z.0) (ap (λ b. b / 64) w.base ∙ e)

    ending-stacklets : FreeStacklets s'
    unfolding stacklets_without
    ending-stacklets = go (eqb ((thread_at s t).origin.base % 64) 0) refl f.free
      where
        kept : Every (Vacant s') s.queues.free_stacklets
        kept = member-every s.queues.free_stacklets stays-free

        back : s'.queues.free_stacklets ≡ s.queues.free_stacklets ++ ((thread_at s t).origin.base / 64 ∷ []) → (thread_at s t).origin.base % 64 ≡ 0 → FreeStacklets s'
        back q z = record {
          free = rw q (every-last (Vacant s') s.queues.free_stacklets ((thread_at s t).origin.base / 64) kept (emptied z));
          once = rw q (distinct-last s.queues.free_stacklets ((thread_at s t).origin.base / 64) ok.free_stacklets.once absent);
          stands = λ y l u. rw q (stands y l u (ℕ_discrete y ((thread_at s t).origin.base / 64)));
        }
          where
            stands : (y : ℕ) → y < 16 → Unused s' y → Dec (y ≡ (thread_at s t).origin.base / 64) → Member y (s.queues.free_stacklets ++ ((thread_at s t).origin.base / 64 ∷ []))
            stands y l u (yes e) = rw e (member-last ((thread_at s t).origin.base / 64) s.queues.free_stacklets)
            stands y l u (no n) = member-left y s.queues.free_stacklets ((thread_at s t).origin.base / 64 ∷ []) (ok.free_stacklets.stands y l (was-unused-else y n u))

        stay : s'.queues.free_stacklets ≡ s.queues.free_stacklets → ((thread_at s t).origin.base % 64 ≡ 0 → ⊥) → FreeStacklets s'
        stay q n = record {
          free = rw q kept;
          once = rw q ok.free_stacklets.once;
          stands = λ y l u. rw q (ok.free_stacklets.stands y l (was-unused-else y (λ e. parent-left n (rw e at u)) u));
        }

        go : (b : Bool) → eqb ((thread_at s t).origin.base % 64) 0 ≡ b
            → s'.queues.free_stacklets ≡ cond b (appended capacity s.queues.free_stacklets ((thread_at s t).origin.base / 64)) s.queues.free_stacklets → FreeStacklets s'
        go true e q = back (q ∙ appended-new s.queues.free_stacklets ((thread_at s t).origin.base / 64) ok.free_stacklets.once
            (every_map (λ x h. let l = h.0 in omega arith) s.queues.free_stacklets ok.free_stacklets.free) (let l = below in omega arith) absent) (eqb-true _ _ e)
        go false e q = stay q (eqb-false _ _ e)

  change-stacklets : (s' : State) → Change j s s' → FreeStacklets s'
  change-stacklets s' (steady f) = steady-stacklets s' f
  change-stacklets s' (birth t n r d x cut b) = birth-stacklets s' t n r d x cut b
  change-stacklets s' (ending t f) = ending-stacklets s' t f

  -- every entry keeps the queue of free stacklets
  pub keep-free-stacklets : (e : Entry) → FreeStacklets (entry_of j s e).state
  keep-free-stacklets e = change-stacklets (entry_of j s e).state (entry-change j s ok e)

  -- once finished, "16 stacklets are free": all stand in the queue, each once
  pub finished-stacklets : (v : ℕ) → s.outcome ≡ finished v
      → (length s.queues.free_stacklets ≡ 16) × ((x : ℕ) → x < 16 → Member x s.queues.free_stacklets) × Distinct s.queues.free_stacklets
  finished-stacklets v e = (both, all, ok.free_stacklets.once)
    where
      all : (x : ℕ) → x < 16 → Member x s.queues.free_stacklets
      all x l = ok.free_stacklets.stands x l (λ t h q. let z = ok.tree.over v e t in omega arith)

      both : length s.queues.free_stacklets ≡ 16
      both =
          let a = at_least 16 s.queues.free_stacklets all in
          let b = at_most 16 s.queues.free_stacklets ok.free_stacklets.once (every_map (λ x h. h.0) s.queues.free_stacklets ok.free_stacklets.free) in
          omega arith
