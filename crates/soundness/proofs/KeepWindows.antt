-- Every entry keeps windows as they are to be: within the memory words, children's apart in what their parent cut off, and what each was given
-- to read in what its parent shares, or its parent's own. Assumes nothing.
use mathlib.Core.Logic.{◌⊎◌, inl, inr}
use mathlib.Core.Path.{◌≡◌, refl, sym, ◌∙◌, ap}
use Prim.Native.Nat.{ℕ, ◌≤◌, ◌<◌}
use native.Mathlib.Decide.{ℕ_discrete}
use native.Mathlib.Omega.{arith}
use Rattle.schedule.specs.declared.Entry.{Entry}
use Rattle.window.specs.declared.Window.{Window}
use Rattle.window.specs.Rights.{span_from, span_to, rest_of, Fits}
use Rattle.window.proofs.Laws.{Span, shared, handed-on, span_of, child_fits, rest-fits, sharing-fits, rejoined-fits}
use Rattle.rules.specs.State.{Job, State}
use Rattle.rules.specs.Rules.{entry_of}
use Rattle.rules.specs.Sound.{Sound, Windows, Used, parent_at, window_held, GivenBy}
use Rattle.soundness.proofs.Changes.{used_low}
use Rattle.soundness.proofs.FrameChanges.{Turned, kept, rejoins, shares, Steady, Birth, Ending, Change, steady, birth, ending, Family, newborn, elder, child_of_birth, family, not-newborn, survivor}
use Rattle.soundness.proofs.ThreadsMet.{parent_of, child-not-root}
use Rattle.soundness.proofs.EntryChanges.{entry-change}

-- the ends and the span of a window, which only its start decides
record Ends (w w' : Window) : Type 0 where
  lo : w'.lo ≡ w.lo
  hi : w'.hi ≡ w.hi
  from : w'.from ≡ w.from
  to : w'.to ≡ w.to

same_ends : {w w' : Window} → w' ≡ w → Ends w w'
same_ends e = record { lo = ap (λ v. v.lo) e; hi = ap (λ v. v.hi) e; from = ap (λ v. v.from) e; to = ap (λ v. v.to) e }

turned-ends : {w w' : Window} {A : Type 0} → Turned w w' A → Ends w w'
turned-ends (kept e) = same_ends e
turned-ends (rejoins e _) = record { lo = ap (λ v. v.lo) e; hi = ap (λ v. v.hi) e; from = ap (λ v. v.from) e; to = ap (λ v. v.to) e }
turned-ends (shares x _ _ e) = record { lo = ap (λ v. v.lo) e; hi = ap (λ v. v.hi) e; from = ap (λ v. v.from) e; to = ap (λ v. v.to) e }

turned-fits : {w w' : Window} {A : Type 0} → Turned w w' A → Fits w → Fits w'
turned-fits (kept e) f = rw e f
turned-fits {w = w} (rejoins e _) f = rw e (rejoined-fits w f)
turned-fits {w = w} (shares x l h e) f = rw e (sharing-fits w x l h f)

-- what a window with a child may have become: nothing below its mark comes back, and no less is shared
record Onward (w w' : Window) : Type 0 where
  ends : Ends w w'
  mark : w.mark ≤ w'.mark
  ceiling : w'.ceiling ≤ w.ceiling

turned-onward : {w w' : Window} {A : Type 0} → Turned w w' A → (A → ⊥) → Onward w w'
turned-onward {w = w} {w' = w'} (kept e) n = let m : w'.mark ≡ w.mark = ap (λ v. v.mark) e in let c : w'.ceiling ≡ w.ceiling = ap (λ v. v.ceiling) e in
    record { ends = same_ends e; mark = omega arith; ceiling = omega arith }
turned-onward (rejoins e a) n = absurd (n a)
turned-onward {w = w} {w' = w'} (shares x l h e) n = let m : w'.mark ≡ w.mark = ap (λ v. v.mark) e in let c : w'.ceiling ≡ x = ap (λ v. v.ceiling) e in
    record { ends = record { lo = ap (λ v. v.lo) e; hi = ap (λ v. v.hi) e; from = ap (λ v. v.from) e; to = ap (λ v. v.to) e }; mark = omega arith; ceiling = omega arith }

-- a child's place in its parent's window, and what it was given to read
abbrev Inside : Window → Window → Type 0
Inside p w = (p.lo ≤ w.lo) × (w.hi ≤ p.mark)

abbrev Given : Window → Window → Type 0
Given p w = ((p.ceiling ≤ w.from) × (w.to ≤ p.hi)) ⊎ ((w.from ≡ p.from) × (w.to ≡ p.to))

inside-onward : {p p' w w' : Window} → Onward p p' → Ends w w' → Inside p w → Inside p' w'
inside-onward o e (l, h) = let x = o.ends.lo in let y = e.lo in let z = e.hi in let m = o.mark in (omega arith, omega arith)

given-onward : {p p' w w' : Window} → Onward p p' → Ends w w' → Given p w → Given p' w'
given-onward o e (inl (l, h)) = let x = o.ends.hi in let y = e.from in let z = e.to in let c = o.ceiling in inl (omega arith, omega arith)
given-onward o e (inr (f, t)) = inr (e.from ∙ f ∙ sym o.ends.from, e.to ∙ t ∙ sym o.ends.to)

apart-ends : {w w' v v' : Window} → Ends w w' → Ends v v' → (w.hi ≤ v.lo) ⊎ (v.hi ≤ w.lo) → (w'.hi ≤ v'.lo) ⊎ (v'.hi ≤ w'.lo)
apart-ends e f (inl h) = let x = e.hi in let y = f.lo in inl (omega arith)
apart-ends e f (inr h) = let x = e.lo in let y = f.hi in inr (omega arith)

-- what a fork gives its child to read is what the parent shares, or the parent's own
born-given : (w : Window) (cut : ℕ) → (((rest_of w cut).ceiling ≤ span_from w) × (span_to w ≤ (rest_of w cut).hi)) ⊎ ((span_from w ≡ (rest_of w cut).from) × (span_to w ≡ (rest_of w cut).to))
born-given w cut = go (span_of w)
  where
    go : {x y : ℕ} → Span w x y → ((w.ceiling ≤ x) × (y ≤ w.hi)) ⊎ ((x ≡ w.from) × (y ≡ w.to))
    go (shared h) = inl (omega arith, omega arith)
    go (handed-on h) = inr (refl, refl)

module _ (j : Job) (s : State) (ok : Sound j s) where
  steady-windows : (s' : State) → Steady j s s' → Windows s'
  steady-windows s' f = record {
    fits = λ t u. turned-fits (f.window t) (ok.windows.fits t ((f.stays t).was u));
    root = λ u. let w = ok.windows.root ((f.stays 0).was u) in let e = turned-ends (f.window 0) in (e.lo ∙ w.0, e.hi ∙ w.1);
    inside = λ u h n. rw (f.stays u).parent (inside-onward (parent u ((f.stays u).was h)) (turned-ends (f.window u)) (ok.windows.inside u ((f.stays u).was h) n));
    apart = λ u v h k n e. apart-ends (turned-ends (f.window u)) (turned-ends (f.window v))
        (ok.windows.apart u v ((f.stays u).was h) ((f.stays v).was k) n (sym (f.stays u).parent ∙ e ∙ (f.stays v).parent));
    given = λ u h n l. let e = turned-ends (f.window u) in let x = e.from in let y = e.to in
        rw (f.stays u).parent (given-onward (parent u ((f.stays u).was h)) e (ok.windows.given u ((f.stays u).was h) n (omega arith)));
  }
    where
      parent : (u : ℕ) → Used s u → Onward (window_held s (parent_at s u)) (window_held s' (parent_at s u))
      parent u h = turned-onward (f.window (parent_at s u)) (λ c. c u h refl)

  -- a fork
  module _ (s' : State) (t n r d x cut : ℕ) (b : Birth j s s' t n r d x cut) where
    -- a thread that was there
    elder-window : (u : ℕ) → Used s u → Onward (window_held s u) (window_held s' u) × Fits (window_held s' u)
    elder-window u h = go (ℕ_discrete u t)
      where
        go : Dec (u ≡ t) → Onward (window_held s u) (window_held s' u) × Fits (window_held s' u)
        go (yes e) = rw (window_held, e, b.rest) (
          record { ends = record { lo = refl; hi = refl; from = refl; to = refl }; mark = b.low; ceiling = omega arith },
          rest-fits (window_held s t) cut b.low b.high (ok.windows.fits t b.parent-used),
        )
        go (no m) = rw (window_held, b.others u m (not-newborn b u h)) (
          record { ends = record { lo = refl; hi = refl; from = refl; to = refl }; mark = omega arith; ceiling = omega arith },
          ok.windows.fits u h,
        )

    -- what was apart, and what the child is given
    apart-elder : (v : ℕ) → Used s v → parent_at s v ≡ t → (window_held s v).hi ≤ (window_held s t).mark
    apart-elder v h e = rw e at (ok.windows.inside v h (child-not-root j s ok t v (used_low s ok.sized.threads t b.parent-used) h e)).1

    birth-windows : Windows s'
    birth-windows = record {
      fits = λ u h. fits u h (family b u);
      root = λ h. root h (family b 0);
      inside = λ u h m. inside u h m (family b u);
      apart = λ u v h k m e. apart u v h k m e (family b u) (family b v);
      given = λ u h m l. given u h m l (family b u);
    }
      where
        fits : (u : ℕ) → Used s' u → Family s s' n (child_of_birth b) u → Fits (window_held s' u)
        fits u h (newborn _ e) = rw (window_held, e) (child_fits (window_held s t) cut b.low b.high (ok.windows.fits t b.parent-used))
        fits u h (elder _ k) = (elder-window u (k.was h)).1

        root : Used s' 0 → Family s s' n (child_of_birth b) 0 → ((window_held s' 0).lo ≡ 32) × ((window_held s' 0).hi ≡ 1024)
        root h (newborn e _) = absurd (b.not_root (sym e))
        root h (elder _ k) = let w = ok.windows.root (k.was h) in let q = (elder-window 0 (k.was h)).0 in (q.ends.lo ∙ w.0, q.ends.hi ∙ w.1)

        inside : (u : ℕ) → Used s' u → (u ≡ 0 → ⊥) → Family s s' n (child_of_birth b) u → Inside (window_held s' (parent_at s' u)) (window_held s' u)
        inside u h m (newborn _ e) = let w = ok.windows.fits t b.parent-used in rw (window_held, parent_at, e, b.rest) (w.behind, omega arith)
        inside u h m (elder _ k) = rw k.parent
            (inside-onward (elder-window (parent_at s u) (parent_of j s ok u (k.was h) m)).0 (elder-window u (k.was h)).0.ends (ok.windows.inside u (k.was h) m))

        given : (u : ℕ) → Used s' u → (u ≡ 0 → ⊥) → (window_held s' u).from < (window_held s' u).to → Family s s' n (child_of_birth b) u → GivenBy s' (parent_at s' u) u
        given u h m l (newborn _ e) = rw (GivenBy, window_held, parent_at, e, b.rest) (born-given (window_held s t) cut)
        given u h m l (elder _ k) = let q = (elder-window u (k.was h)).0.ends in let x = q.from in let y = q.to in
            rw k.parent (given-onward (elder-window (parent_at s u) (parent_of j s ok u (k.was h) m)).0 q (ok.windows.given u (k.was h) m (omega arith)))

        apart : (u v : ℕ) → Used s' u → Used s' v → (u ≡ v → ⊥) → parent_at s' u ≡ parent_at s' v → Family s s' n (child_of_birth b) u → Family s s' n (child_of_birth b) v
            → ((window_held s' u).hi ≤ (window_held s' v).lo) ⊎ ((window_held s' v).hi ≤ (window_held s' u).lo)
        apart u v h k m q (newborn e _) (newborn e' _) = absurd (m (e ∙ sym e'))
        apart u v h k m q (newborn _ e) (elder _ f) = let w = (elder-window v (f.was k)).0.ends in
            rw (window_held, e, w.hi) (inr (apart-elder v (f.was k) (sym f.parent ∙ sym q ∙ ap (λ g. g.origin.parent) e)))
        apart u v h k m q (elder _ f) (newborn _ e) = let w = (elder-window u (f.was h)).0.ends in
            rw (window_held, e, w.hi) (inl (apart-elder u (f.was h) (sym f.parent ∙ q ∙ ap (λ g. g.origin.parent) e)))
        apart u v h k m q (elder _ f) (elder _ g) = apart-ends (elder-window u (f.was h)).0.ends (elder-window v (g.was k)).0.ends
            (ok.windows.apart u v (f.was h) (g.was k) m (sym f.parent ∙ q ∙ g.parent))

  -- a return
  ending-windows : (s' : State) (t : ℕ) → Ending j s s' t → Windows s'
  ending-windows s' t f = record {
    fits = λ u h. let w = (survivor s s' t f u h).1 in rw w.window (ok.windows.fits u (w.stays.was h));
    root = λ h. let w = (survivor s s' t f 0 h).1 in rw w.window (ok.windows.root (w.stays.was h));
    inside = λ u h n. let w = (survivor s s' t f u h).1 in
        rw (w.stays.parent, w.window, parent u (w.stays.was h)) (ok.windows.inside u (w.stays.was h) n);
    apart = λ u v h k n e. let w = (survivor s s' t f u h).1 in let y = (survivor s s' t f v k).1 in
        rw (w.window, y.window) (ok.windows.apart u v (w.stays.was h) (y.stays.was k) n (sym w.stays.parent ∙ e ∙ y.stays.parent));
    given = λ u h n l. let w = (survivor s s' t f u h).1 in
        rw (w.stays.parent, w.window, parent u (w.stays.was h)) (ok.windows.given u (w.stays.was h) n (rw w.window at l));
  }
    where
      parent : (u : ℕ) → Used s u → window_held s' (parent_at s u) ≡ window_held s (parent_at s u)
      parent u h = (f.others (parent_at s u) (f.childless u h)).window

  change-windows : (s' : State) → Change j s s' → Windows s'
  change-windows s' (steady f) = steady-windows s' f
  change-windows s' (birth t n r d x cut b) = birth-windows s' t n r d x cut b
  change-windows s' (ending t f) = ending-windows s' t f

  -- every entry keeps windows
  pub keep-windows : (e : Entry) → Windows (entry_of j s e).state
  keep-windows e = change-windows (entry_of j s e).state (entry-change j s ok e)
