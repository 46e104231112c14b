-- Every step keeps the invariant (`kept`), so the diamond holds all along a run. Thread q, whose state is l, does the lawful act a; the
-- facts about two threads go by where each comes from: it was there before, it is the one that stepped, or it is the new child.
use mathlib.Core.Path.{◌∙◌, ◌≡◌, ap, refl, subst, subst₂, sym}
use mathlib.Core.List.{◌∷◌}
use mathlib.Core.Logic.{inl, inr, ite}
use mathlib.Core.Bool.{true}
use Prim.Native.Nat.{◌+◌, ◌≤◌, ℕ}
use native.Mathlib.Decide.{ℕ_discrete}
use native.Mathlib.Omega.{arith}
use lib.ListN.{length}
use Rattle.forkjoin.proofs.TaskName.{Place, TaskName, ◌⊑◌, down, elsewhere, head-eq, here, its-child, itself, not-own-child, not-under-self, place_of, tail-eq, ⊑-child, ⊑-through-child, ⊑?}
use Rattle.forkjoin.proofs.Rights.{Apart, Within}
use Rattle.forkjoin.proofs.Language.{Act, LawfulFork, LawfulKeep, Language, LawfulAct, advance, fork, halt, join, load, ret, store}
use Rattle.forkjoin.proofs.TaskTree.{Enabled, NotLive, Present, State, Step, after, by_place, child-after, children-of, live, node-after, own-after, value}
use Rattle.forkjoin.proofs.AfterStep.{Origin, born, mine, old, origin, own-node}
use Rattle.forkjoin.proofs.Invariant.{Invariant, ancestor-live, live-contradiction, present}
use Rattle.forkjoin.proofs.Independence.{leaves-thread}

module _ (𝓛 : Language) where
  open 𝓛 use {Local, act, cost, pending, window, whole, Valid, lawful}

  module _ (s : State Local) (i : Invariant 𝓛 s) (q : TaskName) (l : Local) (a : Act Local) (g : LawfulAct 𝓛 l a)
      (r : Enabled a (children-of s q)) (e : s.at q ≡ live l) (w : ℕ) where
    -- how the stepping thread went on
    data Went (m : Local) : Type 0 where
      kept_on : LawfulKeep 𝓛 l m → Went m
      joined : ((b : ℕ) → whole m b ≡ whole l b) → Within (window m) (whole m) → ((k : ℕ) → NotLive (s.at (k ∷ q))) → Valid m → Went m

    went : (m : Local) → own-after a s.memory (children-of s q) ≡ live m → Went m
    went m h = go a g r h
      where
        to : (n : Local) → live n ≡ live m → LawfulKeep 𝓛 l n → Went m
        to n c k = kept_on (subst (λ z. LawfulKeep 𝓛 l z) (cc) k)

        go : (a : Act Local) → LawfulAct 𝓛 l a → Enabled a (children-of s q) → own-after a s.memory (children-of s q) ≡ live m → Went m
        go (halt _) g r h = absurd r
        go (advance n) g r h = to n h g
        go (load b f) g r h = to (f (s.memory b)) h (g.1 (s.memory b))
        go (store _ _ n) g r h = to n h g.1
        go (fork d c n) g r h = to n h g.parent-keeps
        go (join f) g r h = subst Went y (joined (g z).0 (g z).1 r (g z).2)
          where
            z : ℕ → ℕ
            z = λ d. value (children-of s q d)

            y : f z ≡ m
            y = cc
        go (ret v) g r h = let y : ◌≡◌ {A = ℕ} 0 1 = cc in absurd (omega arith)

    whole_same : (m : Local) → Went m → (b : ℕ) → whole m b ≡ whole l b
    whole_same m (kept_on k) b = k.same_whole b
    whole_same m (joined k _ _ _) b = k b

    forked : (d : ℕ) (c n : Local) → a ≡ fork d c n → LawfulFork 𝓛 l d c n
    forked d c n h = subst (λ z. LawfulAct 𝓛 l z) h g

    -- a new child's name was free
    was_free : (d : ℕ) (c n : Local) → a ≡ fork d c n → Present (s.at (d ∷ q)) → ⊥
    was_free d c n h k =
        let (l2, e2, p) = i.tree d q k in let z = (forked d c n h).fresh in let o : l ≡ l2 = cc in let y : ◌≡◌ {A = ℕ} 0 1 = cc in omega arith

    valid-now : (p : TaskName) (m : Local) → node-after q a s p ≡ live m → Valid m
    valid-now p m h = go (origin q a s p m h)
      where
        by : Went m → Valid m
        by (kept_on k) = k.valid
        by (joined _ _ _ k) = k

        go : Origin q a s p m → Valid m
        go (old _ h) = i.valid p m h
        go (mine _ h) = by (went m h)
        go (born d n _ h) = (forked d m n h).child-valid

    owns-now : (p : TaskName) (m : Local) → node-after q a s p ≡ live m → Within (window m) (whole m)
    owns-now p m h b = go (origin q a s p m h)
      where
        x : window l b ≤ whole l b
        x = i.owns q l e b

        by : Went m → window m b ≤ whole m b
        by (kept_on k) = let y = k.shrinks b in let z = k.same_whole b in omega (arith, x)
        by (joined _ k _ _) = k b

        go : Origin q a s p m → window m b ≤ whole m b
        go (old _ h) = i.owns p m h b
        go (mine _ h) = by (went m h)
        go (born d n _ h) = (forked d m n h).own b

    tree-now : (k : ℕ) (p : TaskName) → Present (node-after q a s (k ∷ p)) → (m : Local) × (node-after q a s p ≡ live m) × (pending m k ≡ true)
    tree-now k p h = go (place_of q (k ∷ p)) h
      where
        -- the parent is another thread
        other : ¬ (p ≡ q) → Present (s.at (k ∷ p)) → (m : Local) × (node-after q a s p ≡ live m) × (pending m k ≡ true)
        other n h = let (m, e1, c) = i.tree k p h in (m, leaves-thread 𝓛 s i q l a g r e p m e1 n _ _ ∙ e1, c)

        pend : Present (s.at (k ∷ q)) → pending l k ≡ true
        pend h = let (m, e1, c) = i.tree k q h in let y : m ≡ l = cc in cc

        mine-k : (b : Act Local) → LawfulAct 𝓛 l b → Enabled b (children-of s q) → Present (child-after b k (s.at (k ∷ q)))
            → (m : Local) × (own-after b s.memory (children-of s q) ≡ live m) × (pending m k ≡ true)
        mine-k (halt _) g r h = absurd r
        mine-k (advance n) g r h = (n, refl, g.still-pending k (pend h))
        mine-k (load c f) g r h = (f (s.memory c), refl, (g.1 (s.memory c)).still-pending k (pend h))
        mine-k (store _ _ n) g r h = (n, refl, g.1.still-pending k (pend h))
        mine-k (fork d c n) g r h = (n, refl, at-d (ℕ_discrete k d) h)
          where
            at-d : (o : Dec (k ≡ d)) → Present (ite o (live c) (s.at (k ∷ q))) → pending n k ≡ true
            at-d (yes o) h = let y = g.now-pending in cc
            at-d (no o) h = g.parent-keeps.still-pending k (pend h)
        mine-k (join f) g r h = absurd h
        mine-k (ret v) g r h = let x = pend h in let y = g k in let z : ◌≡◌ {A = ℕ} 0 1 = cc in absurd (omega arith)

        go : (o : Place q (k ∷ p)) → Present (by_place o (own-after a s.memory (children-of s q)) (child-after a) (s.at (k ∷ p)))
            → (m : Local) × (node-after q a s p ≡ live m) × (pending m k ≡ true)
        go (itself c) h = other (λ z. not-own-child (z ∙ sym c)) (subst (λ z. Present (s.at z)) (sym c) (present 𝓛 s i q l e))
        go (elsewhere c d) h = other (λ z. d k (ap (λ y. k ∷ y) z)) h
        go (its-child j c) h =
            let pq = tail-eq c in
            let (m, e1, y) = mine-k a g r (subst (λ z. Present (child-after a k (s.at (k ∷ z)))) pq
            (subst (λ z. Present (child-after a z (s.at (k ∷ p)))) (sym (head-eq c)) h)) in
            (m, subst (λ z. node-after q a s z ≡ live m) (sym pq) (own-node q a s ∙ e1), y)

    above-now : (p x : TaskName) (m n : Local) → node-after q a s p ≡ live m → node-after q a s x ≡ live n → p ⊑ x → ¬ (p ≡ x)
        → Apart (window m) (whole n)
    above-now p x m n h k u d b = go (origin q a s p m h) (origin q a s x n k)
      where
        lq : window l b ≤ whole l b
        lq = i.owns q l e b

        -- no thread stood below a child that has ended
        no-below : ((k : ℕ) → NotLive (s.at (k ∷ q))) → q ⊑ x → ¬ (q ≡ x) → s.at x ≡ live n → ⊥
        no-below z u d k = let (j, v) = ⊑-through-child u d in let (o, y) = ancestor-live 𝓛 s i v n k in live-contradiction 𝓛 s i (j ∷ q) o y (z j)

        by : Went m → q ⊑ x → ¬ (q ≡ x) → s.at x ≡ live n → window m b + whole n b ≤ 2
        by (kept_on z) u d k = let y = z.shrinks b in let c = i.above q x l n e k u d b in omega arith
        by (joined _ _ z _) u d k = absurd (no-below z u d k)

        go : Origin q a s p m → Origin q a s x n → window m b + whole n b ≤ 2
        go (old c h) (old f k) = i.above p x m n h k u d b
        go (old c h) (mine f k) =
            let y = whole_same n (went n k) b in
            let z = i.above p q m l h e (subst (λ t. p ⊑ t) f u) c b in
            omega arith
        go (old c h) (born j o f k) =
            let y = (forked j n o k).part b in
            let z = i.above p q m l h e (elim (⊑-child (subst (λ t. p ⊑ t) f u)) [ inl t ↦ absurd (d (t ∙ sym f)) | inr t ↦ t ]) c b in
            omega (arith, lq)
        go (mine c h) (old f k) = by (went m h) (subst (λ t. t ⊑ x) c u) (λ t. d (c ∙ t)) k
        go (mine c h) (mine f k) = absurd (d (c ∙ sym f))
        go (mine c h) (born j o f k) =
            let y = (forked j n o k).apart b in
            let z : o ≡ m = cc in
            subst (λ t. window t b + whole n b ≤ 2) z y
        go (born j o f h) (old c k) =
            let (t, y) = ancestor-live 𝓛 s i (subst (λ t. t ⊑ x) f u) n k in absurd (was_free j m o h (present 𝓛 s i (j ∷ q) t y))
        go (born j o f h) (mine c k) = absurd (not-under-self (subst (λ t. (j ∷ q) ⊑ t) c (subst (λ t. t ⊑ x) f u)))
        go (born j o f h) (born j2 o2 f2 h2) = let z : j ≡ j2 = cc in absurd (d (cc))

    beside-now : (p x : TaskName) (m n : Local) → node-after q a s p ≡ live m → node-after q a s x ≡ live n → ¬ (p ⊑ x) → ¬ (x ⊑ p)
        → Apart (whole m) (whole n)
    beside-now p x m n h k u d b = go (origin q a s p m h) (origin q a s x n k)
      where
        lq : window l b ≤ whole l b
        lq = i.owns q l e b

        -- a new child beside a thread y that was there
        new : (y : TaskName) (c v : Local) (j : ℕ) (o : Local) → a ≡ fork j c o → s.at y ≡ live v → ¬ (y ≡ q) → ¬ (y ⊑ (j ∷ q))
            → whole c b + whole v b ≤ 2
        new y c v j o h k z t = go (⊑? q y) (⊑? y q)
          where
            f : whole c b ≤ window l b
            f = (forked j c o h).part b

            go : Dec (q ⊑ y) → Dec (y ⊑ q) → whole c b + whole v b ≤ 2
            go (yes x1) _ = let x2 = i.above q y l v e k x1 (λ x3. z (sym x3)) b in omega (arith, f)
            go (no x1) (yes x2) = absurd (t (down x2))
            go (no x1) (no x2) = let x3 = i.beside q y l v e k x1 x2 b in omega (arith, f, lq)

        go : Origin q a s p m → Origin q a s x n → whole m b + whole n b ≤ 2
        go (old c h) (old f k) = i.beside p x m n h k u d b
        go (old c h) (mine f k) =
            let y = whole_same n (went n k) b in
            let z = i.beside p q m l h e (subst (λ t. ¬ (p ⊑ t)) f u) (subst (λ t. ¬ (t ⊑ p)) f d) b in
            omega arith
        go (mine f k) (old c h) =
            let y = whole_same m (went m k) b in
            let z = i.beside q x l n e h (subst (λ t. ¬ (t ⊑ x)) f u) (subst (λ t. ¬ (x ⊑ t)) f d) b in
            omega arith
        go (old c h) (born j o f k) = let y = new p n m j o k h c (subst (λ t. ¬ (p ⊑ t)) f u) in omega arith
        go (born j o f k) (old c h) = new x m n j o k h c (subst (λ t. ¬ (x ⊑ t)) f d)
        go (mine c h) (mine f k) = absurd (u (subst (λ t. p ⊑ t) (c ∙ sym f) here))
        go (mine c h) (born j o f k) = absurd (subst₂ (λ y z. ¬ (y ⊑ z)) c f u (down here))
        go (born j o f h) (mine c k) = absurd (subst₂ (λ y z. ¬ (y ⊑ z)) c f d (down here))
        go (born j o f h) (born j2 o2 f2 h2) = let z : j ≡ j2 = cc in let y : p ≡ x = cc in absurd (u (subst (λ t. p ⊑ t) y here))

    inv-now : Invariant 𝓛 (after q w a s)
    inv-now = record { tree = tree-now; valid = valid-now; owns = owns-now; above = above-now; beside = beside-now }

  pub kept : (p : TaskName) (s t : State Local) → Invariant 𝓛 s → Step 𝓛 p s t → Invariant 𝓛 t
  kept p s t i m = subst (Invariant 𝓛) (sym m.result)
      (inv-now s i p m.who (act (length p) m.who) (lawful (length p) m.who (i.valid p m.who m.there)) m.enabled m.there
      (cost m.who))
