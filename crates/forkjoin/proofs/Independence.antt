-- Steps of different threads are independent. Each act changes nodes and words pointwise, and at each place at most one of the
-- two changes anything: a step leaves alone every other live thread, the ended children of other threads, and every word that
-- another thread may read. So both orders give the same state (`swap`).
use mathlib.Core.Path.{◌∙◌, ◌≡◌, ap, fun_ext, refl, subst, sym}
use mathlib.Core.List.{◌∷◌}
use mathlib.Core.Logic.{ite}
use Prim.Native.Nat.{◌+◌, ◌≤◌, ℕ}
use native.Mathlib.Decide.{ℕ_discrete}
use native.Mathlib.Omega.{arith}
use Rattle.forkjoin.proofs.TaskName.{Place, TaskName, elsewhere, its-child, itself, place_of, tail-eq}
use Rattle.forkjoin.proofs.Language.{Act, Language, LawfulAct, advance, fork, halt, join, load, ret, store}
use Rattle.forkjoin.proofs.TaskTree.{Enabled, Node, NotLive, State, after, by_place, child-after, children-of, live, own-after, value, word_after}
use Rattle.forkjoin.proofs.Invariant.{Invariant, leaves-live-child, live-contradiction, windows-apart}

module _ (𝓛 : Language) where
  open 𝓛 use {Local, window}

  module _ (s : State Local) (i : Invariant 𝓛 s) where
    -- what the act a of thread q leaves alone
    module _ (q : TaskName) (l : Local) (a : Act Local) (g : LawfulAct 𝓛 l a) (r : Enabled a (children-of s q)) (e : s.at q ≡ live l) where
      -- no other thread
      pub leaves-thread : (p : TaskName) (m : Local) → s.at p ≡ live m → ¬ (p ≡ q) → (n x : Node Local)
          → by_place (place_of q p) n (child-after a) x ≡ x
      leaves-thread p m e1 d n x = go (place_of q p)
        where
          go : (o : Place q p) → by_place o n (child-after a) x ≡ x
          go (itself h) = absurd (d h)
          go (its-child k h) = leaves-live-child 𝓛 s i q k l m a g r e (subst (λ z. s.at z ≡ live m) h e1) x
          go (elsewhere _ _) = refl

      -- no ended child of another thread
      pub leaves-ended-child : (p : TaskName) (k : ℕ) → NotLive (s.at (k ∷ p)) → ¬ (p ≡ q) → (n x : Node Local)
          → by_place (place_of q (k ∷ p)) n (child-after a) x ≡ x
      leaves-ended-child p k t d n x = go (place_of q (k ∷ p))
        where
          go : (o : Place q (k ∷ p)) → by_place o n (child-after a) x ≡ x
          go (itself h) = absurd (live-contradiction 𝓛 s i q l e (subst (λ z. NotLive (s.at z)) h t))
          go (its-child j h) = absurd (d (tail-eq h))
          go (elsewhere _ _) = refl

      -- no word that another thread may read
      pub leaves-readable-word : (p : TaskName) (m : Local) (b : ℕ) → s.at p ≡ live m → ¬ (p ≡ q) → 1 ≤ window m b → (x : ℕ) → word_after a b x ≡ x
      leaves-readable-word p m b e1 d h x = go a g
        where
          w : window m b + window l b ≤ 2
          w = windows-apart 𝓛 s i p q m l d e1 e b

          at_b : (c : ℕ) (v : ℕ) → 2 ≤ window l c → (o : Dec (b ≡ c)) → ite o v x ≡ x
          at_b c v y (yes z) = let y2 : 2 ≤ window l b = subst (λ u. 2 ≤ window l u) (sym z) y in absurd (omega (arith, w))
          at_b c v y (no z) = refl

          go : (a : Act Local) → LawfulAct 𝓛 l a → word_after a b x ≡ x
          go (halt _) _ = refl
          go (advance _) _ = refl
          go (load _ _) _ = refl
          go (store c v _) y = at_b c v y.0 (ℕ_discrete b c)
          go (fork _ _ _) _ = refl
          go (join _) _ = refl
          go (ret _) _ = refl

    -- thread p does after thread q's act what it would have done before it
    module _ (p q : TaskName) (l m : Local) (a b : Act Local) (ga : LawfulAct 𝓛 l a) (gb : LawfulAct 𝓛 m b)
        (ra : Enabled a (children-of s p)) (rb : Enabled b (children-of s q)) (e : s.at p ≡ live l) (e1 : s.at q ≡ live m) (d : ¬ (p ≡ q))
        (w : ℕ) where
      same-child : (k : ℕ) → NotLive (s.at (k ∷ p)) → children-of (after q w b s) p k ≡ children-of s p k
      same-child k t = leaves-ended-child q m b gb rb e1 p k t d _ _

      pub same-enabled : Enabled a (children-of (after q w b s) p)
      same-enabled = go a ra
        where
          go : (a : Act Local) → Enabled a (children-of s p) → Enabled a (children-of (after q w b s) p)
          go (halt _) r = r
          go (advance _) r = r
          go (load _ _) r = r
          go (store _ _ _) r = r
          go (fork _ _ _) r = r
          go (join _) r = λ k. subst NotLive (sym (same-child k (r k))) (r k)
          go (ret _) r = r

      same-own : own-after a (after q w b s).memory (children-of (after q w b s) p) ≡ own-after a s.memory (children-of s p)
      same-own = go a ga ra
        where
          go : (a : Act Local) → LawfulAct 𝓛 l a → Enabled a (children-of s p)
              → own-after a (after q w b s).memory (children-of (after q w b s) p) ≡ own-after a s.memory (children-of s p)
          go (halt _) g r = refl
          go (advance _) g r = refl
          go (load c f) g r = ap (λ v. live (f v)) (leaves-readable-word q m b gb rb e1 p l c e d g.0 (s.memory c))
          go (store _ _ _) g r = refl
          go (fork _ _ _) g r = refl
          go (join f) g r = ap (λ h. live (f h)) (fun_ext (λ k. ap value (same-child k (r k))))
          go (ret _) g r = refl

      swap_at : (x : TaskName) (n o y : Node Local)
          → by_place (place_of q x) o (child-after b) (by_place (place_of p x) n (child-after a) y) ≡ by_place (place_of p x) n (child-after a)
          (by_place (place_of q x) o (child-after b) y)
      swap_at x n o y = go (place_of p x) (place_of q x)
        where
          go : (u : Place p x) (v : Place q x) → by_place v o (child-after b) (by_place u n (child-after a) y) ≡ by_place u n (child-after a)
              (by_place v o (child-after b) y)
          go (itself h) (itself k) = absurd (d (sym h ∙ k))
          go (itself h) (its-child j k) = leaves-live-child 𝓛 s i q j m l b gb rb e1 (subst (λ z. s.at z ≡ live l) (sym h ∙ k) e) n
          go (its-child j k) (itself h) = sym (leaves-live-child 𝓛 s i p j l m a ga ra e (subst (λ z. s.at z ≡ live m) (sym h ∙ k) e1) o)
          go (its-child j h) (its-child k i) = absurd (d (tail-eq (sym h ∙ i)))
          go (elsewhere _ _) v = refl
          go (itself _) (elsewhere _ _) = refl
          go (its-child _ _) (elsewhere _ _) = refl

      swap-word : (x y : ℕ) → word_after b x (word_after a x y) ≡ word_after a x (word_after b x y)
      swap-word x y = go a ga
        where
          at_c : (c v : ℕ) → 2 ≤ window l c → (o : Dec (x ≡ c)) → word_after b x (ite o v y) ≡ ite o v (word_after b x y)
          at_c c v g (yes h) = let f : 1 ≤ window l x = subst (λ z. 1 ≤ window l z) (sym h) (omega arith) in
              leaves-readable-word q m b gb rb e1 p l x e d f v
          at_c c v g (no _) = refl

          go : (a : Act Local) → LawfulAct 𝓛 l a → word_after b x (word_after a x y) ≡ word_after a x (word_after b x y)
          go (halt _) g = refl
          go (advance _) g = refl
          go (load _ _) g = refl
          go (store c v _) g = at_c c v g.0 (ℕ_discrete x c)
          go (fork _ _ _) g = refl
          go (join _) g = refl
          go (ret _) g = refl

    -- the order of two threads' acts plays no part
    pub swap : (p q : TaskName) (l m : Local) (a b : Act Local) → LawfulAct 𝓛 l a → LawfulAct 𝓛 m b
        → Enabled a (children-of s p) → Enabled b (children-of s q) → s.at p ≡ live l → s.at q ≡ live m → ¬ (p ≡ q) → (v w : ℕ)
        → after q w b (after p v a s) ≡ after p v a (after q w b s)
    swap p q l m a b ga gb ra rb e e1 d v w = λ i. record {
      at = λ x. nodes x i;
      memory = λ x. swap-word p q l m a b ga gb ra rb e e1 d w x (s.memory x) i;
      units = total i;
    }
      where
        total : s.units + v + w ≡ s.units + w + v
        total = omega arith

        A : Node Local
        A = own-after a s.memory (children-of s p)

        B : Node Local
        B = own-after b s.memory (children-of s q)

        A' : Node Local
        A' = own-after a (after q w b s).memory (children-of (after q w b s) p)

        B' : Node Local
        B' = own-after b (after p v a s).memory (children-of (after p v a s) q)

        ea : A' ≡ A
        ea = same-own p q l m a b ga gb ra rb e e1 d w

        eb : B' ≡ B
        eb = same-own q p m l b a gb ga rb ra e1 e (λ h. d (sym h)) v

        nodes : (x : TaskName) → by_place (place_of q x) B' (child-after b) (by_place (place_of p x) A (child-after a) (s.at x))
            ≡ by_place (place_of p x) A' (child-after a) (by_place (place_of q x) B (child-after b) (s.at x))
        nodes x = ap (λ z. by_place (place_of q x) z (child-after b) (by_place (place_of p x) A (child-after a) (s.at x))) eb
            ∙ swap_at p q l m a b ga gb ra rb e e1 d w x A B (s.at x)
            ∙ ap (λ z. by_place (place_of p x) z (child-after a) (by_place (place_of q x) B (child-after b) (s.at x))) (sym ea)
