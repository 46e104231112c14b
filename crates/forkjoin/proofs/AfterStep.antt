-- What one step does to each node: the thread's own node and its children's are changed by the act, no other is. `Origin` says
-- where a live thread of the new state comes from: it was there, it is the thread that stepped, or it was just forked. Whatever is
-- shown of the state after a step (the kept invariant, the simulation) goes by these.
use mathlib.Core.Path.{◌∙◌, ◌≡◌, ap, refl, subst, sym}
use mathlib.Core.List.{◌∷◌}
use mathlib.Core.Logic.{ite}
use Prim.Native.Nat.{ℕ}
use native.Mathlib.Decide.{ℕ_discrete}
use native.Mathlib.Omega.{arith}
use lib.ListN.{length}
use Rattle.forkjoin.proofs.TaskName.{Place, TaskName, ◌⊑◌, down, elsewhere, head-eq, here, its-child, itself, not-own-child, place_of, tail-eq}
use Rattle.forkjoin.proofs.Language.{Act, advance, fork, halt, join, load, ret, store}
use Rattle.forkjoin.proofs.TaskTree.{State, by_place, child-after, children-of, live, node-after, own-after}

module _ {A : Type 0} (q : TaskName) (a : Act A) (s : State A) where
  pub own-node : node-after q a s q ≡ own-after a s.memory (children-of s q)
  own-node = go (place_of q q)
    where
      go : (o : Place q q) → by_place o (own-after a s.memory (children-of s q)) (child-after a) (s.at q) ≡ own-after a s.memory
          (children-of s q)
      go (itself _) = refl
      go (its-child k h) = absurd (not-own-child h)
      go (elsewhere h _) = absurd (h refl)

  pub child-node : (k : ℕ) → node-after q a s (k ∷ q) ≡ child-after a k (s.at (k ∷ q))
  child-node k = go (place_of q (k ∷ q))
    where
      go : (o : Place q (k ∷ q)) → by_place o (own-after a s.memory (children-of s q)) (child-after a) (s.at (k ∷ q)) ≡ child-after a k
          (s.at (k ∷ q))
      go (itself h) = absurd (not-own-child (sym h))
      go (its-child j h) = ap (λ z. child-after a z (s.at (k ∷ q))) (sym (head-eq h))
      go (elsewhere _ h) = absurd (h k refl)

  pub grandchild-node : (j k : ℕ) → node-after q a s (j ∷ k ∷ q) ≡ s.at (j ∷ k ∷ q)
  grandchild-node j k = go (place_of q (j ∷ k ∷ q))
    where
      go : (o : Place q (j ∷ k ∷ q)) → by_place o (own-after a s.memory (children-of s q)) (child-after a) (s.at (j ∷ k ∷ q)) ≡ s.at (j ∷ k ∷ q)
      go (itself h) = let z : length (j ∷ k ∷ q) ≡ length q = ap length h in absurd (omega arith)
      go (its-child _ h) = absurd (not-own-child (sym (tail-eq h)))
      go (elsewhere _ _) = refl

  -- what is not below the thread stays
  pub node-outside : (x : TaskName) → ¬ (q ⊑ x) → node-after q a s x ≡ s.at x
  node-outside x n = go (place_of q x)
    where
      go : (o : Place q x) → by_place o (own-after a s.memory (children-of s q)) (child-after a) (s.at x) ≡ s.at x
      go (itself h) = absurd (n (subst (λ z. q ⊑ z) (sym h) here))
      go (its-child j h) = absurd (n (subst (λ z. q ⊑ z) (sym h) (down here)))
      go (elsewhere _ _) = refl

  -- where a thread of the new state comes from
  pub data Origin (x : TaskName) (m : A) : Type 0 where
    old : ¬ (x ≡ q) → s.at x ≡ live m → Origin x m
    mine : x ≡ q → own-after a s.memory (children-of s q) ≡ live m → Origin x m
    born : (d : ℕ) (n : A) → x ≡ d ∷ q → a ≡ fork d m n → Origin x m

  pub origin : (x : TaskName) (m : A) → node-after q a s x ≡ live m → Origin x m
  origin x m h = go (place_of q x) h
    where
      not_own : (k : ℕ) → x ≡ k ∷ q → ¬ (x ≡ q)
      not_own k c z = not-own-child (sym z ∙ c)

      new-child : (k : ℕ) → x ≡ k ∷ q → (d : ℕ) (c n : A) → a ≡ fork d c n → (o : Dec (k ≡ d)) → ite o (live c) (s.at x) ≡ live m → Origin x m
      new-child k c d b n z (yes o) h = let y : b ≡ m = cc in born d n (cc) (subst (λ t. a ≡ fork d t n) y z)
      new-child k c d b n z (no o) h = old (not_own k c) h

      by-child : (k : ℕ) → x ≡ k ∷ q → (b : Act A) → a ≡ b → child-after b k (s.at x) ≡ live m → Origin x m
      by-child k c (halt _) z h = old (not_own k c) h
      by-child k c (advance _) z h = old (not_own k c) h
      by-child k c (load _ _) z h = old (not_own k c) h
      by-child k c (store _ _ _) z h = old (not_own k c) h
      by-child k c (fork d b n) z h = new-child k c d b n z (ℕ_discrete k d) h
      by-child k c (join _) z h = let y : ◌≡◌ {A = ℕ} 0 1 = cc in absurd (omega arith)
      by-child k c (ret _) z h = old (not_own k c) h

      go : (o : Place q x) → by_place o (own-after a s.memory (children-of s q)) (child-after a) (s.at x) ≡ live m → Origin x m
      go (itself c) h = mine c h
      go (its-child k c) h = by-child k c a refl h
      go (elsewhere c _) h = old c h
