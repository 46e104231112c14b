-- A thread of a pool that is about to step, with what is known of it, and the tree's step that belongs to it. The three modules
-- that follow show that the pool after the step represents the tree after it.
use mathlib.Core.Path.{◌∙◌, ◌≡◌, ap, subst, sym}
use mathlib.Core.List.{◌∷◌}
use mathlib.Core.Bool.{true}
use Prim.Native.Nat.{ℕ}
use lib.ListN.{length}
use Rattle.forkjoin.proofs.TaskName.{Place, TaskName, elsewhere, its-child, itself, not-own-child, place_of, tail-eq}
use Rattle.forkjoin.proofs.Language.{Act, Language, LawfulAct}
use Rattle.forkjoin.proofs.TaskTree.{Enabled, State, Step, after, by_place, child-after, children-of, live, own-after}
use Rattle.forkjoin.proofs.AfterStep.{child-node, own-node}
use Rattle.forkjoin.proofs.Invariant.{Invariant}
use Rattle.forkjoin.proofs.Independence.{leaves-thread}
use Rattle.forkjoin.proofs.Carried.{Carried}
use Rattle.forkjoin.proofs.ThreadPool.{Link, Pool, used}
use Rattle.forkjoin.proofs.Represents.{Fits, Represents}

-- thread t, in use with state r and link k, does the act b
pub record Stepping (𝓛 : Language) (𝓒 : Carried 𝓛) (name : ℕ → TaskName) (M : Pool (Carried.Concrete 𝓒)) (s : State (Language.Local 𝓛))
    (t : ℕ) (r : Carried.Concrete 𝓒) (k : Link) (b : Act (Language.Local 𝓛)) : Type 0 where
  pub related : Represents 𝓛 𝓒 name M s
  pub invariant : Invariant 𝓛 s
  pub in_use : M.cell t ≡ used r k
  pub acts : Language.act 𝓛 (length (name t)) (Carried.abstraction 𝓒 r) ≡ b
  pub enabled : Enabled b (children-of s (name t))

module _ {𝓛 : Language} {𝓒 : Carried 𝓛} where
  open 𝓛 use {Local, act, cost, pending, lawful}
  open 𝓒 use {Concrete, abstraction, held}

  module _ {name : ℕ → TaskName} {M : Pool Concrete} {s : State Local} {t : ℕ} {r : Concrete} {k : Link} {b : Act Local}
      (S : Stepping 𝓛 𝓒 name M s t r k b) where
    open S use {related, invariant, in_use, acts, enabled}

    pub act-lawful : LawfulAct 𝓛 (abstraction r) b
    act-lawful = subst (λ z. LawfulAct 𝓛 (abstraction r) z) acts
        (lawful (length (name t)) (abstraction r) (invariant.valid (name t) (abstraction r) (related.alive t r k in_use)))

    pub live_now : s.at (name t) ≡ live (abstraction r)
    live_now = related.alive t r k in_use

    -- the tree after the step
    unfoldable pub next-state : State Local
    next-state = after (name t) (cost (abstraction r)) b s

    pub tree-step : Step 𝓛 (name t) s next-state
    unfolding next-state
    tree-step = record {
      who = abstraction r;
      there = live_now;
      enabled = subst (λ z. Enabled z (children-of s (name t)))
          (sym acts) enabled;
      result = ap (λ z. after (name t) (cost (abstraction r)) z s) (sym acts);
    }

    pub node-own : next-state.at (name t) ≡ own-after b s.memory (children-of s (name t))
    unfolding next-state
    node-own = own-node (name t) b s

    pub node-child : (d : ℕ) → next-state.at (d ∷ name t) ≡ child-after b d (s.at (d ∷ name t))
    unfolding next-state
    node-child d = child-node (name t) b s d

    pub node-other : (u : ℕ) (r' : Concrete) (k' : Link) → M.cell u ≡ used r' k' → ¬ (u ≡ t) → next-state.at (name u) ≡ live (abstraction r')
    unfolding next-state
    node-other u r' k' cu n = leaves-thread 𝓛 s invariant (name t) (abstraction r) b act-lawful enabled live_now (name u) (abstraction r')
        (related.alive u r' k' cu) (λ e. n (related.distinct u t r' r k' k cu in_use e)) _ _
        ∙ related.alive u r' k' cu

    -- the node of another thread's child
    pub fits-other : (u : ℕ) (r' : Concrete) (k' : Link) (d : ℕ) → M.cell u ≡ used r' k' → ¬ (u ≡ t) → pending (abstraction r') d ≡ true
        → (d ∷ name u ≡ name t → Fits 𝓛 𝓒 (own-after b s.memory (children-of s (name t))) (held r' d))
        → Fits 𝓛 𝓒 (next-state.at (d ∷ name u)) (held r' d)
    unfolding next-state
    fits-other u r' k' d cu n pd f = go (place_of (name t) (d ∷ name u))
      where
        go : (o : Place (name t) (d ∷ name u)) → Fits 𝓛 𝓒
            (by_place o (own-after b s.memory (children-of s (name t))) (child-after b) (s.at (d ∷ name u))) (held r' d)
        go (itself e) = f e
        go (its-child j e) = absurd (n (related.distinct u t r' r k' k cu in_use (tail-eq e)))
        go (elsewhere _ _) = related.slot-fits u r' k' d cu pd

    -- a thread is not its own parent
    pub not_own : (q d : ℕ) → name t ≡ d ∷ name q → ¬ (q ≡ t)
    not_own q d e h = not-own-child (e ∙ ap (λ z. d ∷ name z) h)
