-- The threads that a rule names are in use in a sound state, and what is known of the command that each of them meets. Assumes nothing.
use mathlib.Core.Bool.{true, false}
use mathlib.Core.List.{List, ◌∷◌}
use mathlib.Core.Logic.{◌⊎◌, ⊎_elim}
use mathlib.Core.Path.{◌≡◌}
use Prim.Native.Nat.{ℕ, ◌<◌}
use native.Mathlib.Omega.{arith}
use borrow.Author.Tests.{leb-false}
use Rattle.thread.specs.declared.Effect.{Effect}
use Rattle.thread.specs.declared.Effect.TheVariants.{Lforks, Forks}
use Rattle.thread.specs.Thread.{is_root, none}
use Rattle.rules.specs.State.{Job, State, thread_at}
use Rattle.rules.specs.Turn.{effect_at}
use Rattle.rules.specs.Lists.{Every}
use Rattle.rules.specs.Sound.{Sound, Used, status_at}
use Rattle.soundness.proofs.Entries.{Stepped, Seeded, Waits, Taken}
use Rattle.soundness.proofs.CommandMet.{MetAt, met_at}
use Rattle.soundness.proofs.Parts.{runs}

module _ (j : Job) (s : State) (ok : Sound j s) where
  pub runner : (c t : ℕ) → Stepped j s c t → Used s t
  runner c t k = let z = runs j s ok c t k.core k.seat k.low in omega arith

  -- the other threads that a rule names are in use too
  pub waiter-used : (c t : ℕ) → Waits j s c t → Used s t
  waiter-used c t k = let z = runs j s ok c t k.core k.seat k.low in omega arith

  pub taken-used : (c t : ℕ) (ts : List ℕ) → Taken s c t ts → Used s t
  taken-used c t ts k = let all : Every (λ y. status_at s y ≡ 2) (t ∷ ts) = rw k.head at ok.turns.ready in let z = all.0 in omega arith

  pub lent-used : (c t : ℕ) → Seeded j s c t → Used s t
  lent-used c t k = let z = k.lent in omega arith

  pub parent-used : (t : ℕ) → Used s t → is_root (thread_at s t) ≡ false → Used s (thread_at s t).origin.parent
  parent-used t h r = ⊎_elim (λ z. let y = leb-false none (thread_at s t).origin.parent r in let w = z.1 in absurd (omega arith)) (λ z. z.1) (ok.tree.tree t h)

  -- so is the parent of any thread but the root
  pub parent_of : (u : ℕ) → Used s u → (u ≡ 0 → ⊥) → Used s (thread_at s u).origin.parent
  parent_of u h n = ⊎_elim (λ z. absurd (n z.0)) (λ z. z.1) (ok.tree.tree u h)

  -- a thread that has a parent is not thread 0
  pub child-not-first : (t : ℕ) → Used s t → is_root (thread_at s t) ≡ false → t ≡ 0 → ⊥
  child-not-first t h r e = ⊎_elim (λ z. let y = leb-false none (thread_at s t).origin.parent r in let w = z.1 in omega arith) (λ z. z.0 e) (ok.tree.tree t h)

  -- what is known of the command that is met, by a step or by a steal
  pub step-met : (c t : ℕ) → Stepped j s c t → (e : Effect) → effect_at j s (thread_at s t) ≡ e → MetAt j s t e
  step-met c t k = met_at j s ok.job ok.placed t (runner c t k)

  pub seed-met : (c t : ℕ) → Seeded j s c t → (r d a e : ℕ)
      → (effect_at j s (thread_at s t) ≡ Lforks r d a e) ⊎ (effect_at j s (thread_at s t) ≡ Forks r d a e) → MetAt j s t (Lforks r d a e)
  seed-met c t k r d a e q =
      ⊎_elim (met_at j s ok.job ok.placed t (lent-used c t k) (Lforks r d a e)) (met_at j s ok.job ok.placed t (lent-used c t k) (Forks r d a e)) q

  pub linked-parent : (t : ℕ) → (thread_at s t).connected ≡ true → Used s (thread_at s t).origin.parent
  linked-parent t e = let z = (ok.links.linked t e).1 in omega arith

  -- the root is nobody's child
  pub child-not-root : (t u : ℕ) → t < 32 → Used s u → (thread_at s u).origin.parent ≡ t → u ≡ 0 → ⊥
  child-not-root t u l h e z = ⊎_elim (λ a. let q = a.1 in omega arith) (λ a. a.0 z) (ok.tree.tree u h)
