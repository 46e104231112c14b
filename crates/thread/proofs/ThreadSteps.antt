-- A step of a thread pool, effect by effect: what a machine shows of an accepted entry is one of these. Thread t is in use with state l
-- and link k; the pool after the step has its new state and its command's weight.
use mathlib.Core.Path.{◌≡◌, refl, sym, ◌∙◌, ap, subst}
use mathlib.Core.Option.{some}
use mathlib.Core.Bool.{cond}
use Prim.Native.Nat.{ℕ, ◌+◌, ◌≤◌, ◌<◌}
use borrow.Author.Tests.{lt-ltb, le-ltb}
use Rattle.forkjoin.proofs.Update.{update}
use Rattle.forkjoin.proofs.Language.{Act, halt, advance, load, store, ret}
use Rattle.forkjoin.proofs.TaskTree.{word_after}
use Rattle.forkjoin.proofs.Windows.{Windows}
use Rattle.forkjoin.proofs.ThreadPool.{Pool, free, used, Link, child, OwnAct, PoolStep, step-own, step-fork, step-join, step-return}
use Rattle.thread.specs.declared.Effect.{Effect}
use Rattle.thread.specs.declared.Fault.{Fault}
use Rattle.thread.specs.Effect.{number_of_fault}
use Rattle.thread.specs.declared.Effect.TheVariants.{Faults, Sets, Loads, Stores, Goes, Continues, Lforks, Forks, Joins, Suspends, Yields, Returns, Shares}
use Rattle.thread.proofs.Routines.{Code}
use Rattle.thread.proofs.EffectFacts.{Facts, ForkFacts}
use Rattle.thread.proofs.ThreadState.{view, WindowTests, ThreadState, effect, onward, at_target, started, behind-fork, behind-join, behind-share, by-return, split, share-act, act_of, deliver}
use Rattle.thread.proofs.LawfulThreads.{threads, effect-facts}
use Rattle.thread.proofs.CarriedThreads.{carried-threads, does}

module _ (𝓦 : Windows) (tests : WindowTests 𝓦) (code : Code) where
  open 𝓦 use {W, cut, share}

  abbrev pub ThreadStep : ℕ → Pool (ThreadState W) → Pool (ThreadState W) → Type 0
  ThreadStep t M N = PoolStep (threads 𝓦 tests code) (carried-threads 𝓦 tests code) 0 t M N

  -- units with the weight of the command that l stands at
  abbrev pub charged : Pool (ThreadState W) → ThreadState W → ℕ
  charged M l = M.units + code.weight l.routine l.position

  -- a fork's cut is in range
  pub lforks-parts : (l : ThreadState W) (r d a e : ℕ) → effect 𝓦 tests code l ≡ Lforks r d a e
      → (c : W) × (w : W) × (cut l.window e ≡ some (c, w))
  lforks-parts l r d a e h =
      let f : ForkFacts code.arguments (view 𝓦 tests l) r d a e = subst (Facts code.arguments (view 𝓦 tests l)) h
      (effect-facts 𝓦 tests code l) in
      tests.cut-allowed l.window e f.allowed

  pub forks-parts : (l : ThreadState W) (r d a e : ℕ) → effect 𝓦 tests code l ≡ Forks r d a e → (c : W) × (w : W) × (cut l.window e ≡ some (c, w))
  forks-parts l r d a e h =
      let f : ForkFacts code.arguments (view 𝓦 tests l) r d a e = subst (Facts code.arguments (view 𝓦 tests l)) h
      (effect-facts 𝓦 tests code l) in
      tests.cut-allowed l.window e f.allowed

  -- an effect decides the act
  pub does-effect : (n : ℕ) (l : ThreadState W) (e : Effect) → effect 𝓦 tests code l ≡ e
      → does 𝓦 tests code n l ≡ act_of 𝓦 code (by-return 𝓦 code) n l e
  does-effect n l e h = ap (λ x. act_of 𝓦 code (by-return 𝓦 code) n l x) h

  pub does-fault : (l : ThreadState W) (x : Fault) → effect 𝓦 tests code l ≡ Faults x → does 𝓦 tests code 0 l ≡ halt (number_of_fault x)
  unfolding act_of
  does-fault l x h = does-effect 0 l (Faults x) h

  pub does-return : (l : ThreadState W) (v : ℕ) → effect 𝓦 tests code l ≡ Returns v → does 𝓦 tests code 0 l ≡ ret v
  unfolding act_of
  does-return l v h = does-effect 0 l (Returns v) h

  module _ (M : Pool (ThreadState W)) (t : ℕ) (l : ThreadState W) (k : Link) (in_use : M.cell t ≡ used l k) where
    -- the thread goes on as q
    abbrev pub moved : ThreadState W → Pool (ThreadState W)
    moved q = record { cell = update M.cell t (used q k); words = M.words; units = charged M l }

    own-step : (a : Act (ThreadState W)) (q : ThreadState W) → does 𝓦 tests code 0 l ≡ a
        → OwnAct (threads 𝓦 tests code) (carried-threads 𝓦 tests code) a M.words q
        → ThreadStep t M (record { cell = update M.cell t (used q k); words = λ x. word_after a x (M.words x); units = charged M l })
    own-step a q h o = subst
        (λ z. ThreadStep t M (record { cell = update M.cell t (used q k); words = λ x. word_after z x (M.words x); units = charged M l })) h
        (step-own l q k in_use (subst (λ z. OwnAct (threads 𝓦 tests code) (carried-threads 𝓦 tests code) z M.words q) (sym h) o))

    pub sets-step : (d v : ℕ) → effect 𝓦 tests code l ≡ Sets d v → ThreadStep t M (moved (onward code l (update l.slots d v)))
    unfolding act_of
    sets-step d v h = own-step (advance (onward code l (update l.slots d v))) _ (does-effect 0 l (Sets d v) h) refl

    pub goes_step : (x : ℕ) → effect 𝓦 tests code l ≡ Goes x → ThreadStep t M (moved (at_target l x))
    unfolding act_of
    goes_step x h = own-step (advance (at_target l x)) _ (does-effect 0 l (Goes x) h) refl

    pub continues-step : effect 𝓦 tests code l ≡ Continues → ThreadStep t M (moved (onward code l l.slots))
    unfolding act_of
    continues-step h = own-step (advance (onward code l l.slots)) _ (does-effect 0 l Continues h) refl

    pub suspends-step : effect 𝓦 tests code l ≡ Suspends → ThreadStep t M (moved (onward code l l.slots))
    unfolding act_of
    suspends-step h = own-step (advance (onward code l l.slots)) _ (does-effect 0 l Suspends h) refl

    pub shares-step : (x : ℕ) (w : W) → effect 𝓦 tests code l ≡ Shares x → share l.window x ≡ some w → ThreadStep t M (moved (behind-share code l w))
    unfolding act_of
    shares-step x w h left = own-step (advance (behind-share code l w)) _ (does-effect 0 l (Shares x) h ∙ ap (λ r. share-act 𝓦 code l r) left) refl

    pub yields-step : effect 𝓦 tests code l ≡ Yields → ThreadStep t M (moved (onward code l l.slots))
    unfolding act_of
    yields-step h = own-step (advance (onward code l l.slots)) _ (does-effect 0 l Yields h) refl

    -- a load of a parameter word, and of a memory word
    pub loads-parameter-step : (d a : ℕ) → effect 𝓦 tests code l ≡ Loads d a → a < 32
        → ThreadStep t M (moved (onward code l (update l.slots d (code.params a))))
    unfolding act_of
    loads-parameter-step d a h low = own-step (advance (onward code l (update l.slots d (code.params a)))) _
        (does-effect 0 l (Loads d a) h ∙ ap (λ z. cond z (advance (onward code l (update l.slots d (code.params a))))
        (load a (λ v. onward code l (update l.slots d v)))) (lt-ltb a 32 low)) refl

    pub loads-step : (d a : ℕ) → effect 𝓦 tests code l ≡ Loads d a → 32 ≤ a
        → ThreadStep t M (moved (onward code l (update l.slots d (M.words a))))
    unfolding act_of
    loads-step d a h high = own-step (load a (λ v. onward code l (update l.slots d v))) _
        (does-effect 0 l (Loads d a) h ∙ ap (λ z. cond z (advance (onward code l (update l.slots d (code.params a))))
        (load a (λ v. onward code l (update l.slots d v)))) (le-ltb a 32 high)) refl

    pub stores-step : (a v : ℕ) → effect 𝓦 tests code l ≡ Stores a v
        → ThreadStep t M (record {
          cell = update M.cell t (used (onward code l l.slots) k);
          words = update
              M.words a v;
          units = charged M l;
        })
    unfolding act_of
    stores-step a v h = own-step (store a v (onward code l l.slots)) _ (does-effect 0 l (Stores a v) h) refl

    -- a fork by slot d at the cut e, with the child at the free number b; c and w are the child's window and the rest
    abbrev pub forked : ℕ → ℕ → ℕ → W → W → ℕ → Pool (ThreadState W)
    forked r d a c w b = record {
      cell = update (update M.cell t (used (behind-fork code l l.slots d w) k)) b (used (started code r l.slots a c) (child t d));
      words = M.words;
      units = charged M l;
    }

    pub lforks-step : (r d a e : ℕ) (c w : W) (b : ℕ) → effect 𝓦 tests code l ≡ Lforks r d a e → cut l.window e ≡ some (c, w) → M.cell b ≡ free
        → ThreadStep t M (forked r d a c w b)
    unfolding act_of
    lforks-step r d a e c w b h parts unused = step-fork l _ _ k d b in_use
        (does-effect 0 l (Lforks r d a e) h ∙ ap (λ x. split 𝓦 code (by-return 𝓦 code) 0 l r d a x) parts) unused

    pub forks-step : (r d a e : ℕ) (c w : W) (b : ℕ) → effect 𝓦 tests code l ≡ Forks r d a e → cut l.window e ≡ some (c, w) → M.cell b ≡ free
        → ThreadStep t M (forked r d a c w b)
    unfolding act_of
    forks-step r d a e c w b h parts unused = step-fork l _ _ k d b in_use
        (does-effect 0 l (Forks r d a e) h ∙ ap (λ x. split 𝓦 code (by-return 𝓦 code) 0 l r d a x) parts) unused

    -- a join that passes: no thread in use is a child of t
    pub joins-step : effect 𝓦 tests code l ≡ Joins → ((b : ℕ) (q : ThreadState W) (d : ℕ) → M.cell b ≡ used q (child t d) → ⊥)
        → ThreadStep t M (moved (behind-join 𝓦 code l l.slots))
    unfolding act_of
    joins-step h childless = step-join l _ k in_use (does-effect 0 l Joins h) childless

  -- a child's return: its number is free, its value in the parent's slot
  pub returns-step : (M : Pool (ThreadState W)) (t : ℕ) (l l' : ThreadState W) (k' : Link) (q d v : ℕ) → M.cell t ≡ used l (child q d)
      → M.cell q ≡ used l' k'
      → effect 𝓦 tests code l ≡ Returns v
      → ThreadStep t M (record { cell = update (update M.cell t free) q (used (deliver l' d v) k'); words = M.words; units = charged M l })
  returns-step M t l l' k' q d v in_use parent h = step-return l l' k' q d v in_use (does-return l v h) parent
