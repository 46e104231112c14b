-- Document 01's threads are a command language of the fork-join theory: every act stays within the thread's rights, because
-- `effect_of` has tested them.
use mathlib.Core.Path.{◌≡◌, refl, sym, ◌∙◌, ap, subst}
use mathlib.Core.Option.{Option, none, some}
use mathlib.Core.Logic.{ite}
use mathlib.Core.Bool.{Bool, true, false, cond}
use Prim.Native.Nat.{ℕ, ◌≤◌, ◌<◌}
use native.Mathlib.Decide.{ℕ_discrete, dec_lt}
use native.Mathlib.Omega.{arith}
use lib.Dec.{ltb}
use borrow.Author.Tests.{ltb-false}
use Rattle.forkjoin.proofs.Rights.{Rights}
use Rattle.forkjoin.proofs.Update.{update, update_same}
use Rattle.forkjoin.proofs.Language.{Act, halt, advance, load, fork, KeepLaw, Lawful, Language}
use Rattle.forkjoin.proofs.Windows.{Windows, Parts}
use Rattle.thread.specs.declared.Effect.{Effect}
use Rattle.thread.specs.declared.Effect.TheVariants.{Faults, Sets, Loads, Stores, Goes, Continues, Lforks, Forks, Joins, Suspends, Yields, Returns, Shares}
use Rattle.thread.proofs.Routines.{Code}
use Rattle.thread.proofs.EffectFacts.{Facts, ForkFacts, guarded}
use Rattle.thread.proofs.ThreadState.{WindowTests, ThreadState, view, command, effect, onward, started, behind-fork, by-join, split, fork-act, load-act, share-act, act_of}

module _ (𝓦 : Windows) (tests : WindowTests 𝓦) (code : Code) where
  open 𝓦 use {W, now, whole, cut, share, Fit, cut-law, share-law, rejoin-fit, rejoin-same, rejoin-own}

  -- its window is a window, and its pending slots are among the sixteen
  abbrev pub Proper : ThreadState W → Type 0
  Proper l = Fit l.window × ((k : ℕ) → 16 ≤ k → l.pending k ≡ false)

  abbrev pub pending-slots : ThreadState W → ℕ → Bool
  pending-slots l k = l.pending k

  abbrev pub rights : ThreadState W → Rights
  rights l = now l.window

  abbrev pub whole-rights : ThreadState W → Rights
  whole-rights l = whole l.window

  abbrev Keeps : ThreadState W → ThreadState W → Type 0
  Keeps l m = KeepLaw Proper pending-slots rights whole-rights l m

  abbrev Obeys : ThreadState W → Act (ThreadState W) → Type 0
  Obeys l a = Lawful Proper pending-slots rights whole-rights l a

  -- a thread that goes on with the same pending slots and window
  keeps : (l m : ThreadState W) → Proper l → m.pending ≡ l.pending → m.window ≡ l.window → Keeps l m
  keeps l m o e e1 = record {
    valid = (subst Fit (sym e1) o.0, λ k h. ap (λ z. z k) e ∙ o.1 k h);
    still-pending = λ k h. subst (λ z. z k ≡ true) (sym e) h;
    shrinks = λ a. subst (λ z. now z a ≤ now l.window a) (sym e1) (omega arith);
    same_whole = λ a. ap (λ z. whole z a) e1;
  }

  load-lawful : (l : ThreadState W) (d a : ℕ) → Proper l → tests.may_load l.window a ≡ true → Obeys l (load-act code l d a)
  load-lawful l d a o allowed = go (ltb a 32) refl
    where
      go : (t : Bool) → ltb a 32 ≡ t → Obeys l (cond t (advance (onward code l (update l.slots d (code.params a))))
          (load a (λ v. onward code l (update l.slots d v))))
      go true e = keeps l _ o refl refl
      go false e = (tests.load-allowed l.window a (ltb-false a 32 e) allowed, λ v. keeps l _ o refl refl)

  fork-lawful : (n : ℕ) (l : ThreadState W) (r d a e : ℕ) → Proper l → ForkFacts code.arguments (view 𝓦 tests l) r d a e
      → Obeys l (fork-act 𝓦 code (by-join 𝓦 code) n l r d a e)
  fork-lawful n l r d a e o f = by-cut (cut l.window e) refl
    where
      more : (k : ℕ) → l.pending k ≡ true → (x : Dec (k ≡ d)) → ite x true (l.pending k) ≡ true
      more k h (yes _) = refl
      more k h (no _) = h

      out : (k : ℕ) → 16 ≤ k → (x : Dec (k ≡ d)) → ite x true (l.pending k) ≡ false
      out k h (yes y) = let z : d < 16 = f.in-range in absurd (omega arith)
      out k h (no y) = o.1 k h

      by_parts : (p : W × W) → Parts Fit now whole l.window p.0 p.1
          → Obeys l (fork d (started code r l.slots a p.0) (behind-fork code l (update l.slots d 0) d p.1))
      by_parts p c = record {
        parent-keeps = record {
          valid = (c.fit-rest, λ k h. out k h (ℕ_discrete k d));
          still-pending = λ k h. more k h (ℕ_discrete k d);
          shrinks = c.less;
          same_whole = c.same;
        };
        child-valid = (c.fit-child, λ k h. refl);
        fresh = f.fresh;
        now-pending = update_same l.pending d true;
        part = c.part;
        own = c.own;
        apart = c.apart;
      }

      at-depth : (t : Bool) (p : W × W) → cut l.window e ≡ some p
          → Obeys l (cond t (fork d (started code r l.slots a p.0) (behind-fork code l (update l.slots d 0) d p.1)) (halt 26))
      at-depth true p h = by_parts p (cut-law l.window e p.0 p.1 o.0 h)
      at-depth false p h = tt

      by-cut : (x : Option (W × W)) → cut l.window e ≡ x → Obeys l (split 𝓦 code (by-join 𝓦 code) n l r d a x)
      by-cut none h = tt
      by-cut (some p) h = at-depth (ltb n 31) p h

  -- a 0E gives up rights until the join
  share-lawful : (l : ThreadState W) (x : ℕ) → Proper l → Obeys l (share-act 𝓦 code l (share l.window x))
  share-lawful l x o = go (share l.window x) refl
    where
      go : (r : Option W) → share l.window x ≡ r → Obeys l (share-act 𝓦 code l r)
      go none h = tt
      go (some w) h = let f = share-law l.window x w o.0 h in
          record { valid = (f.fit, o.1); still-pending = λ k p. p; shrinks = f.less; same_whole = f.same }

  return-lawful : (l : ThreadState W) → Proper l → ((k : ℕ) → k < 16 → l.pending k ≡ false) → (k : ℕ) → l.pending k ≡ false
  return-lawful l o h k = go (dec_lt k 16)
    where
      go : Dec (k < 16) → l.pending k ≡ false
      go (yes x) = h k x
      go (no x) = o.1 k (omega arith)

  pub lawful-act : (n : ℕ) (l : ThreadState W) (e : Effect) → Proper l → Facts code.arguments (view 𝓦 tests l) e
      → Obeys l (act_of 𝓦 code (by-join 𝓦 code) n l e)
  unfolding act_of
  lawful-act n l (Faults x) o f = tt
  lawful-act n l (Sets d v) o f = keeps l _ o refl refl
  lawful-act n l (Loads d a) o f = load-lawful l d a o f.1
  lawful-act n l (Stores a v) o f = (tests.store-allowed l.window a f, keeps l _ o refl refl)
  lawful-act n l (Goes t) o f = keeps l _ o refl refl
  lawful-act n l Continues o f = keeps l _ o refl refl
  lawful-act n l (Lforks r d a e) o f = fork-lawful n l r d a e o f
  lawful-act n l (Forks r d a e) o f = fork-lawful n l r d a e o f
  lawful-act n l Joins o f = λ v. (λ a. rejoin-same l.window a o.0, rejoin-own l.window o.0, (rejoin-fit l.window o.0, λ k h. refl))
  lawful-act n l Suspends o f = keeps l _ o refl refl
  lawful-act n l Yields o f = keeps l _ o refl refl
  lawful-act n l (Returns v) o f = return-lawful l o f
  lawful-act n l (Shares x) o f = share-lawful l x o

  -- what has been tested where a thread's command has its effect
  pub effect-facts : (l : ThreadState W) → Facts code.arguments (view 𝓦 tests l) (effect 𝓦 tests code l)
  effect-facts l = (guarded code.arguments (view 𝓦 tests l) (command code l) (code.in-range l.routine l.position)).facts

  abbrev pub threads : Language
  threads = record {
    Local = ThreadState W;
    act = λ n l. act_of 𝓦 code (by-join 𝓦 code) n l (effect 𝓦 tests code l);
    cost = λ l. code.weight l.routine l.position;
    pending = pending-slots;
    window = rights;
    whole = whole-rights;
    Valid = Proper;
    lawful = λ n l o. lawful-act n l (effect 𝓦 tests code l) o (effect-facts l);
  }
