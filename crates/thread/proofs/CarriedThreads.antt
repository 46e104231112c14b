-- Document 01's threads as a machine carries them out, with a child's value delivered into the pending slot, do what the threads of
-- the language `threads` do: an effect does not depend on what pending slots hold.
use mathlib.Core.Path.{◌≡◌, refl, sym, ◌∙◌, ap, subst, subst₂, fun_ext}
use mathlib.Core.Option.{Option, none, some}
use mathlib.Core.Logic.{ite}
use mathlib.Core.Bool.{Bool, true, false, cond, true≢false}
use Prim.Native.Nat.{ℕ, ◌+◌}
use native.Mathlib.Decide.{ℕ_discrete}
use lib.Dec.{ltb}
use borrow.Author.Tests.{ltb-true}
use Rattle.forkjoin.proofs.Update.{update, update_same, update_other}
use Rattle.forkjoin.proofs.Language.{Act, halt, advance, load, fork}
use Rattle.forkjoin.proofs.Windows.{Windows}
use Rattle.forkjoin.proofs.Carried.{Carried, SameAct, halts, advances, loads, stores, forks, joins, returns, KeepsHeld}
use Rattle.thread.specs.declared.Effect.{Effect}
use Rattle.thread.specs.declared.Effect.TheVariants.{Faults, Sets, Loads, Stores, Goes, Continues, Lforks, Forks, Joins, Suspends, Yields, Returns, Shares}
use Rattle.thread.proofs.Routines.{Code}
use Rattle.thread.proofs.EffectFacts.{Facts, ForkFacts, effect-hidden}
use Rattle.thread.proofs.ThreadState.{WindowTests, ThreadState, view, command, effect, onward, started, behind-fork, behind-join, by-join, by-return, split, fork-act, load-act, share-act, act_of, deliver}
use Rattle.thread.proofs.LawfulThreads.{threads, effect-facts}

module _ (𝓦 : Windows) (tests : WindowTests 𝓦) (code : Code) where
  open 𝓦 use {W, cut, share}

  abbrev with-slots : ThreadState W → (ℕ → ℕ) → ThreadState W
  with-slots l f = record { routine = l.routine; position = l.position; slots = f; pending = l.pending; window = l.window }

  -- a pending slot does not show what it holds
  abbrev pub hide : ThreadState W → ThreadState W
  hide l = record {
    routine = l.routine;
    position = l.position;
    slots = λ k. cond (l.pending k) 0 (l.slots k);
    pending = l.pending;
    window = l.window;
  }

  abbrev pub held : ThreadState W → ℕ → ℕ
  held l k = l.slots k

  abbrev Alike : ThreadState W → Act (ThreadState W) → Act (ThreadState W) → Type 0
  Alike l a b = SameAct (threads 𝓦 tests code) (ThreadState W) hide held l a b

  not-both : (b : Bool) → b ≡ false → b ≡ true → ⊥
  not-both b p q = true≢false (sym q ∙ p)

  -- a slot that is not pending is set
  hide-set : (l : ThreadState W) (d v : ℕ) → l.pending d ≡ false
      → hide (onward code l (update l.slots d v)) ≡ onward code (hide l) (update (hide l).slots d v)
  hide-set l d v h = ap (λ f. onward code l f) (fun_ext (λ k. go k (ℕ_discrete k d)))
    where
      go : (k : ℕ) (o : Dec (k ≡ d)) → cond (l.pending k) 0 (ite o v (l.slots k)) ≡ ite o v (cond (l.pending k) 0 (l.slots k))
      go k (yes e) = ap (λ z. cond z 0 v) (ap l.pending e ∙ h)
      go k (no _) = refl

  held-set : (l : ThreadState W) (d v : ℕ) → l.pending d ≡ false
      → KeepsHeld (threads 𝓦 tests code) (ThreadState W) hide held l (onward code l (update l.slots d v))
  held-set l d v h k p = (p, update_other l.slots d v k (λ e. not-both _ (ap l.pending e ∙ h) p))

  set-alike : (l : ThreadState W) (d v : ℕ) → l.pending d ≡ false
      → Alike l (advance (onward code l (update l.slots d v))) (advance (onward code (hide l) (update (hide l).slots d v)))
  set-alike l d v h = subst (λ z. Alike l (advance (onward code l (update l.slots d v))) (advance z)) (hide-set l d v h)
      (advances (held-set l d v h))

  load-alike : (l : ThreadState W) (d a : ℕ) → l.pending d ≡ false → Alike l (load-act code l d a) (load-act code (hide l) d a)
  load-alike l d a h = go (ltb a 32)
    where
      go : (t : Bool) → Alike l
          (cond t (advance (onward code l (update l.slots d (code.params a)))) (load a (λ v. onward code l (update l.slots d v))))
          (cond t (advance (onward code (hide l) (update (hide l).slots d (code.params a))))
          (load a (λ v. onward code (hide l) (update (hide l).slots d v))))
      go true = set-alike l d (code.params a) h
      go false = subst (λ z. Alike l (load a (λ v. onward code l (update l.slots d v))) (load a z)) (fun_ext (λ v. hide-set l d v h))
          (loads (λ v. held-set l d v h))

  split-alike : (l : ThreadState W) (r d a e : ℕ) → ForkFacts code.arguments (view 𝓦 tests l) r d a e → (p : W × W)
      → Alike l (fork d (started code r l.slots a p.0) (behind-fork code l l.slots d p.1))
      (fork d (started code r (hide l).slots a p.0) (behind-fork code (hide l) (update (hide l).slots d 0) d p.1))
  split-alike l r d a e f p = subst₂ (λ x y. Alike l (fork d child parent) (fork d x y)) same-child same-parent
      (forks others (λ k. refl) (update_same l.pending d true))
    where
      child : ThreadState W
      child = started code r l.slots a p.0

      parent : ThreadState W
      parent = behind-fork code l l.slots d p.1

      argument : (k : ℕ) (t : Bool) → ltb k (code.arguments r) ≡ t
          → cond t (l.slots (a + k)) 0 ≡ cond t (cond (l.pending (a + k)) 0 (l.slots (a + k))) 0
      argument k true e = sym (ap (λ z. cond z 0 (l.slots (a + k))) (f.clear k (ltb-true k (code.arguments r) e)))
      argument k false e = refl

      same-child : hide child ≡ started code r (hide l).slots a p.0
      same-child = ap (λ g. with-slots child g) (fun_ext (λ k. argument k (ltb k (code.arguments r)) refl))

      slot : (k : ℕ) (o : Dec (k ≡ d)) → cond (ite o true (l.pending k)) 0 (l.slots k) ≡ ite o 0 (cond (l.pending k) 0 (l.slots k))
      slot k (yes _) = refl
      slot k (no _) = refl

      same-parent : hide parent ≡ behind-fork code (hide l) (update (hide l).slots d 0) d p.1
      same-parent = ap (λ g. behind-fork code l g d p.1) (fun_ext (λ k. slot k (ℕ_discrete k d)))

      others : (k : ℕ) → ¬ (k ≡ d) → update l.pending d true k ≡ true → (l.pending k ≡ true) × (l.slots k ≡ l.slots k)
      others k n h = (sym (update_other l.pending d true k n) ∙ h, refl)

  fork-alike : (n : ℕ) (l : ThreadState W) (r d a e : ℕ) → ForkFacts code.arguments (view 𝓦 tests l) r d a e
      → Alike l (fork-act 𝓦 code (by-return 𝓦 code) n l r d a e) (fork-act 𝓦 code (by-join 𝓦 code) n (hide l) r d a e)
  fork-alike n l r d a e f = by-cut (cut l.window e)
    where
      at-depth : (t : Bool) (p : W × W)
          → Alike l (cond t (fork d (started code r l.slots a p.0) (behind-fork code l l.slots d p.1)) (halt 26))
          (cond t (fork d (started code r (hide l).slots a p.0) (behind-fork code (hide l) (update (hide l).slots d 0) d p.1)) (halt 26))
      at-depth true p = split-alike l r d a e f p
      at-depth false p = halts

      by-cut : (x : Option (W × W)) → Alike l (split 𝓦 code (by-return 𝓦 code) n l r d a x) (split 𝓦 code (by-join 𝓦 code) n (hide l) r d a x)
      by-cut none = halts
      by-cut (some p) = at-depth (ltb n 31) p

  join-alike : (l : ThreadState W) → Alike l ((by-return 𝓦 code).join-act l) ((by-join 𝓦 code).join-act (hide l))
  join-alike l = joins (λ k. refl) (λ vs h. ap (λ f. behind-join 𝓦 code l f) (fun_ext (λ k. go vs h k (l.pending k) refl)))
    where
      go : (vs : ℕ → ℕ) → ((k : ℕ) → l.pending k ≡ true → vs k ≡ l.slots k) → (k : ℕ) (b : Bool) → l.pending k ≡ b
          → cond b (vs k) (cond b 0 (l.slots k)) ≡ l.slots k
      go vs h k true e = h k e
      go vs h k false e = refl

  share-alike : (l : ThreadState W) (r : Option W) → Alike l (share-act 𝓦 code l r) (share-act 𝓦 code (hide l) r)
  share-alike l none = halts
  share-alike l (some w) = advances (λ k p. (p, refl))

  act-alike : (n : ℕ) (l : ThreadState W) (e : Effect) → Facts code.arguments (view 𝓦 tests l) e
      → Alike l (act_of 𝓦 code (by-return 𝓦 code) n l e) (act_of 𝓦 code (by-join 𝓦 code) n (hide l) e)
  unfolding act_of
  act-alike n l (Faults x) f = halts
  act-alike n l (Sets d v) f = set-alike l d v f
  act-alike n l (Loads d a) f = load-alike l d a f.0
  act-alike n l (Stores a v) f = stores (λ k p. (p, refl))
  act-alike n l (Goes t) f = advances (λ k p. (p, refl))
  act-alike n l Continues f = advances (λ k p. (p, refl))
  act-alike n l (Lforks r d a e) f = fork-alike n l r d a e f
  act-alike n l (Forks r d a e) f = fork-alike n l r d a e f
  act-alike n l Joins f = join-alike l
  act-alike n l Suspends f = advances (λ k p. (p, refl))
  act-alike n l Yields f = advances (λ k p. (p, refl))
  act-alike n l (Returns v) f = returns
  act-alike n l (Shares x) f = share-alike l (share l.window x)

  -- a machine's act
  abbrev pub does : ℕ → ThreadState W → Act (ThreadState W)
  does n l = act_of 𝓦 code (by-return 𝓦 code) n l (effect 𝓦 tests code l)

  pub alike : (n : ℕ) (l : ThreadState W) → Alike l (does n l) (act_of 𝓦 code (by-join 𝓦 code) n (hide l) (effect 𝓦 tests code (hide l)))
  alike n l = subst (λ e. Alike l (does n l) (act_of 𝓦 code (by-join 𝓦 code) n (hide l) e))
      (effect-hidden code.arguments (view 𝓦 tests l) (command code l) (code.in-range l.routine l.position))
      (act-alike n l (effect 𝓦 tests code l) (effect-facts 𝓦 tests code l))

  -- delivering a value into a pending slot does not show
  pub deliver-hidden : (l : ThreadState W) (d v : ℕ) → l.pending d ≡ true → hide (deliver l d v) ≡ hide l
  deliver-hidden l d v h = ap (λ f. with-slots l f) (fun_ext (λ k. go k (ℕ_discrete k d)))
    where
      go : (k : ℕ) (o : Dec (k ≡ d)) → cond (l.pending k) 0 (ite o v (l.slots k)) ≡ cond (l.pending k) 0 (l.slots k)
      go k (yes e) = let z : l.pending k ≡ true = ap l.pending e ∙ h in ap (λ b. cond b 0 v) z ∙ sym (ap (λ b. cond b 0 (l.slots k)) z)
      go k (no _) = refl

  abbrev pub carried-threads : Carried (threads 𝓦 tests code)
  carried-threads = record {
    Concrete = ThreadState W;
    abstraction = hide;
    held = held;
    deliver = deliver;
    does = does;
    same = alike;
    deliver-abstraction = deliver-hidden;
    deliver-held = λ l d v h. update_same l.slots d v;
    deliver-other = λ l d v k n. update_other l.slots d v k n;
  }
