-- The serial run as it is carried out: a child's value goes into the parent's slot, which stays pending until the join. It gives
-- what the serial run of the tree's language gives (`agree`), so what is shown of that one holds of this one.
use mathlib.Core.Path.{◌∙◌, ◌≡◌, ap, refl, subst, sym}
use mathlib.Core.Logic.{ite}
use mathlib.Core.Bool.{Bool, cond, false, true}
use Prim.Native.Nat.{◌+◌, suc, zero, ℕ}
use native.Mathlib.Decide.{ℕ_discrete}
use native.Mathlib.Omega.{arith}
use lib.Dec.{leb}
use Rattle.forkjoin.proofs.Update.{update}
use Rattle.forkjoin.proofs.Language.{Act, Language, advance, fork, halt, join, load, ret, store}
use Rattle.forkjoin.proofs.SerialRun.{Outcome, and-then, done, out-of-fuel, serial-act, serial-call, stopped, zeros}
use Rattle.forkjoin.proofs.Carried.{Carried, SameAct, advances, forks, halts, joins, loads, returns, stores}

module _ (𝓛 : Language) (𝓒 : Carried 𝓛) (allowance : ℕ) where
  open 𝓛 use {Local, cost, pending}
  open 𝓒 use {Concrete, abstraction, held, deliver, does, same, deliver-abstraction, deliver-held, deliver-other}

  -- an open routine: its depth, its state; words and units so far
  abbrev pub DeliveredCall : Type 0
  DeliveredCall = ℕ → Concrete → (ℕ → ℕ) → ℕ → Outcome

  unfoldable pub delivered-act : DeliveredCall → ℕ → Act Concrete → (ℕ → ℕ) → ℕ → ℕ → Outcome
  delivered-act rec n (halt x) m u w = stopped x m u
  delivered-act rec n (advance q) m u w = rec n q m (u + w)
  delivered-act rec n (load a f) m u w = rec n (f (m a)) m (u + w)
  delivered-act rec n (store a v q) m u w = rec n q (update m a v) (u + w)
  delivered-act rec n (fork d c q) m u w = and-then (rec (suc n) c m (u + w)) (λ v m' u'. rec n (deliver q d v) m' u')
  delivered-act rec n (join f) m u w = rec n (f zeros) m (u + w)
  delivered-act rec n (ret v) m u w = done v m (u + w)

  unfoldable pub delivered-call : ℕ → DeliveredCall
  delivered-call zero n r m u = out-of-fuel
  delivered-call (suc f) n r m u =
      let next = delivered-act (λ n r m u. delivered-call f n r m u) n (does n r) m u (cost (abstraction r)) in
      cond (leb (u + cost (abstraction r)) allowance) next (stopped 22 m u)

  -- the serial run from an open routine of depth n
  unfoldable pub delivered-from : DeliveredCall
  delivered-from n r m u = delivered-call (suc allowance) n r m u

  -- the values of ended children are those that the pending slots hold
  abbrev pub Holding : Concrete → (ℕ → ℕ) → Type 0
  Holding r vs = (k : ℕ) → pending (abstraction r) k ≡ true → vs k ≡ held r k

  -- with fuel f the two runs agree
  unfoldable pub Agree : ℕ → Type 0
  Agree f = (n : ℕ) (r : Concrete) (vs m : ℕ → ℕ) (u : ℕ) → Holding r vs
      → delivered-call f n r m u ≡ serial-call 𝓛 allowance f n (abstraction r) vs m u

  and-then-cong : (o : Outcome) (F G : ℕ → (ℕ → ℕ) → ℕ → Outcome) → ((v : ℕ) (m : ℕ → ℕ) (u : ℕ) → F v m u ≡ G v m u) → and-then o F ≡ and-then o G
  and-then-cong (done v m u) F G h = h v m u
  and-then-cong (stopped x m u) F G h = refl
  and-then-cong out-of-fuel F G h = refl

  never_true : (b : Bool) → b ≡ false → b ≡ true → ⊥
  never_true b p q = let z : ◌≡◌ {A = ℕ} 0 1 = cc in omega arith

  act-agrees : (f : ℕ) → Agree f → (n : ℕ) (r : Concrete) (vs m : ℕ → ℕ) (u w : ℕ) → Holding r vs → {a : Act Concrete} {b : Act Local}
      → SameAct 𝓛 Concrete abstraction held r a b
      → delivered-act (λ n r m u. delivered-call f n r m u) n a m u w ≡ serial-act 𝓛 allowance
      (λ n l vs m u. serial-call 𝓛 allowance f n l vs m u) n b vs m u w
  unfolding delivered-act serial-act Agree
  act-agrees f ih n r vs m u w h halts = refl
  act-agrees f ih n r vs m u w h (advances {q = q} x) = ih n q vs m (u + w) (λ k p. h k (x k p).0 ∙ sym (x k p).1)
  act-agrees f ih n r vs m u w h (loads {a = a} {f = l} x) = ih n (l (m a)) vs m (u + w) (λ k p. h k (x (m a) k p).0 ∙ sym (x (m a) k p).1)
  act-agrees f ih n r vs m u w h (stores {a = a} {v = v} {q = q} x) = ih n q vs (update m a v) (u + w) (λ k p. h k (x k p).0 ∙ sym (x k p).1)
  act-agrees f ih n r vs m u w h (forks {d = d} {c = c} {q = q} x y z) =
      ap (λ o. and-then o (λ v m' u'. delivered-call f n (deliver q d v) m' u')) (ih (suc n) c zeros m (u + w) (λ k p. absurd (never_true _ (y k) p)))
      ∙ and-then-cong (serial-call 𝓛 allowance f (suc n) (abstraction c) zeros m (u + w)) _ _ (λ v m' u'.
      ih n (deliver q d v) (update vs d v) m' u' (λ k p. holding v k (subst (λ z. pending z k ≡ true) (same-abs v) p) (ℕ_discrete k d))
      ∙ ap (λ z. serial-call 𝓛 allowance f n z (update vs d v) m' u') (same-abs v))
    where
      same-abs : (v : ℕ) → abstraction (deliver q d v) ≡ abstraction q
      same-abs v = deliver-abstraction q d v z

      holding : (v k : ℕ) → pending (abstraction q) k ≡ true → (o : Dec (k ≡ d)) → ite o v (vs k) ≡ held (deliver q d v) k
      holding v k p (yes e) = sym (deliver-held q d v z) ∙ ap (held (deliver q d v)) (sym e)
      holding v k p (no e) = h k (x k e p).0 ∙ sym (x k e p).1 ∙ sym (deliver-other q d v k e)
  act-agrees f ih n r vs m u w h (joins {q = q} {f = l} x y) =
      ih n q zeros m (u + w) (λ k p. absurd (never_true _ (x k) p)) ∙ ap (λ z. serial-call 𝓛 allowance f n z zeros m (u + w)) (sym (y vs h))
  act-agrees f ih n r vs m u w h returns = refl

  pub agree : (f : ℕ) → Agree f
  unfolding delivered-call serial-call Agree
  agree zero n r vs m u h = refl
  agree (suc f) n r vs m u h =
      ap (λ z. cond (leb (u + cost (abstraction r)) allowance) z (stopped 22 m u))
      (act-agrees f (λ n r vs m u h. agree f n r vs m u h) n r vs m u (cost (abstraction r)) h (same n r))
