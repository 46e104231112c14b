-- The serial run's own equation, with no fuel to count (`unroll`): more fuel than enough changes nothing. The loop and the calls of code
-- that carries the run out meet this equation.
use mathlib.Core.Path.{◌∙◌, ◌≡◌, ap, refl, subst, sym}
use mathlib.Core.Bool.{Bool, cond}
use Prim.Native.Nat.{◌+◌, ◌<◌, ◌≤◌, suc, zero, ℕ}
use native.Mathlib.Omega.{arith}
use lib.Dec.{leb}
use Rattle.forkjoin.proofs.Update.{update}
use Rattle.forkjoin.proofs.Compare.{Compared, at_most, compared, past}
use Rattle.forkjoin.proofs.Language.{Act, Language, advance, fork, halt, join, load, ret, store}
use Rattle.forkjoin.proofs.SerialRun.{Outcome, and-then, done, out-of-fuel, stopped, zeros}
use Rattle.forkjoin.proofs.SerialFuel.{Enough, Plenty, enough}
use Rattle.forkjoin.proofs.Carried.{Carried}
use Rattle.forkjoin.proofs.DeliveredRun.{Agree, agree, delivered-act, delivered-call, delivered-from}

module _ (𝓛 : Language) (𝓒 : Carried 𝓛) (allowance : ℕ) where
  open 𝓛 use {Local, cost}
  open 𝓒 use {Concrete, abstraction, held, deliver, does}

  module _ (costs : (l : Local) → 1 ≤ cost l) where
    delivered-enough : (f n : ℕ) (r : Concrete) (m : ℕ → ℕ) (u : ℕ) → 1 ≤ f → allowance < u + f → Enough (delivered-call 𝓛 𝓒 allowance f n r m u) u
    unfolding Plenty Agree
    delivered-enough f n r m u h k =
        subst (λ o. Enough o u) (sym (agree 𝓛 𝓒 allowance f n r (held r) m u (λ k p. refl)))
        (enough 𝓛 allowance costs f n (abstraction r) (held r) m u h k)

    -- more fuel than enough changes nothing
    Stable : ℕ → Type 0
    Stable f = (n : ℕ) (r : Concrete) (m : ℕ → ℕ) (u : ℕ) → 1 ≤ f → allowance < u + f
        → delivered-call 𝓛 𝓒 allowance f n r m u ≡ (delivered-call 𝓛 𝓒 allowance) (suc f) n r m u

    stable-act : (f : ℕ) → Stable f → (n : ℕ) (a : Act Concrete) (m : ℕ → ℕ) (u w : ℕ) → 1 ≤ w → u + w ≤ allowance → allowance < u + suc f
        → delivered-act 𝓛 𝓒 allowance (λ n r m u. delivered-call 𝓛 𝓒 allowance f n r m u) n a m u w ≡ (delivered-act 𝓛 𝓒 allowance)
        (λ n r m u. delivered-call 𝓛 𝓒 allowance (suc f) n r m u) n a m u w
    unfolding delivered-act Stable
    stable-act f ih n (halt x) m u w c h k = refl
    stable-act f ih n (advance q) m u w c h k = ih n q m (u + w) (omega arith) (omega arith)
    stable-act f ih n (load a g) m u w c h k = ih n (g (m a)) m (u + w) (omega arith) (omega arith)
    stable-act f ih n (store a v q) m u w c h k = ih n q (update m a v) (u + w) (omega arith) (omega arith)
    stable-act f ih n (fork d b q) m u w c h k =
        go (delivered-call 𝓛 𝓒 allowance f (suc n) b m (u + w)) (delivered-enough f (suc n) b m (u + w) (omega arith) (omega arith))
        ∙ ap (λ o. and-then o (λ v m' u'. delivered-call 𝓛 𝓒 allowance (suc f) n (deliver q d v) m' u'))
        (ih (suc n) b m (u + w) (omega arith) (omega arith))
      where
        go : (o : Outcome) → Enough o (u + w)
            → and-then o (λ v m' u'. delivered-call 𝓛 𝓒 allowance f n (deliver q d v) m' u') ≡ and-then o
            (λ v m' u'. delivered-call 𝓛 𝓒 allowance (suc f) n (deliver q d v) m' u')
        go (done v m' u') e = ih n (deliver q d v) m' u' (omega arith) (omega arith)
        go (stopped x m' u') e = refl
        go out-of-fuel e = refl
    stable-act f ih n (join g) m u w c h k = ih n (g zeros) m (u + w) (omega arith) (omega arith)
    stable-act f ih n (ret v) m u w c h k = refl

    by-test : (f : ℕ) → Stable f → (n : ℕ) (r : Concrete) (m : ℕ → ℕ) (u : ℕ) → allowance < u + suc f
        → {o : Bool} → Compared (u + cost (abstraction r)) allowance o
        → cond o (delivered-act 𝓛 𝓒 allowance (λ n r m u. delivered-call 𝓛 𝓒 allowance f n r m u) n (does n r) m u (cost (abstraction r)))
        (stopped 22 m u)
        ≡ cond o (delivered-act 𝓛 𝓒 allowance (λ n r m u. delivered-call 𝓛 𝓒 allowance (suc f) n r m u) n (does n r) m u (cost (abstraction r)))
        (stopped 22 m u)
    by-test f ih n r m u h (at_most k) = stable-act f ih n (does n r) m u (cost (abstraction r)) (costs (abstraction r)) k h
    by-test f ih n r m u h (past _) = refl

    stable : (f : ℕ) → Stable f
    unfolding delivered-call Stable
    stable zero n r m u h k = absurd (omega arith)
    stable (suc f) n r m u h k = by-test f (λ n r m u h k. stable f n r m u h k) n r m u k (compared (u + cost (abstraction r)) allowance)

    stable-first : (n : ℕ) (r : Concrete) (m : ℕ → ℕ) (u : ℕ) → {o : Bool} → Compared (u + cost (abstraction r)) allowance o
        → cond o (delivered-act 𝓛 𝓒 allowance (λ n r m u. delivered-call 𝓛 𝓒 allowance allowance n r m u) n (does n r) m u (cost (abstraction r)))
        (stopped 22 m u)
        ≡ cond o (delivered-act 𝓛 𝓒 allowance (λ n r m u. delivered-call 𝓛 𝓒 allowance (suc allowance) n r m u) n (does n r) m u
        (cost (abstraction r))) (stopped 22 m u)
    stable-first n r m u o = by-test allowance (stable allowance) n r m u (omega arith) o

    pub unroll : (n : ℕ) (r : Concrete) (m : ℕ → ℕ) (u : ℕ)
        → delivered-from 𝓛 𝓒 allowance n r m u ≡ cond (leb (u + cost (abstraction r)) allowance)
        (delivered-act 𝓛 𝓒 allowance (delivered-from 𝓛 𝓒 allowance) n (does n r) m u (cost (abstraction r))) (stopped 22 m u)
    unfolding delivered-from delivered-call
    unroll n r m u = stable-first n r m u (compared (u + cost (abstraction r)) allowance)

    -- its fuel does not run out, and units do not fall
    pub delivered-from-enough : (n : ℕ) (r : Concrete) (m : ℕ → ℕ) (u : ℕ) → Enough (delivered-from 𝓛 𝓒 allowance n r m u) u
    unfolding delivered-from
    delivered-from-enough n r m u = delivered-enough (suc allowance) n r m u (omega arith) (omega arith)
