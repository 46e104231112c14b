-- The serial run's fuel: one more than the allowance is enough, since every command costs something. So the serial run returns or stops
-- by a number, and `agrees` has only these two to look at.
use mathlib.Core.Bool.{Bool, cond}
use Prim.Native.Nat.{◌+◌, ◌<◌, ◌≤◌, suc, zero, ℕ}
use native.Mathlib.Omega.{arith}
use Rattle.forkjoin.proofs.Update.{update}
use Rattle.forkjoin.proofs.Compare.{Compared, at_most, compared, past}
use Rattle.forkjoin.proofs.Language.{Act, Language, advance, fork, halt, join, load, ret, store}
use Rattle.forkjoin.proofs.SerialRun.{Outcome, and-then, done, out-of-fuel, serial-act, serial-call, serial-run, stopped, zeros}

-- the fuel was enough, and a returned outcome has at least k units
abbrev pub Enough : Outcome → ℕ → Type 0
Enough (done v m u) k = k ≤ u
Enough (stopped x m u) k = Unit {0}
Enough out-of-fuel k = ⊥

weaker : (o : Outcome) (j k : ℕ) → j ≤ k → Enough o k → Enough o j
weaker (done v m u) j k h e = omega arith
weaker (stopped x m u) j k h e = tt
weaker out-of-fuel j k h e = e

module _ (𝓛 : Language) (allowance : ℕ) where
  open 𝓛 use {Local, act, cost}

  module _ (costs : (l : Local) → 1 ≤ cost l) where
    unfoldable pub Plenty : ℕ → Type 0
    Plenty f = (n : ℕ) (l : Local) (vs m : ℕ → ℕ) (u : ℕ) → 1 ≤ f → allowance < u + f → Enough (serial-call 𝓛 allowance f n l vs m u) u

    enough-act : (f : ℕ) → Plenty f → (n : ℕ) (a : Act Local) (vs m : ℕ → ℕ) (u w : ℕ) → 1 ≤ w → u + w ≤ allowance → allowance < u + suc f
        → Enough (serial-act 𝓛 allowance (λ n l vs m u. serial-call 𝓛 allowance f n l vs m u) n a vs m u w) u
    unfolding serial-act Plenty
    enough-act f ih n (halt x) vs m u w c h k = tt
    enough-act f ih n (advance l) vs m u w c h k =
        weaker (serial-call 𝓛 allowance f n l vs m (u + w)) u (u + w) (omega arith) (ih n l vs m (u + w) (omega arith) (omega arith))
    enough-act f ih n (load a g) vs m u w c h k =
        weaker (serial-call 𝓛 allowance f n (g (m a)) vs m (u + w)) u (u + w) (omega arith) (ih n (g (m a)) vs m (u + w) (omega arith) (omega arith))
    enough-act f ih n (store a v l) vs m u w c h k =
        weaker (serial-call 𝓛 allowance f n l vs (update m a v) (u + w)) u (u + w) (omega arith)
        (ih n l vs (update m a v) (u + w) (omega arith) (omega arith))
    enough-act f ih n (fork d b l) vs m u w c h k = go (serial-call 𝓛 allowance f (suc n) b zeros m (u + w))
        (ih (suc n) b zeros m (u + w) (omega arith) (omega arith))
      where
        go : (o : Outcome) → Enough o (u + w) → Enough (and-then o (λ v m' u'. serial-call 𝓛 allowance f n l (update vs d v) m' u')) u
        go (done v m' u') e = weaker (serial-call 𝓛 allowance f n l (update vs d v) m' u') u u' (omega arith)
            (ih n l (update vs d v) m' u' (omega arith) (omega arith))
        go (stopped x m' u') e = tt
        go out-of-fuel e = e
    enough-act f ih n (join g) vs m u w c h k =
        weaker (serial-call 𝓛 allowance f n (g vs) zeros m (u + w)) u (u + w) (omega arith) (ih n (g vs) zeros m (u + w) (omega arith) (omega arith))
    enough-act f ih n (ret v) vs m u w c h k = omega arith

    pub enough : (f : ℕ) → Plenty f
    unfolding serial-call Plenty
    enough zero n l vs m u c h = absurd (omega arith)
    enough (suc f) n l vs m u c h = go (λ n l vs m u c h. enough f n l vs m u c h) (compared (u + cost l) allowance)
      where
        go : ((n : ℕ) (l : Local) (vs m : ℕ → ℕ) (u : ℕ) → 1 ≤ f → allowance < u + f → Enough (serial-call 𝓛 allowance f n l vs m u) u)
            → {o : Bool} → Compared (u + cost l) allowance o
            → Enough (cond o (serial-act 𝓛 allowance (λ n l vs m u. serial-call 𝓛 allowance f n l vs m u) n (act n l) vs m u (cost l))
            (stopped 22 m u)) u
        go ih (at_most k) = enough-act f ih n (act n l) vs m u (cost l) (costs l) k (omega arith)
        go ih (past k) = tt

    pub serial-run-enough : (l : Local) (m : ℕ → ℕ) → Enough (serial-run 𝓛 allowance l m) 0
    unfolding serial-run Plenty
    serial-run-enough l m = enough (suc allowance) 0 l zeros m 0 (omega arith) (omega arith)
