-- Pending slots of a mask as the theory's function of slots: the mask 0 has none, and a fork adds its slot and nothing else. Assumes nothing.
use mathlib.Core.Bool.{true}
use mathlib.Core.Logic.{ite}
use mathlib.Core.Path.{◌≡◌, ◌∙◌, ap, fun_ext}
use Prim.Native.Nat.{ℕ}
use native.Mathlib.Decide.{ℕ_discrete}
use Rattle.forkjoin.proofs.Update.{update}
use Rattle.thread.specs.Thread.{is_pending, with_pending}
use Rattle.thread.proofs.ThreadState.{nothing-pending}
use Rattle.soundness.proofs.Pending.{nothing-pending as none_of, pending-set, pending-else}

pub none-pending : is_pending 0 ≡ nothing-pending
none-pending = fun_ext {f = is_pending 0} {g = nothing-pending} none_of

pub more-pending : (mask d : ℕ) → is_pending (with_pending mask d) ≡ update (is_pending mask) d true
more-pending mask d = fun_ext {f = is_pending (with_pending mask d)} {g = update (is_pending mask) d true} (λ k. go k (ℕ_discrete k d))
  where
    go : (k : ℕ) (o : Dec (k ≡ d)) → is_pending (with_pending mask d) k ≡ ite o true (is_pending mask k)
    go k (yes e) = ap (is_pending (with_pending mask d)) e ∙ pending-set mask d
    go k (no n) = pending-else mask d k n
