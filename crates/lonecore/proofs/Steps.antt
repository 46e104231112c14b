-- The steps of a lone core, one after the other: each is accepted, and the machine finishes with the last command. Assumes one core, an image
-- without 09, 0B and 0C, and a run of the tree begun k levels down, at least 16, that finishes within the allowance.
use mathlib.Core.List.{List}
use mathlib.Core.Path.{◌≡◌, ◌∙◌, ap, subst}
use Prim.Native.Nat.{ℕ, zero, suc, ◌+◌, ◌-◌, ◌*◌, ◌≤◌, ◌<◌}
use native.Mathlib.Omega.{arith}
use lib.ListN.{replicate}
use Rattle.schedule.specs.declared.Entry.TheVariants.{Step}
use Rattle.rules.specs.State.{Job, State, finished}
use Rattle.rules.specs.Rules.{entry_of}
use Rattle.rules.specs.Runs.{run_from}
use Rattle.rules.specs.Sound.{GoodJob}
use Rattle.soundness.proofs.KeepSized.{keep-count}
use Rattle.lonecore.specs.LforksOnly.{LforksOnly}
use Rattle.lonecore.proofs.Followed.{Ending, commands-most}
use Rattle.lonecore.proofs.Chain.{Alone, onward, core-steps}
use Rattle.lonecore.proofs.Standing.{Stands, step-taken, Goes, stays, further, over, goes}

module _ (j : Job) (good : GoodJob j) (arguments memory : List ℕ) (k : ℕ) (low : k ≤ 31) (half : 16 ≤ k) (only : LforksOnly j.image)
    (E : Ending j good arguments memory k low) (enough : E.end.units ≤ j.allowance) where
  -- an open state of a lone core, after n commands
  pub record Lone (n : ℕ) (s : State) : Type 0 where
    pub stands : Stands j good arguments memory k low only E enough n s
    pub one : s.count ≡ 1
    pub alone : Alone s

  pub accepted : (n : ℕ) (s : State) → Lone n s → (entry_of j s (Step 0)).log ≡ 0
  unfolding entry_of
  accepted n s h =
      let many = ap (λ c. c * (32 - k - 1)) h.one in
      step-taken j good arguments memory k low only E enough n s h.stands (omega arith) 0 (let z = h.one in omega arith) h.alone.busy

  -- what a step leads to
  pub data Steps (n : ℕ) (s s' : State) : Type 0 where
    next : Lone (suc n) s' → Steps n s s'
    last : (v : ℕ) → s'.outcome ≡ finished v → suc n ≡ E.count → Steps n s s'

  pub steps : (n : ℕ) (s : State) → Lone n s → Steps n s (entry_of j s (Step 0)).state
  unfolding entry_of
  steps n s h = by (subst (λ e. (entry_of j s e).log ≡ 0 → Goes j good arguments memory k low only E enough n s (entry_of j s e).state)
      (core-steps j s h.alone) (goes j good arguments memory k low only E enough n s h.stands 0) (accepted n s h))
    where
      by : Goes j good arguments memory k low only E enough n s (entry_of j s (Step 0)).state → Steps n s (entry_of j s (Step 0)).state
      by (stays f u) = let z = (onward j s h.stands.sound only h.one h.alone 0).1 (accepted n s h) in absurd (omega arith)
      by (further f) = next (record {
        stands = f;
        one = keep-count j s h.stands.sound (Step 0) ∙ h.one;
        alone = (onward j s h.stands.sound only h.one h.alone 0).0 f.ongoing;
      })
      by (over v o e) = last v o e

  -- an open state has a command left
  pub left : (n : ℕ) (s : State) → Lone n s → suc n ≤ E.count
  left n s h = by (steps n s h)
    where
      by : Steps n s (entry_of j s (Step 0)).state → suc n ≤ E.count
      by (next f) = commands-most j good arguments memory k low (entry_of j s (Step 0)).state f.stands.sound (suc n) f.stands.followed E
      by (last v o e) = omega arith

  -- each state before the last command is so
  pub each : (m n : ℕ) (s : State) → Lone n s → n + m < E.count → Lone (n + m) (run_from j s (replicate m (Step 0)))
  unfolding run_from
  each zero n s h l = subst (λ z. Lone z s) (omega arith) h
  each (suc m) n s h l = by (steps n s h) (λ h'. each m (suc n) (entry_of j s (Step 0)).state h' (omega arith))
    where
      by : Steps n s (entry_of j s (Step 0)).state → (Lone (suc n) (entry_of j s (Step 0)).state
          → Lone (suc n + m) (run_from j (entry_of j s (Step 0)).state (replicate m (Step 0))))
          → Lone (n + suc m) (run_from j (entry_of j s (Step 0)).state (replicate m (Step 0)))
      by (next f) rest = subst (λ z. Lone z (run_from j (entry_of j s (Step 0)).state (replicate m (Step 0)))) (omega arith) (rest f)
      by (last v o e) rest = absurd (omega arith)
