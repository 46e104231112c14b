-- Units: those of a run are the start's and the costs of the commands carried out (`units-are-costs`), so they only rise, and a
-- run that is not yet over has at most the units of a finished run from the same start, whoever stepped (`prefix-units`), also with the next
-- command of any thread (`live-units`).
use mathlib.Core.Path.{◌∙◌, ◌≡◌, ap, subst, sym}
use mathlib.Core.List.{List, [], ◌∷◌}
use Prim.Native.Nat.{◌+◌, ◌≤◌, ℕ}
use native.Mathlib.Omega.{arith}
use lib.ListN.{length}
use Rattle.forkjoin.proofs.Confluence.{Steps, ahead, stop, then}
use Rattle.forkjoin.proofs.TaskName.{TaskName}
use Rattle.forkjoin.proofs.Language.{Language}
use Rattle.forkjoin.proofs.TaskTree.{Finished, State, Step, live}
use Rattle.forkjoin.proofs.Invariant.{Invariant}
use Rattle.forkjoin.proofs.Independence.{leaves-thread}
use Rattle.forkjoin.proofs.Diamond.{finished-no-thread}
use Rattle.forkjoin.proofs.Preservation.{kept}
use Rattle.forkjoin.proofs.TreeConfluence.{laws}

-- the sum of a list of costs
abbrev pub total : List ℕ → ℕ
total [] = 0
total (c ∷ cs) = c + total cs

module _ (𝓛 : Language) where
  open 𝓛 use {Local, act, cost, lawful}

  -- the costs of a run's commands, first to last
  abbrev pub costs-of : {n : ℕ} {s t : State Local} → Steps (Step 𝓛) n s t → List ℕ
  costs-of stop = []
  costs-of (then m r) = cost m.who ∷ costs-of r

  pub step-units : (p : TaskName) (s t : State Local) (m : Step 𝓛 p s t) → t.units ≡ s.units + cost m.who
  step-units p s t m = ap (λ z. z.units) m.result

  pub units-are-costs : {n : ℕ} {s t : State Local} (r : Steps (Step 𝓛) n s t) → t.units ≡ s.units + total (costs-of r)
  units-are-costs stop = omega arith
  units-are-costs (then {p = p} {s = s} {t = t} m r) =
      let a = units-are-costs r in
      let b = step-units p s t m in
      omega arith

  pub units-rise : {n : ℕ} {s t : State Local} → Steps (Step 𝓛) n s t → s.units ≤ t.units
  units-rise r = let a = units-are-costs r in omega arith

  -- any run has at most the units of a finished one
  pub prefix-units : {n k : ℕ} {s f t : State Local} → Invariant 𝓛 s → Finished 𝓛 f → Steps (Step 𝓛) n s f → Steps (Step 𝓛) k s t
      → t.units ≤ f.units
  prefix-units i e r r' = let (_, _, left) = ahead (laws 𝓛) i e r r' in units-rise left

  -- a live thread has a command ahead of it in every run that finishes, which is paid for there
  pub live-units : {n : ℕ} {s f : State Local} → Invariant 𝓛 s → Finished 𝓛 f → Steps (Step 𝓛) n s f → (p : TaskName) (l : Local)
      → s.at p ≡ live l → s.units + cost l ≤ f.units
  live-units {s = s} i e stop p l h = absurd (finished-no-thread 𝓛 p s l i e h)
  live-units {f = f} i e (then {p = q} {s = s} {t = t} m r) p l h =
      go ((laws 𝓛).same-label? p q) (λ z. live-units (kept 𝓛 q s t i m) e r p l z)
    where
      go : Dec (p ≡ q) → (t.at p ≡ live l → t.units + cost l ≤ f.units) → s.units + cost l ≤ f.units
      go (yes same) _ =
          let there : s.at p ≡ live m.who = subst (λ z. s.at z ≡ live m.who) (sym same) m.there in
          let who : l ≡ m.who = cc in
          let same-cost : cost l ≡ cost m.who = ap cost who in
          let up = units-rise r in
          let first = step-units q s t m in
          omega arith
      go (no d) later =
          let stays = ap (λ z. z.at p) m.result
          ∙ leaves-thread 𝓛 s i q m.who (act (length q) m.who) (lawful (length q) m.who (i.valid q m.who m.there)) m.enabled m.there p l h d _ _ in
          let rest = later (stays ∙ h) in
          let first = step-units q s t m in
          omega arith
