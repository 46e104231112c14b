-- Schedule independence on the task tree: a run that finishes within the allowance gives the result, words and units of the serial
-- run (`agrees`); where the serial run finishes, no run comes to a halted thread (`no-fault`) or passes its units.
use mathlib.Core.Path.{◌≡◌, ap, refl, subst}
use mathlib.Core.List.{[]}
use mathlib.Core.Logic.{◌⊎◌, inl, inr}
use Prim.Native.Nat.{◌+◌, ◌<◌, ◌≤◌, suc, ℕ}
use native.Mathlib.Omega.{arith}
use lib.ListN.{length}
use Rattle.forkjoin.proofs.Confluence.{Steps, ahead, first, kept-steps, never, unique}
use Rattle.forkjoin.proofs.TaskName.{TaskName}
use Rattle.forkjoin.proofs.Rights.{Within}
use Rattle.forkjoin.proofs.Language.{Act, Language, advance, fork, halt, join, load, ret, store}
use Rattle.forkjoin.proofs.TaskTree.{Enabled, Finished, Halts, Node, NotLive, State, Step, after, children-of, ended}
use Rattle.forkjoin.proofs.Invariant.{Invariant}
use Rattle.forkjoin.proofs.TreeConfluence.{laws}
use Rattle.forkjoin.proofs.Units.{prefix-units, units-rise}
use Rattle.forkjoin.proofs.TreeStart.{begin, begin-inv}
use Rattle.forkjoin.proofs.SerialRun.{Outcome, done, out-of-fuel, serial-run, stopped, zeros}
use Rattle.forkjoin.proofs.SerialIsRun.{AtRoutine, Returned, RunsTo, StoppedRun, is-run}
use Rattle.forkjoin.proofs.SerialFuel.{Enough, serial-run-enough}

module _ (𝓛 : Language) (allowance : ℕ) where
  open 𝓛 use {Local, act, cost, window, whole, Valid}

  module _ (costs : (l : Local) → 1 ≤ cost l) where
    begin-here : (l : Local) (m : ℕ → ℕ) → Valid l → Within (window l) (whole l) → AtRoutine 𝓛 allowance [] l zeros (begin 𝓛 l m)
    unfolding begin
    begin-here l m o w = record { sound = begin-inv 𝓛 l m o w; there = refl; vals = λ d. refl; quiet = λ d. tt }

    pub serial-run-runs : (l : Local) (m : ℕ → ℕ) → Valid l → Within (window l) (whole l)
        → RunsTo 𝓛 allowance [] (begin 𝓛 l m) (serial-run 𝓛 allowance l m)
    unfolding begin serial-run
    serial-run-runs l m o w = is-run 𝓛 allowance (suc allowance) [] l zeros (begin 𝓛 l m) (begin-here l m o w)

    ready-or-not : (a : Act Local) (k : ℕ → Node Local) → ((d : ℕ) → NotLive (k d)) → ((x : ℕ) × (a ≡ halt x)) ⊎ Enabled a k
    ready-or-not (halt x) k q = inl (x, refl)
    ready-or-not (advance _) k q = inr tt
    ready-or-not (load _ _) k q = inr tt
    ready-or-not (store _ _ _) k q = inr tt
    ready-or-not (fork _ _ _) k q = inr tt
    ready-or-not (join _) k q = inr q
    ready-or-not (ret _) k q = inr tt

    -- A run that finishes within the allowance gives what the serial run gives.
    pub agrees : (l : Local) (m : ℕ → ℕ) → Valid l → Within (window l) (whole l) → (n : ℕ) (t : State Local) → Steps (Step 𝓛) n (begin 𝓛 l m) t
        → (v : ℕ)
        → t.at [] ≡ ended v → t.units ≤ allowance → serial-run 𝓛 allowance l m ≡ done v t.memory t.units
    agrees l m o w n t r v e h = go (serial-run 𝓛 allowance l m) (serial-run-runs l m o w) (serial-run-enough 𝓛 allowance costs l m)
      where
        i : Invariant 𝓛 (begin 𝓛 l m)
        i = begin-inv 𝓛 l m o w

        fin : Finished 𝓛 t
        fin = record { result = v; root = e }

        stuck : (x : ℕ) (ms : ℕ → ℕ) (u : ℕ) → StoppedRun 𝓛 allowance (begin 𝓛 l m) x ms u → ⊥
        stuck x ms u k = why k.why
          where
            halted : (y : ℕ) → act (length k.who) k.state ≡ halt y → ⊥
            halted y z = never (laws 𝓛) i fin r k.steps (record { who = k.state; there = k.there; why = z })

            dear : allowance < k.end.units + cost k.state → Enabled (act (length k.who) k.state) (children-of k.end k.who) → ⊥
            dear b y =
                let (_, _, r1) = ahead (laws 𝓛) i fin r k.steps in
                let next = after k.who (cost k.state) (act (length k.who) k.state) k.end in
                let mv : Step 𝓛 k.who k.end next = record { who = k.state; there = k.there; enabled = y; result = refl } in
                let (_, _, r2) = first (laws 𝓛) (kept-steps (laws 𝓛) i k.steps) fin r1 mv in
                let c = units-rise 𝓛 r2 in
                omega arith

            why : (act (length k.who) k.state ≡ halt x) ⊎ ((x ≡ 22) × (allowance < k.end.units + cost k.state)) → ⊥
            why (inl z) = halted x z
            why (inr z) = elim (ready-or-not (act (length k.who) k.state) (children-of k.end k.who) k.quiet)
                [ inl y ↦ halted y.0 y.1 | inr y ↦ dear z.1 y ]

        go : (o : Outcome) → RunsTo 𝓛 allowance [] (begin 𝓛 l m) o → Enough o 0 → o ≡ done v t.memory t.units
        go (done y ms u) k _ =
            let (_, z) = unique (laws 𝓛) i fin (record { result = y; root = k.node }) r k.steps in
            let a : t.at [] ≡ k.end.at [] = ap (λ q. q.at []) z in
            let b : t.memory ≡ k.end.memory = ap (λ q. q.memory) z in
            let c : t.units ≡ k.end.units = ap (λ q. q.units) z in
            let d = k.same-words in
            let f = k.same_units in
            let g = k.node in
            let j : y ≡ v = cc in
            cc
        go (stopped x ms u) k _ = absurd (stuck x ms u k)
        go out-of-fuel _ k = absurd k

    -- Where the serial run finishes, no run comes to a fault.
    pub no-fault : (l : Local) (m : ℕ → ℕ) → Valid l → Within (window l) (whole l) → (v : ℕ) (ms : ℕ → ℕ) (u : ℕ)
        → serial-run 𝓛 allowance l m ≡ done v ms u
        → (n : ℕ) (t : State Local) → Steps (Step 𝓛) n (begin 𝓛 l m) t → (p : TaskName) (x : ℕ) → Halts 𝓛 p t x → ⊥
    no-fault l m o w v ms u e n t r p x h =
        let k : Returned 𝓛 allowance [] (begin 𝓛 l m) v ms u = subst (λ o. RunsTo 𝓛 allowance [] (begin 𝓛 l m) o) e (serial-run-runs l m o w) in
        never (laws 𝓛) (begin-inv 𝓛 l m o w) (record { result = v; root = k.node }) k.steps r h

    -- Where the serial run finishes, no run passes its units.
    pub units-bounded : (l : Local) (m : ℕ → ℕ) → Valid l → Within (window l) (whole l) → (v : ℕ) (ms : ℕ → ℕ) (u : ℕ)
        → serial-run 𝓛 allowance l m ≡ done v ms u
        → (n : ℕ) (t : State Local) → Steps (Step 𝓛) n (begin 𝓛 l m) t → t.units ≤ u
    units-bounded l m o w v ms u e n t r =
        let k : Returned 𝓛 allowance [] (begin 𝓛 l m) v ms u = subst (λ o. RunsTo 𝓛 allowance [] (begin 𝓛 l m) o) e (serial-run-runs l m o w) in
        let most = prefix-units 𝓛 (begin-inv 𝓛 l m o w) (record { result = v; root = k.node }) k.steps r in
        let same = k.same_units in
        omega arith
