-- Laws of the rules in any state: of runs as folds, and of the statuses that a fork leaves. Assumes nothing.
use mathlib.Core.List.{List, [], ◌∷◌, ◌++◌}
use mathlib.Core.Path.{◌≡◌, refl, ap}
use Prim.Native.Nat.{ℕ, suc, ◌<◌}
use native.Mathlib.Omega.{arith}
use lib.ListN.{length, get_or}
use Rattle.schedule.specs.declared.Entry.{Entry}
use Rattle.thread.specs.Thread.{status_number}
use Rattle.rules.specs.declared.ForkKind.{ForkKind}
use Rattle.rules.specs.declared.ForkKind.TheVariants.{Called, Queued, Stolen}
use Rattle.rules.specs.State.{Job, State}
use Rattle.rules.specs.Fork.{child_status, parent_status}
use Rattle.rules.specs.Rules.{entry_of}
use Rattle.rules.specs.Runs.{run_from, logs_from}

-- entries one after another
pub run-append : (j : Job) (s : State) (before after : List Entry) → run_from j s (before ++ after) ≡ run_from j (run_from j s before) after
unfolding run_from
run-append j s [] after = refl
run-append j s (e ∷ before) after = run-append j (entry_of j s e).state before after

pub run-next : (j : Job) (s : State) (before : List Entry) (e : Entry) → run_from j s (before ++ (e ∷ [])) ≡ (entry_of j (run_from j s before) e).state
unfolding run_from
run-next j s before e = run-append j s before (e ∷ [])

-- the log byte behind those of the entries before
pub log-at : (j : Job) (s : State) (before after : List Entry) (e : Entry) (rest : List ℕ)
    → get_or (logs_from j s (before ++ (e ∷ after)) ++ rest) (length before) 0 ≡ (entry_of j (run_from j s before) e).log
unfolding run_from logs_from
log-at j s [] after e rest = refl
log-at j s (x ∷ before) after e rest = log-at j (entry_of j s x).state before after e rest

pub logs-many : (j : Job) (s : State) (es : List Entry) → length (logs_from j s es) ≡ length es
unfolding logs_from
logs-many j s [] = refl
logs-many j s (e ∷ es) = ap suc (logs-many j (entry_of j s e).state es)

-- both threads of a fork are in use behind it
pub child-in-use : (kind : ForkKind) → 0 < status_number (child_status kind)
child-in-use Called = omega arith
child-in-use Queued = omega arith
child-in-use Stolen = omega arith

pub parent-in-use : (kind : ForkKind) → 0 < status_number (parent_status kind)
parent-in-use Called = omega arith
parent-in-use Queued = omega arith
parent-in-use Stolen = omega arith
