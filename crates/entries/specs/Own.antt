-- A command that changes its own thread, its slots and the memory alone, said of any state around it.
use Rattle.std.specs.Prelude.{◌≡◌, ℕ, ◌+◌, ◌%◌, ◌^◌, ◌≤◌, List, Option, Some, None}
use Rattle.thread.specs.declared.Effect.{Effect}
use Rattle.thread.specs.declared.Effect.TheVariants.{Faults, Sets, Loads, Stores, Goes, Continues, Lforks, Forks, Joins, Suspends, Yields, Returns, Shares}
use Rattle.thread.specs.Thread.{moved_to}
use Rattle.thread.specs.Bytes.{bytes_by}
use Rattle.rules.specs.State.{Job, State}
use Rattle.rules.specs.Update.{accepted, with_store}
use Rattle.rules.specs.Turn.{Turn, completed}
use Rattle.rules.specs.Rules.{carried_of}

-- a store is to a memory word: a window allows no other
abbrev pub Stored : Effect → Type 0
Stored (Faults n) = Unit {0}
Stored (Sets d v) = Unit {0}
Stored (Loads d a) = Unit {0}
Stored (Stores a v) = 32 ≤ a
Stored (Goes p) = Unit {0}
Stored Continues = Unit {0}
Stored (Lforks r d a e) = Unit {0}
Stored (Forks r d a e) = Unit {0}
Stored Joins = Unit {0}
Stored Suspends = Unit {0}
Stored Yields = Unit {0}
Stored (Returns v) = Unit {0}
Stored (Shares x) = Unit {0}

-- an effect of another kind
abbrev pub IsOther : Effect → Type 0
IsOther (Faults n) = Unit {0}
IsOther (Sets d v) = ⊥
IsOther (Loads d a) = ⊥
IsOther (Stores a v) = ⊥
IsOther (Goes p) = ⊥
IsOther Continues = ⊥
IsOther (Lforks r d a e) = Unit {0}
IsOther (Forks r d a e) = Unit {0}
IsOther Joins = Unit {0}
IsOther Suspends = Unit {0}
IsOther Yields = Unit {0}
IsOther (Returns v) = Unit {0}
IsOther (Shares x) = Unit {0}

-- the state with these words and this memory
abbrev pub with_both : List ℕ → List ℕ → State → State
with_both words memory s = with_store (record { tops = s.store.tops; words = words; memory = memory }) s

-- the rule carries out an effect on the frame at a base so, whatever the state around it
abbrev pub CarriedSo : Effect → ℕ → ℕ → List ℕ → List ℕ → List ℕ → List ℕ → List ℕ → ℕ → Type 0
CarriedSo e position base parameters ws ms ws' ms' p =
    (j : Job) (s : State) (o : Turn) → j.parameters ≡ parameters → s.store.words ≡ ws → s.store.memory ≡ ms → o.thread.origin.base ≡ base → o.next ≡ (position + bytes_by e) % 2 ^ 16
    → carried_of j s o e ≡ accepted (completed o (moved_to p o.thread) (with_both ws' ms' s))

-- what the answer says: the rule carries the effect out so; or it is of another kind, and nothing has changed
abbrev pub OwnAs : Effect → ℕ → ℕ → List ℕ → List ℕ → List ℕ → List ℕ → List ℕ → Option ℕ → Type 0
OwnAs e position base parameters ws ms ws' ms' (Some p) = (IsOther e → ⊥) × CarriedSo e position base parameters ws ms ws' ms' p
OwnAs e position base parameters ws ms ws' ms' None = (ws' ≡ ws) × (ms' ≡ ms) × IsOther e
