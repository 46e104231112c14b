-- What a thread's command may look at, from its slots, its pending slots and its window.
use Rattle.std.specs.Prelude.{Bool, ℕ, is_some}
use Rattle.window.specs.declared.Window.{Window}
use Rattle.window.specs.Rights.{may_load, may_store, cut_at, share_at}
use Rattle.thread.specs.Effect.{Context}

-- "A fork whose cut is e needs mark ≤ e ≤ hi"; T-04: "at most at" the ceiling
abbrev pub may_cut : Window → ℕ → Bool
may_cut w e = is_some (cut_at w e)

-- T-04: "mark ≤ s ≤ the thread's ceiling"
abbrev pub may_share : Window → ℕ → Bool
may_share w s = is_some (share_at w s)

abbrev pub context_of : (ℕ → ℕ) → (ℕ → Bool) → Window → Context
context_of slots pending w = record {
  slot = slots;
  pending = pending;
  may_load = may_load w;
  may_store = may_store w;
  may_cut = may_cut w;
  may_share = may_share w;
}
