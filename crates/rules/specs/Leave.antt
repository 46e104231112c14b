-- A thread leaves its core: "A connected thread that waits, suspends or yields is disconnected and its parent runs on this core; an
-- unconnected one leaves the core idle."
use Rattle.std.specs.Prelude.{cond, ℕ}
use Rattle.thread.specs.declared.Status.{Status}
use Rattle.thread.specs.declared.Status.TheVariants.{Running}
use Rattle.thread.specs.Thread.{disconnected, with_status, none}
use Rattle.rules.specs.State.{State, thread_at}
use Rattle.rules.specs.Update.{set_thread, set_core}

-- thread p runs on core c
abbrev pub runs : ℕ → ℕ → State → State
runs c p s = set_core c p (set_thread p (with_status Running (thread_at s p)) s)

-- thread t leaves core c with a status
unfoldable pub leaves : ℕ → ℕ → Status → State → State
leaves c t status s =
    cond (thread_at s t).connected
    (runs c (thread_at s t).origin.parent (set_thread t (disconnected status (thread_at s t)) s))
    (set_core c none (set_thread t (disconnected status (thread_at s t)) s))
