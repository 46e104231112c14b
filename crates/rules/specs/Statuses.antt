-- A thread's status: "A thread record is free, running, ready, suspended, waiting or lent (its connected child has the core)".
use Rattle.std.specs.Prelude.{◌≡◌, ℕ}
use Rattle.thread.specs.declared.Status.TheVariants.{Free, Running, Ready, Suspended, Waiting, Lent}
use Rattle.thread.specs.Thread.{status_number}
use Rattle.rules.specs.State.{State, thread_at}

-- thread t's status as a number, another for each of the six (`status_number`): so equal numbers are equal statuses
abbrev pub status_at : State → ℕ → ℕ
status_at s t = status_number (thread_at s t).status

abbrev pub IsFree : State → ℕ → Type 0
IsFree s t = status_at s t ≡ status_number Free

abbrev pub IsRunning : State → ℕ → Type 0
IsRunning s t = status_at s t ≡ status_number Running

abbrev pub IsReady : State → ℕ → Type 0
IsReady s t = status_at s t ≡ status_number Ready

abbrev pub IsSuspended : State → ℕ → Type 0
IsSuspended s t = status_at s t ≡ status_number Suspended

abbrev pub IsWaiting : State → ℕ → Type 0
IsWaiting s t = status_at s t ≡ status_number Waiting

abbrev pub IsLent : State → ℕ → Type 0
IsLent s t = status_at s t ≡ status_number Lent
