-- A job, and the state of the machine that runs it: document 01, "Tables".
use Rattle.std.specs.Prelude.{Bool, true, false, List, ℕ, ltb, get_or}
use Rattle.thread.specs.declared.Thread.{Thread}
pub use Rattle.thread.specs.Job.{Job, job_of}
use Rattle.thread.specs.Thread.{blank_thread, none}

-- "Over means finished or faulted, open neither"
pub data Outcome : Type 0 where
  going : Outcome
  -- with the result
  finished : ℕ → Outcome
  -- by a number, at a thread and its command's first byte in the image
  faulted : ℕ → ℕ → ℕ → Outcome

abbrev pub is_over : Outcome → Bool
is_over going = false
is_over (finished v) = true
is_over (faulted n t o) = true

-- the queues of numbers: the free threads and stacklets, and the threads that are ready, in the order in which they are taken
pub record Queues : Type 0 where
  pub free_threads : List ℕ
  pub free_stacklets : List ℕ
  pub ready : List ℕ

-- the words: of each stacklet how many hold frames, all stacklets' words, and the memory words
pub record Storage : Type 0 where
  pub tops : List ℕ
  pub words : List ℕ
  pub memory : List ℕ

pub record State : Type 0 where
  pub threads : List Thread
  -- the thread on each core
  pub cores : List ℕ
  -- how many cores there are
  pub count : ℕ
  pub queues : Queues
  pub store : Storage
  pub units : ℕ
  pub outcome : Outcome

-- what an entry gives: the state, and the entry's log byte
pub record After : Type 0 where
  pub state : State
  pub log : ℕ

-- thread t's record
abbrev pub thread_at : State → ℕ → Thread
thread_at s t = get_or s.threads t blank_thread

-- the thread on core c, or none; asked of a core below the count only
abbrev pub on_core : State → ℕ → ℕ
on_core s c = get_or s.cores c 0

abbrev pub is_busy : State → ℕ → Bool
is_busy s c = ltb (on_core s c) none
