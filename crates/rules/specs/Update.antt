-- The small changes of a state that the rules are made of, one part each.
use Rattle.std.specs.Prelude.{List, ℕ, ◌+◌, ◌-◌, set}
use Rattle.queue.specs.Contents.{appended, capacity}
use Rattle.thread.specs.declared.Thread.{Thread}
use Rattle.rules.specs.State.{Queues, Storage, State, Outcome, After}

-- "0 or its number": an accepted entry, and one that is refused, "changing nothing"
abbrev pub accepted : State → After
accepted s = record { state = s; log = 0 }

abbrev pub refused : ℕ → State → After
refused n s = record { state = s; log = n }

-- a state with other parts
abbrev pub with_queues : Queues → State → State
with_queues queues s =
    record { threads = s.threads; cores = s.cores; count = s.count; queues = queues; store = s.store; units = s.units; outcome = s.outcome }

abbrev pub with_store : Storage → State → State
with_store store s =
    record { threads = s.threads; cores = s.cores; count = s.count; queues = s.queues; store = store; units = s.units; outcome = s.outcome }

abbrev pub set_thread : ℕ → Thread → State → State
set_thread t h s =
    record { threads = set s.threads t h; cores = s.cores; count = s.count; queues = s.queues; store = s.store; units = s.units; outcome = s.outcome }

abbrev pub set_core : ℕ → ℕ → State → State
set_core c t s =
    record { threads = s.threads; cores = set s.cores c t; count = s.count; queues = s.queues; store = s.store; units = s.units; outcome = s.outcome }

abbrev pub set_free_threads : List ℕ → State → State
set_free_threads ts s = with_queues (record { free_threads = ts; free_stacklets = s.queues.free_stacklets; ready = s.queues.ready }) s

abbrev pub set_free_stacklets : List ℕ → State → State
set_free_stacklets xs s = with_queues (record { free_threads = s.queues.free_threads; free_stacklets = xs; ready = s.queues.ready }) s

abbrev pub set_ready : List ℕ → State → State
set_ready ts s = with_queues (record { free_threads = s.queues.free_threads; free_stacklets = s.queues.free_stacklets; ready = ts }) s

-- a thread joins the ready queue's tail
abbrev pub enqueue_ready : ℕ → State → State
enqueue_ready t s = set_ready (appended capacity s.queues.ready t) s

abbrev pub set_tops : List ℕ → State → State
set_tops tops s = with_store (record { tops = tops; words = s.store.words; memory = s.store.memory }) s

abbrev pub set_words : List ℕ → State → State
set_words words s = with_store (record { tops = s.store.tops; words = words; memory = s.store.memory }) s

-- slot d of a thread's frame becomes v
abbrev pub set_slot : Thread → ℕ → ℕ → State → State
set_slot h d v s = set_words (set s.store.words (h.origin.base + d) v) s

-- the memory word at an address becomes v: "32 to 1,023 are 992 lent memory words"
abbrev pub set_memory : ℕ → ℕ → State → State
set_memory a v s = with_store (record { tops = s.store.tops; words = s.store.words; memory = set s.store.memory (a - 32) v }) s

abbrev pub set_outcome : Outcome → State → State
set_outcome o s =
    record { threads = s.threads; cores = s.cores; count = s.count; queues = s.queues; store = s.store; units = s.units; outcome = o }

-- "Units are the sum of the weights of commands carried out"
abbrev pub charge : ℕ → State → State
charge w s =
    record { threads = s.threads; cores = s.cores; count = s.count; queues = s.queues; store = s.store; units = s.units + w; outcome = s.outcome }
