-- The command that is met as the code holds it, and what carrying it out relies on. A sound state gives all of it.
use Rattle.std.specs.Prelude.{◌≡◌, ℕ, ◌+◌, ◌^◌, ◌<◌, ◌≤◌, Bool, true, cond, List, [], length, None, Some}
use Rattle.image.specs.Layout.{arguments_of}
use Rattle.stacklets.specs.Frames.{slot_of}
use Rattle.std.specs.declared.option.Option.{Option}
use Rattle.queue.specs.Contents.{tail_of}
use Rattle.window.specs.Rights.{child_of, rest_of}
use Rattle.thread.specs.declared.Thread.{Thread}
use Rattle.thread.specs.declared.Effect.{Effect}
use Rattle.thread.specs.declared.Effect.TheVariants.{Faults, Sets, Loads, Stores, Goes, Continues, Lforks, Forks, Joins, Suspends, Yields, Returns, Shares}
use Rattle.thread.specs.Effect.{forking}
use Rattle.thread.specs.View.{context_of}
use Rattle.thread.specs.declared.Status.{Status}
use Rattle.thread.specs.Thread.{origin_of, new_thread, behind_fork, joined_at, shared_at, is_pending}
use Rattle.rules.specs.State.{job_of, State, thread_at}
use Rattle.rules.specs.Update.{set_thread, set_free_threads, set_free_stacklets, set_ready}
use Rattle.rules.specs.Turn.{Turn, completed, goes_on}
use Rattle.rules.specs.Leave.{leaves}
use Rattle.rules.specs.Return.{stacklets_without, ready_after}
use Rattle.rules.specs.declared.ForkKind.{ForkKind}
use Rattle.rules.specs.Fork.{Asked, Placement, on_stacklet, nowhere, child_status, parent_status, is_connected}
use Rattle.rules.specs.Sound.{Sound}
use Rattle.tables.specs.Meaning.{size, meaning}
use Rattle.dispatch.specs.Orderly.{HeadBelow}

-- thread t's record, which no word has a part in
abbrev pub record_in : List ℕ → ℕ → Thread
record_in xs t = thread_at (meaning xs [] []) t

-- the command of thread t, with record h, met by core c
abbrev pub turn_with : ℕ → ℕ → Thread → ℕ → ℕ → ℕ → Turn
turn_with c t h weight next offset = record { core = c; number = t; thread = h; weight = weight; next = next; offset = offset }

-- with its record as the tables have it
abbrev pub turn_in : List ℕ → ℕ → ℕ → ℕ → ℕ → ℕ → Turn
turn_in xs c t weight next offset = turn_with c t (record_in xs t) weight next offset

-- a thread that leaves its core: a connected one has a parent
pub record Leaving (xs : List ℕ) (c t : ℕ) : Type 0 where
  pub sized : length xs ≡ size
  pub core : c < 4
  pub number : t < 32
  pub linked : (record_in xs t).connected ≡ true → (record_in xs t).origin.parent < 32

-- a turn whose thread is in the tables, with room for its weight
pub record Seated (xs : List ℕ) (c t weight : ℕ) : Type 0 where
  pub sized : length xs ≡ size
  pub core : c < 4
  pub number : t < 32
  pub units : (meaning xs [] []).units + weight < 2 ^ 32
  pub base : (record_in xs t).origin.base < 1024

-- a return: the thread is not its own parent
pub record Returning (xs : List ℕ) (c t weight : ℕ) : Type 0 where
  pub seated : Seated xs c t weight
  pub other : (record_in xs t).origin.parent ≡ t → ⊥

-- a fork with its result slot and its cut
pub record Forking (xs : List ℕ) (c t weight d e : ℕ) : Type 0 where
  pub seated : Seated xs c t weight
  pub children : (record_in xs t).family.children < 255
  pub numbers : HeadBelow 32 (meaning xs [] []).queues.free_threads
  pub stacklets : HeadBelow 16 (meaning xs [] []).queues.free_stacklets
  pub result : d < 16
  pub low : (record_in xs t).family.window.mark ≤ e
  pub high : e ≤ (record_in xs t).family.window.ceiling

-- a 0E, what it shares being in range
pub record Sharing (xs : List ℕ) (c t weight x : ℕ) : Type 0 where
  pub seated : Seated xs c t weight
  pub low : (record_in xs t).family.window.mark ≤ x
  pub high : x ≤ (record_in xs t).family.window.ceiling

-- both records of a fork can be stored: the numbers are in the tables, the slot and the cut in range
pub record Cutting (th : Thread) (t n d e : ℕ) : Type 0 where
  pub parent : t < 32
  pub child : n < 32
  pub children : th.family.children < 255
  pub result : d < 16
  pub low : th.family.window.mark ≤ e
  pub high : e ≤ th.family.window.ceiling

-- thread t's record behind a fork, which was th, and its child's, thread n with its frame at a base
abbrev pub both_records : ForkKind → ℕ → ℕ → Thread → ℕ → Asked → ℕ → State → State
both_records kind t n th next f base s =
    set_thread n (new_thread (origin_of f.routine t f.result base) (child_status kind) (is_connected kind) (child_of th.family.window f.cut))
    (set_thread t (behind_fork (parent_status kind) next f.result (rest_of th.family.window f.cut) th) s)

-- the free stacklets that are left by a new frame: all where it goes above its parent's, or else all but the first
abbrev pub left_by : Bool → State → State
left_by above s = set_free_stacklets (cond above s.queues.free_stacklets (tail_of s.queues.free_stacklets)) s

-- the first free thread number is handed out; where none is free, nothing changes
abbrev pub hands_out_number : State → State
hands_out_number s = set_free_threads (tail_of s.queues.free_threads) s

-- a stacklet is given back when its last frame goes
abbrev pub gives_back : ℕ → State → State
gives_back base s = set_free_stacklets (stacklets_without base s.queues.free_stacklets) s

-- thread p, whose record is q, joins the ready queue if a child's end wakes it
abbrev pub wakes_up : Bool → Thread → ℕ → State → State
wakes_up connected q p s = set_ready (ready_after connected q p s.queues.ready) s

-- a place, as the number taken from a queue with the queue that is left
abbrev pub place_by : Option ℕ → List ℕ → Placement
place_by (Some x) xs = on_stacklet x xs
place_by None xs = nowhere

-- the effect of a fork's operands on a thread, whichever of the two forks it is
abbrev pub seed_of : List ℕ → List ℕ → Thread → ℕ → ℕ → ℕ → ℕ → Effect
seed_of image words h r d a w =
    forking (arguments_of image) (context_of (slot_of words h.origin.base) (is_pending h.family.pending) h.family.window) r d a w (Forks r d a (slot_of words h.origin.base w))

-- what carrying out a seed relies on: it forks, or it faults
abbrev pub SeedMet : List ℕ → ℕ → ℕ → ℕ → Effect → Type 0
SeedMet xs c t weight (Faults n) = length xs ≡ size
SeedMet xs c t weight (Sets d v) = ⊥
SeedMet xs c t weight (Loads d a) = ⊥
SeedMet xs c t weight (Stores a v) = ⊥
SeedMet xs c t weight (Goes p) = ⊥
SeedMet xs c t weight Continues = ⊥
SeedMet xs c t weight (Lforks r d a e) = ⊥
SeedMet xs c t weight (Forks r d a e) = Forking xs c t weight d e
SeedMet xs c t weight Joins = ⊥
SeedMet xs c t weight Suspends = ⊥
SeedMet xs c t weight Yields = ⊥
SeedMet xs c t weight (Returns v) = ⊥
SeedMet xs c t weight (Shares x) = ⊥

-- what a steal relies on: a sound state, with some parameter words and memory
pub record Stealing (image starts : List ℕ) (allowance : ℕ) (xs words : List ℕ) : Type 0 where
  pub sized : length xs ≡ size
  pub parameters : List ℕ
  pub memory : List ℕ
  pub sound : Sound (job_of image starts parameters allowance) (meaning xs words memory)

-- a thread that leaves its core once its command is completed
pub record Stands (xs : List ℕ) (c t weight : ℕ) : Type 0 where
  pub seated : Seated xs c t weight
  pub linked : (record_in xs t).connected ≡ true → (record_in xs t).origin.parent < 32

-- what carrying out a command relies on, if its effect is not its own thread's alone
abbrev pub Carrying : List ℕ → ℕ → ℕ → ℕ → Effect → Type 0
Carrying xs c t weight (Faults n) = length xs ≡ size
Carrying xs c t weight (Sets d v) = ⊥
Carrying xs c t weight (Loads d a) = ⊥
Carrying xs c t weight (Stores a v) = ⊥
Carrying xs c t weight (Goes p) = ⊥
Carrying xs c t weight Continues = ⊥
Carrying xs c t weight (Lforks r d a e) = Forking xs c t weight d e
Carrying xs c t weight (Forks r d a e) = Forking xs c t weight d e
Carrying xs c t weight Joins = Seated xs c t weight
Carrying xs c t weight Suspends = Stands xs c t weight
Carrying xs c t weight Yields = Stands xs c t weight
Carrying xs c t weight (Returns v) = Returning xs c t weight
Carrying xs c t weight (Shares x) = Sharing xs c t weight x

-- a join passes
abbrev pub passes : Turn → State → State
passes o s = completed o (joined_at o.next o.thread) s

-- words are shared
abbrev pub shares_as : Turn → ℕ → State → State
shares_as o x s = completed o (shared_at o.next x o.thread) s

-- the command is completed, and the thread leaves its core
abbrev pub leaves_as : Turn → Status → State → State
leaves_as o status s = leaves o.core o.number status (goes_on o s)

-- tables, words and memory that mean a sound state of a job
pub record Sounding (image starts parameters : List ℕ) (allowance : ℕ) (xs words memory : List ℕ) : Type 0 where
  pub sized : length xs ≡ size
  pub sound : Sound (job_of image starts parameters allowance) (meaning xs words memory)
