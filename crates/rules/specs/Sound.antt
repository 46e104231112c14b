-- A sound state, which the step inside the machine may rely on ("The step inside the machine may rely on a sound state"). Each part is
-- about the threads in use, the queues and the stacklets; quantifiers go over 32 threads, 4 cores, 16 stacklets and their words.
use Rattle.std.specs.Prelude.{true, cond, ◌⊎◌, ◌≡◌, ℕ, zero, suc, ◌+◌, ◌/◌, ◌%◌, ◌≤◌, ◌<◌, eqb, length, get_or}
use Rattle.image.specs.Layout.{routine_count, slots_of, code_of}
use Rattle.image.specs.Code.{commands_of, is_start}
use Rattle.window.specs.declared.Window.{Window}
use Rattle.window.specs.Rights.{Fits}
use Rattle.stacklets.specs.Layout.{Apart, Under}
use Rattle.stacklets.specs.Tops.{top_at}
pub use Rattle.thread.specs.Job.{GoodJob}
use Rattle.thread.specs.declared.Status.TheVariants.{Free}
use Rattle.thread.specs.Thread.{is_pending, none, ◌is◌}
use Rattle.rules.specs.State.{Job, State, finished, thread_at, on_core}
pub use Rattle.rules.specs.Statuses.{status_at}
use Rattle.rules.specs.Statuses.{IsFree, IsRunning, IsReady, IsWaiting, IsLent}
use Rattle.rules.specs.Turn.{byte_of}
use Rattle.rules.specs.Lists.{Every, Member, Distinct}

-- thread t is in use: any status but free, whose number is 0
abbrev pub Used : State → ℕ → Type 0
Used s t = 0 < status_at s t

-- thread t's parent, its frame's first word and its window
abbrev pub parent_at : State → ℕ → ℕ
parent_at s t = (thread_at s t).origin.parent

abbrev pub base_at : State → ℕ → ℕ
base_at s t = (thread_at s t).origin.base

abbrev pub window_held : State → ℕ → Window
window_held s t = (thread_at s t).family.window

-- the number of words in thread t's frame
abbrev pub size_at : Job → State → ℕ → ℕ
size_at j s t = slots_of j.image (thread_at s t).origin.routine

-- the tables have their sizes; "1 to 4 cores; 32 thread numbers; 16 stacklets of 64 words"; "units at most the allowance"
pub record Sized (j : Job) (s : State) : Type 0 where
  pub threads : length s.threads ≡ 32
  pub cores : length s.cores ≡ 4
  pub tops : length s.store.tops ≡ 16
  pub words : length s.store.words ≡ 1024
  pub memory : length s.store.memory ≡ 992
  pub some : 1 ≤ s.count
  pub most : s.count ≤ 4
  pub units : s.units ≤ j.allowance

-- "each position a command's start"; "every field in range"; a waiting thread's next command is a join
pub record Positioned (j : Job) (s : State) : Type 0 where
  pub routine : (t : ℕ) → Used s t → (thread_at s t).origin.routine < routine_count j.image
  pub position : (t : ℕ) → Used s t → is_start (commands_of (code_of j.image (thread_at s t).origin.routine)) (thread_at s t).position ≡ true
  pub pending : (t : ℕ) → Used s t → (thread_at s t).family.pending < 65536
  pub result : (t : ℕ) → Used s t → (thread_at s t).origin.result < 16
  pub join : (t : ℕ) → IsWaiting s t → byte_of j (thread_at s t) ≡ 10

-- "running threads and cores match"
pub record Seats (s : State) : Type 0 where
  pub runs : (c : ℕ) → c < s.count → on_core s c < none → IsRunning s (on_core s c)
  pub seated : (t : ℕ) → IsRunning s t → (c : ℕ) × (c < s.count) × (on_core s c ≡ t)
  pub one : (c d : ℕ) → c < s.count → d < s.count → on_core s c < none → on_core s c ≡ on_core s d → c ≡ d

-- "lent threads and connected children, these running or lent, match"
pub record Links (s : State) : Type 0 where
  pub lent : (p : ℕ) → IsLent s p → (u : ℕ) × ((thread_at s u).connected ≡ true) × (parent_at s u ≡ p)
  pub linked : (u : ℕ) → (thread_at s u).connected ≡ true
      → (IsRunning s u ⊎ IsLent s u) × IsLent s (parent_at s u)
  pub only : (u v : ℕ) → (thread_at s u).connected ≡ true → (thread_at s v).connected ≡ true → parent_at s u ≡ parent_at s v → u ≡ v

-- "a ready thread stands once in the line .. and nothing else does"
pub record Turns (s : State) : Type 0 where
  pub ready : Every (IsReady s) s.queues.ready
  pub once : Distinct s.queues.ready
  pub stands : (t : ℕ) → IsReady s t → Member t s.queues.ready

-- the used children of thread t among the first n threads
abbrev pub is_child : State → ℕ → ℕ → ℕ
is_child s t u = cond ((thread_at s u).status is Free) 0 (cond (eqb (parent_at s u) t) 1 0)

unfoldable pub children_among : State → ℕ → ℕ → ℕ
children_among s t zero = 0
children_among s t (suc n) = is_child s t n + children_among s t n

-- "child counts agree with the fork tree, whose root is thread 0 .. (once finished, and only then, no thread is in use)";
-- "a waiting thread has a child that has not ended". Ranks rise from parent to child, so there is no cycle
pub record Tree (s : State) : Type 0 where
  pub waits : (t : ℕ) → IsWaiting s t → 0 < (thread_at s t).family.children
  pub counted : (t : ℕ) → Used s t → (thread_at s t).family.children ≡ children_among s t 32
  pub rank : ℕ → ℕ
  pub deep : ℕ
  pub low : (t : ℕ) → rank t < deep
  pub tree : (t : ℕ) → Used s t
      → ((t ≡ 0) × (parent_at s t ≡ none)) ⊎ ((t ≡ 0 → ⊥) × Used s (parent_at s t) × (rank (parent_at s t) < rank t))
  pub root : ((v : ℕ) → s.outcome ≡ finished v → ⊥) → Used s 0
  pub over : (v : ℕ) → s.outcome ≡ finished v → (t : ℕ) → IsFree s t

-- "unended children's result slots are pending and distinct"
pub record Results (s : State) : Type 0 where
  pub pending : (u : ℕ) → Used s u → (u ≡ 0 → ⊥) → is_pending (thread_at s (parent_at s u)).family.pending (thread_at s u).origin.result ≡ true
  pub distinct : (u v : ℕ) → Used s u → Used s v → parent_at s u ≡ parent_at s v → (thread_at s u).origin.result ≡ (thread_at s v).origin.result → u ≡ v

-- the words that thread t was given to read lie in what thread p shares, or are p's own
abbrev pub GivenBy : State → ℕ → ℕ → Type 0
GivenBy s p t =
    (((window_held s p).ceiling ≤ (window_held s t).from) × ((window_held s t).to ≤ (window_held s p).hi))
    ⊎ (((window_held s t).from ≡ (window_held s p).from) × ((window_held s t).to ≡ (window_held s p).to))

-- windows are good; the root's is 32 to 1,024; children's "lie apart in what the parent cut off"; T-07: "a read span lies in what an ancestor
-- shares", asked here of the parent alone
pub record Windows (s : State) : Type 0 where
  pub fits : (t : ℕ) → Used s t → Fits (window_held s t)
  pub root : Used s 0 → ((window_held s 0).lo ≡ 32) × ((window_held s 0).hi ≡ 1024)
  pub inside : (u : ℕ) → Used s u → (u ≡ 0 → ⊥)
      → ((window_held s (parent_at s u)).lo ≤ (window_held s u).lo) × ((window_held s u).hi ≤ (window_held s (parent_at s u)).mark)
  pub apart : (u v : ℕ) → Used s u → Used s v → (u ≡ v → ⊥) → parent_at s u ≡ parent_at s v
      → ((window_held s u).hi ≤ (window_held s v).lo) ⊎ ((window_held s v).hi ≤ (window_held s u).lo)
  pub given : (u : ℕ) → Used s u → (u ≡ 0 → ⊥) → (window_held s u).from < (window_held s u).to → GivenBy s (parent_at s u) u

-- "each thread number .. is either in use or once in its free line"
pub record FreeThreads (s : State) : Type 0 where
  pub free : Every (λ n. (n < 32) × IsFree s n) s.queues.free_threads
  pub once : Distinct s.queues.free_threads
  pub stands : (t : ℕ) → t < 32 → IsFree s t → Member t s.queues.free_threads

-- "frames on a stacklet do not overlap and each above the lowest belongs to a child of the thread below it"
pub record Frames (j : Job) (s : State) : Type 0 where
  pub bounded : (t : ℕ) → Used s t → base_at s t < 1024
  pub most : (x : ℕ) → top_at s.store.tops x ≤ 64
  pub under : (t : ℕ) → Used s t → Under s.store.tops (base_at s t) (size_at j s t)
  pub apart : (t u : ℕ) → Used s t → Used s u → (t ≡ u → ⊥) → Apart (base_at s t) (size_at j s t) (base_at s u) (size_at j s u)
  pub stacked : (t : ℕ) → Used s t → (base_at s t % 64 ≡ 0)
      ⊎ (Used s (parent_at s t) × (base_at s (parent_at s t) + size_at j s (parent_at s t) ≡ base_at s t))
  -- an unended child's result slot is a slot of its parent's frame
  pub result : (t : ℕ) → Used s t → (t ≡ 0 → ⊥) → (thread_at s t).origin.result < size_at j s (parent_at s t)

-- word i of the stacklets is free: it lies in no frame of a thread in use
abbrev pub IsFreeWord : Job → State → ℕ → Type 0
IsFreeWord j s i = (t : ℕ) → Used s t → (i < base_at s t) ⊎ (base_at s t + size_at j s t ≤ i)

-- "stacklet words outside the frames are zero"; T-02: "in a run a free word is always zero"
pub record FreeWords (j : Job) (s : State) : Type 0 where
  pub zero : (i : ℕ) → IsFreeWord j s i → get_or s.store.words i 0 ≡ 0

-- no thread's frame is on stacklet x
abbrev pub Unused : State → ℕ → Type 0
Unused s x = (t : ℕ) → Used s t → base_at s t / 64 ≡ x → ⊥

-- "each stacklet is either in use or once in its free line"
pub record FreeStacklets (s : State) : Type 0 where
  pub free : Every (λ x. (x < 16) × (top_at s.store.tops x ≡ 0) × Unused s x) s.queues.free_stacklets
  pub once : Distinct s.queues.free_stacklets
  pub stands : (x : ℕ) → x < 16 → Unused s x → Member x s.queues.free_stacklets

-- all of it
pub record Sound (j : Job) (s : State) : Type 0 where
  pub job : GoodJob j
  pub sized : Sized j s
  pub placed : Positioned j s
  pub seats : Seats s
  pub links : Links s
  pub turns : Turns s
  pub tree : Tree s
  pub results : Results s
  pub windows : Windows s
  pub free_threads : FreeThreads s
  pub frames : Frames j s
  pub free_stacklets : FreeStacklets s
  pub free_words : FreeWords j s
