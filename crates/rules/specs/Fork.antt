-- Forks: 08 and 09 by a step, and either as a seed by a steal.
use Rattle.std.specs.Prelude.{Bool, true, false, ◌&&◌, List, [], ◌∷◌, ℕ, ◌+◌, ◌/◌}
use Rattle.image.specs.Layout.{slots_of, arguments_of}
use Rattle.window.specs.Rights.{child_of, rest_of}
use Rattle.stacklets.specs.Tops.{base_on, fits_on, is_topmost, pushed_tops}
use Rattle.stacklets.specs.Frames.{arguments_at, pushed_words}
use Rattle.thread.specs.declared.Thread.{Thread}
use Rattle.thread.specs.declared.Status.{Status}
use Rattle.thread.specs.declared.Status.TheVariants.{Running, Ready, Lent}
pub use Rattle.thread.specs.Effect.{Asked, asked}
use Rattle.thread.specs.Thread.{origin_of, new_thread, behind_fork}
use Rattle.rules.specs.declared.ForkKind.{ForkKind}
use Rattle.rules.specs.declared.ForkKind.TheVariants.{Called, Queued, Stolen}
use Rattle.rules.specs.State.{Job, State, After}
use Rattle.rules.specs.Update.{accepted, refused, set_thread, set_core, set_tops, set_free_threads, set_free_stacklets, set_words, charge, enqueue_ready}
use Rattle.rules.specs.Turn.{Turn}

-- "the child runs on this core, connected; the parent is lent" (lfork); "the child is independent, joins the ready line's tail; the
-- parent runs on" (fork); "its child independent and running on idle core c, .. t staying lent" (steal)
abbrev pub child_status : ForkKind → Status
child_status Called = Running
child_status Queued = Ready
child_status Stolen = Running

abbrev pub parent_status : ForkKind → Status
parent_status Called = Lent
parent_status Queued = Running
parent_status Stolen = Lent

abbrev pub is_connected : ForkKind → Bool
is_connected Called = true
is_connected Queued = false
is_connected Stolen = false

-- the child takes its place: on the core, or in the ready queue
abbrev pub child_goes : ForkKind → ℕ → ℕ → State → State
child_goes Called c n s = set_core c n s
child_goes Queued c n s = enqueue_ready n s
child_goes Stolen c n s = set_core c n s

-- "goes above its parent's frame when an lfork makes it, the parent's frame is topmost there and it fits": not for a steal
unfoldable pub goes_above : Job → State → ForkKind → Thread → ℕ → Bool
goes_above j s kind h r =
    is_connected kind && (is_topmost s.store.tops h.origin.base (slots_of j.image h.origin.routine)
    && fits_on s.store.tops (h.origin.base / 64) (slots_of j.image r))

-- the stacklet of a new frame, with the free stacklets that are left: "otherwise on a free stacklet"
pub data Placement : Type 0 where
  on_stacklet : ℕ → List ℕ → Placement
  nowhere : Placement

unfoldable pub place_of : Bool → ℕ → List ℕ → Placement
place_of true x free = on_stacklet x free
place_of false x [] = nowhere
place_of false x (y ∷ ys) = on_stacklet y ys

-- what a child is handed: its thread number and its stacklet, with the free ones that are left
pub record Handed : Type 0 where
  pub number : ℕ
  pub numbers : List ℕ
  pub stacklet : ℕ
  pub stacklets : List ℕ

abbrev pub handed : ℕ → List ℕ → ℕ → List ℕ → Handed
handed n ns x xs = record { number = n; numbers = ns; stacklet = x; stacklets = xs }

-- a child's record: its value goes to the result slot of its parent, its window is what the cut gives it
abbrev pub child_thread : State → ForkKind → Turn → Asked → Handed → Thread
child_thread s kind o f g =
    new_thread (origin_of f.routine o.number f.result (base_on s.store.tops g.stacklet)) (child_status kind) (is_connected kind)
    (child_of o.thread.family.window f.cut)

-- its parent's, behind the fork
abbrev pub parent_thread : ForkKind → Turn → Asked → Thread
parent_thread kind o f = behind_fork (parent_status kind) o.next f.result (rest_of o.thread.family.window f.cut) o.thread

-- the words with the child's frame: its arguments, which the parent's slots hold, and zeros
abbrev pub words_with_child : Job → State → Turn → Asked → ℕ → List ℕ
words_with_child j s o f x =
    pushed_words s.store.tops s.store.words x (slots_of j.image f.routine)
    (arguments_at s.store.words (o.thread.origin.base + f.first) (arguments_of j.image f.routine))

-- the fork done, its child with what it was handed
unfoldable pub born : Job → State → ForkKind → Turn → Asked → Handed → State
born j s kind o f g =
    child_goes kind o.core g.number
    (set_free_threads g.numbers
    (set_free_stacklets g.stacklets
    (set_tops (pushed_tops s.store.tops g.stacklet (slots_of j.image f.routine))
    (set_words (words_with_child j s o f g.stacklet)
    (charge o.weight
    (set_thread g.number (child_thread s kind o f g)
    (set_thread o.number (parent_thread kind o f) s)))))))

-- "21: a stacklet is needed and none is free"
unfoldable pub fork_on : State → (ℕ → List ℕ → State) → Placement → After
fork_on s child (on_stacklet x xs) = accepted (child x xs)
fork_on s child nowhere = refused 21 s

-- "20: no free thread number"
unfoldable pub fork_with : Job → State → ForkKind → Turn → Asked → List ℕ → After
fork_with j s kind o f [] = refused 20 s
fork_with j s kind o f (n ∷ ns) =
    fork_on s (λ x xs. born j s kind o f (handed n ns x xs))
    (place_of (goes_above j s kind o.thread f.routine) (o.thread.origin.base / 64) s.queues.free_stacklets)

unfoldable pub fork_of : Job → State → ForkKind → Turn → Asked → After
fork_of j s kind o f = fork_with j s kind o f s.queues.free_threads
