-- Return: "the value goes to the parent's result slot, frame and thread number are freed".
use Rattle.std.specs.Prelude.{Bool, cond, ◌&&◌, not, List, ℕ, ◌/◌, ◌%◌, eqb}
use Rattle.image.specs.Layout.{slots_of}
use Rattle.queue.specs.Contents.{appended, capacity}
use Rattle.stacklets.specs.Tops.{popped_tops}
use Rattle.stacklets.specs.Frames.{wiped}
use Rattle.thread.specs.declared.Thread.{Thread}
use Rattle.thread.specs.declared.Status.{Status}
use Rattle.thread.specs.declared.Status.TheVariants.{Running, Ready, Waiting}
use Rattle.thread.specs.Thread.{blank_thread, without_child, is_root, none, ◌is◌}
use Rattle.rules.specs.State.{Job, State, finished, thread_at}
use Rattle.rules.specs.Update.{set_thread, set_core, set_tops, set_free_threads, set_free_stacklets, set_ready, set_words, set_outcome, set_slot, charge}
use Rattle.rules.specs.Turn.{Turn}

-- "A stacklet is free again when its last frame goes": the frame at its first word
unfoldable pub stacklets_without : ℕ → List ℕ → List ℕ
stacklets_without base free = cond (eqb (base % 64) 0) (appended capacity free (base / 64)) free

-- the thread's number and record are freed, its frame goes off its stacklet, and its weight is charged
abbrev pub retired : Turn → State → State
retired o s =
    set_thread o.number blank_thread
    (set_free_threads (appended capacity s.queues.free_threads o.number)
    (set_free_stacklets (stacklets_without o.thread.origin.base s.queues.free_stacklets)
    (set_tops (popped_tops s.store.tops o.thread.origin.base)
    (charge o.weight s))))

-- "frame and thread number are freed"; T-02: the store "clears a frame's words as it gives them back": the frame's, as many as its routine has
-- slots, and no others
abbrev pub freed : Job → Turn → State → State
freed j o s =
    set_words (wiped s.store.words o.thread.origin.base (slots_of j.image o.thread.origin.routine)) (retired o s)

-- "a waiting parent whose children have all ended joins the ready line and is ready"
unfoldable pub wakes : Bool → Thread → Bool
wakes connected q = not connected && (q.status is Waiting && eqb q.family.children 1)

-- "A connected child's parent runs on"
unfoldable pub status_after : Bool → Thread → Status
status_after connected q = cond connected Running (cond (wakes connected q) Ready q.status)

-- the ready queue once a child of thread p, whose record is q, has ended
unfoldable pub ready_after : Bool → Thread → ℕ → List ℕ → List ℕ
ready_after connected q p ready = cond (wakes connected q) (appended capacity ready p) ready

-- to the parent p, whose record is q; the value v was read before the frame is cleared
unfoldable pub return_to_parent : Job → State → Turn → ℕ → Thread → ℕ → State
return_to_parent j s o p q v =
    set_core o.core (cond o.thread.connected p none)
    (set_ready (ready_after o.thread.connected q p s.queues.ready)
    (set_thread p (without_child (status_after o.thread.connected q) q)
    (set_slot q o.thread.origin.result v (freed j o s))))

-- "The root's return gives the result and finishes the machine"
unfoldable pub return_of : Job → State → Turn → ℕ → State
return_of j s o v =
    cond (is_root o.thread) (set_outcome (finished v) (set_core o.core none (freed j o s)))
    (return_to_parent j s o o.thread.origin.parent (thread_at s o.thread.origin.parent) v)
