-- A thread's record: "free, running, ready, suspended, waiting or lent", and how each rule changes it.
use Rattle.std.specs.Prelude.{Bool, false, ℕ, ◌+◌, ◌-◌, ◌/◌, ◌%◌, ◌^◌, eqb, leb}
use Rattle.std.specs.Int.Bits.{bit_or}
use Rattle.window.specs.declared.Window.{Window}
use Rattle.window.specs.Rights.{root_window, no_window, sharing_of, rejoined}
use Rattle.thread.specs.declared.Origin.{Origin}
use Rattle.thread.specs.declared.Family.{Family}
use Rattle.thread.specs.declared.Thread.{Thread}
use Rattle.thread.specs.declared.Status.{Status}
use Rattle.thread.specs.declared.Status.TheVariants.{Free, Running, Ready, Suspended, Waiting, Lent}

-- a number for each status, by which two are compared and records are counted
abbrev pub status_number : Status → ℕ
status_number Free = 0
status_number Running = 1
status_number Ready = 2
status_number Suspended = 3
status_number Waiting = 4
status_number Lent = 5

infix 40 ◌is◌
abbrev pub ◌is◌ : Status → Status → Bool
a is b = eqb (status_number a) (status_number b)

-- slot k is pending: bit k of the mask
unfoldable pub is_pending : ℕ → ℕ → Bool
is_pending mask k = eqb (mask / 2 ^ k % 2) 1

-- slot d becomes pending
unfoldable pub with_pending : ℕ → ℕ → ℕ
with_pending mask d = bit_or mask (2 ^ d)

-- the parent of the root, and what an idle core has in place of a thread
abbrev pub none : ℕ
none = 32

abbrev pub is_root : Thread → Bool
is_root h = leb none h.origin.parent

-- routine r for parent t, its value to slot d, its frame at a base
abbrev pub origin_of : ℕ → ℕ → ℕ → ℕ → Origin
origin_of r t d base = record { routine = r; parent = t; result = d; base = base }

-- no child, and the whole window
abbrev pub childless : Window → Family
childless w = record { children = 0; window = w; pending = 0 }

-- a free record
abbrev pub blank_thread : Thread
blank_thread = record {
  origin = origin_of 0 0 0 0;
  status = Free;
  connected = false;
  position = 0;
  family = childless no_window;
}

-- a thread at its routine's start
abbrev pub new_thread : Origin → Status → Bool → Window → Thread
new_thread origin status connected w = record { origin = origin; status = status; connected = connected; position = 0; family = childless w }

-- the root, on routine 0, "in the root's window", its frame at the first word of stacklet 0
abbrev pub root_thread : Thread
root_thread = new_thread (origin_of 0 none 0 0) Running false root_window

abbrev pub with_status : Status → Thread → Thread
with_status status h = record { origin = h.origin; status = status; connected = h.connected; position = h.position; family = h.family }

-- "is disconnected": no longer on a core, and unconnected for good
abbrev pub disconnected : Status → Thread → Thread
disconnected status h = record { origin = h.origin; status = status; connected = false; position = h.position; family = h.family }

-- its next command is at p
abbrev pub moved_to : ℕ → Thread → Thread
moved_to p h = record { origin = h.origin; status = h.status; connected = h.connected; position = p; family = h.family }

-- another family, and a status
abbrev pub with_family : Family → Status → Thread → Thread
with_family family status h = record { origin = h.origin; status = status; connected = h.connected; position = h.position; family = family }

-- behind a join, at p: "clearing pending slots", "A join puts the mark back to lo"; T-04: "The join restores the ceiling"
abbrev pub joined_at : ℕ → Thread → Thread
joined_at p h = moved_to p (with_family (record { children = h.family.children; window = rejoined h.family.window; pending = 0 }) h.status h)

-- behind a 0E of x, at p: T-04, "The ceiling becomes s"
abbrev pub shared_at : ℕ → ℕ → Thread → Thread
shared_at p x h =
    moved_to p (with_family (record { children = h.family.children; window = sharing_of h.family.window x; pending = h.family.pending }) h.status h)

-- a parent behind a fork, at p: one child more, slot d pending, the window w left to it
abbrev pub behind_fork : Status → ℕ → ℕ → Window → Thread → Thread
behind_fork status p d w h =
    moved_to p (with_family (record { children = h.family.children + 1; window = w; pending = with_pending h.family.pending d }) status h)

-- a parent whose child has ended
abbrev pub without_child : Status → Thread → Thread
without_child status h = with_family (record { children = h.family.children - 1; window = h.family.window; pending = h.family.pending }) status h
