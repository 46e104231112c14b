-- A command that is met: which thread's it is, what it weighs, what is behind it, and what it does to its own thread.
use Rattle.std.specs.Prelude.{Bool, ◌&&◌, ℕ, ◌+◌, ◌-◌, ltb, eqb}
use Rattle.command.specs.Command.{decoded_at, width_of}
use Rattle.command.specs.Weight.{weight_of}
use Rattle.image.specs.Layout.{arguments_of}
use Rattle.stacklets.specs.Frames.{slot_of}
use Rattle.thread.specs.declared.Thread.{Thread}
use Rattle.thread.specs.declared.Effect.{Effect}
use Rattle.thread.specs.Job.{offset_at, byte_at}
use Rattle.thread.specs.Effect.{Context, effect_of}
use Rattle.thread.specs.View.{context_of}
use Rattle.thread.specs.Thread.{is_pending, moved_to}
use Rattle.rules.specs.State.{Job, State, After, faulted, thread_at}
use Rattle.rules.specs.Update.{set_thread, set_outcome, charge}

-- where a thread's next command starts in the image
abbrev pub offset_of : Job → Thread → ℕ
offset_of j h = offset_at j h.origin.routine h.position

abbrev pub byte_of : Job → Thread → ℕ
byte_of j h = byte_at j h.origin.routine h.position

-- a command met by core c, of thread t
pub record Turn : Type 0 where
  pub core : ℕ
  pub number : ℕ
  pub thread : Thread
  pub weight : ℕ
  -- the position behind the command
  pub next : ℕ
  -- the command's first byte in the image
  pub offset : ℕ

abbrev pub turn_at : Job → State → ℕ → ℕ → Turn
turn_at j s c t = record {
  core = c;
  number = t;
  thread = thread_at s t;
  weight = weight_of j.weights (byte_of j (thread_at s t));
  next = (thread_at s t).position + width_of (byte_of j (thread_at s t));
  offset = offset_of j (thread_at s t);
}

-- what a thread's command may look at
abbrev pub context_in : State → Thread → Context
context_in s h = context_of (slot_of s.store.words h.origin.base) (is_pending h.family.pending) h.family.window

-- what the next command of a thread does to it
unfoldable pub effect_at : Job → State → Thread → Effect
effect_at j s h = effect_of (arguments_of j.image) (context_in s h) (decoded_at j.image (offset_of j h))

-- "22: units plus the command's weight pass the allowance"
abbrev pub too_dear : Job → State → Turn → Bool
too_dear j s o = ltb (j.allowance - s.units) o.weight

-- "passes when every child has ended"; otherwise it waits: "a join that waits is not tested" for 22
abbrev pub waits : Job → Thread → Bool
waits j h = eqb (byte_of j h) 10 && ltb 0 h.family.children

-- the command is completed, the thread's record is h, and the weight is charged
abbrev pub completed : Turn → Thread → State → State
completed o h s = charge o.weight (set_thread o.number h s)

-- completed, and the thread goes on behind it
abbrev pub goes_on : Turn → State → State
goes_on o s = completed o (moved_to o.next o.thread) s

-- "A step or steal that faults logs the fault's number", "charges nothing, and changes only that the machine is now over"
abbrev pub faults : Turn → ℕ → State → After
faults o n s = record { state = set_outcome (faulted n o.number o.offset) s; log = n }
