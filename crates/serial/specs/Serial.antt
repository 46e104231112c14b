-- The serial run, document 01's "plain run": each fork is a call. "It holds memory, units, and per open routine slots, pending slots,
-- window, mark and position"; T-04: "the plain run following these rules too", so a window has its ceiling and read span here as well.
use Rattle.std.specs.Prelude.{cond, not, List, ◌++◌, ℕ, zero, suc, ◌+◌, ◌-◌, ltb, leb, eqb, set, take, drop, length, replicate, Result, Ok, Err}
use Rattle.command.specs.Command.{decoded_at, width_of}
use Rattle.command.specs.Weight.{weight_of}
use Rattle.image.specs.Code.{Verdict}
use Rattle.image.specs.Layout.{arguments_of}
use Rattle.image.specs.Image.{image_verdict, number_of_refusal}
use Rattle.window.specs.declared.Window.{Window}
use Rattle.window.specs.Rights.{root_window, child_of, rest_of, sharing_of, rejoined}
use Rattle.stacklets.specs.Frames.{slot_of}
use Rattle.thread.specs.declared.Effect.{Effect}
use Rattle.thread.specs.Effect.{number_of_fault}
use Rattle.thread.specs.declared.Effect.TheVariants.{Faults, Sets, Loads, Stores, Goes, Continues, Lforks, Forks, Joins, Suspends, Yields, Returns, Shares}
use Rattle.thread.specs.Effect.{Asked, asked, effect_of}
use Rattle.thread.specs.View.{context_of}
use Rattle.thread.specs.Thread.{is_pending, with_pending}
use Rattle.thread.specs.Job.{Job, offset_at, byte_at, word_at}
use Rattle.serial.specs.declared.Routine.{Routine}
use Rattle.serial.specs.declared.answer.Finished.{Finished}
use Rattle.serial.specs.declared.answer.Stopped.{Stopped}
use Rattle.serial.specs.Answer.{number_of_stop}

-- how a run or a call ends: "It gives result and units, or the number it ended by and the units so far", memory as it then is
pub data Ended : Type 0 where
  done : ℕ → List ℕ → ℕ → Ended
  stopped : ℕ → List ℕ → ℕ → Ended

-- how the run ended, of an answer and the memory words: "It gives result and units, or the number it ended by and the units so far"
abbrev pub ended_by : Result Finished Stopped → List ℕ → Ended
ended_by (Ok a) memory = done a.result memory a.units
ended_by (Err a) memory = stopped (number_of_stop a.by) memory a.units

-- an open routine, going on
abbrev pub jumped_to : ℕ → Routine → Routine
jumped_to p l = record { routine = l.routine; position = p; pending = l.pending; window = l.window; slots = l.slots }

abbrev pub weight_at : Job → Routine → ℕ
weight_at j l = weight_of j.weights (byte_at j l.routine l.position)

-- behind its command
abbrev pub advanced : Job → Routine → Routine
advanced j l = jumped_to (l.position + width_of (byte_at j l.routine l.position)) l

abbrev pub assigned : ℕ → ℕ → Routine → Routine
assigned d v l = record { routine = l.routine; position = l.position; pending = l.pending; window = l.window; slots = set l.slots d v }

-- "A join always passes, clears the pending slots and puts the mark back to lo"; T-04: "The join restores the ceiling"
abbrev pub joined : Routine → Routine
joined l = record { routine = l.routine; position = l.position; pending = 0; window = rejoined l.window; slots = l.slots }

-- T-04: "The ceiling becomes s"
abbrev pub shared : ℕ → Routine → Routine
shared x l = record { routine = l.routine; position = l.position; pending = l.pending; window = sharing_of l.window x; slots = l.slots }

-- "A fork, 08 or 09, cuts the window and makes slot d pending"
abbrev pub forked : ℕ → ℕ → Routine → Routine
forked d e l = record {
  routine = l.routine;
  position = l.position;
  pending = with_pending l.pending d;
  window = rest_of l.window e;
  slots = l.slots;
}

-- "the child starts likewise, on its arguments in its part": its first slots are the arguments, other slots zero
abbrev pub started_on : ℕ → List ℕ → Window → Routine
started_on r arguments w = record { routine = r; position = 0; pending = 0; window = w; slots = take 16 (arguments ++ replicate 16 0) }

-- the arguments of routine r, from slot a on
abbrev pub arguments_from : Job → Routine → ℕ → ℕ → List ℕ
arguments_from j l r a = take (arguments_of j.image r) (drop a l.slots)

-- what the next command does
unfoldable pub next_effect : Job → Routine → Effect
next_effect j l =
    effect_of (arguments_of j.image) (context_of (slot_of l.slots 0) (is_pending l.pending) l.window)
    (decoded_at j.image (offset_at j l.routine l.position))

-- an ended call, and what follows it
abbrev pub and_then : Ended → (ℕ → List ℕ → ℕ → Ended) → Ended
and_then (done v m u) f = f v m u
and_then (stopped n m u) f = stopped n m u

-- a run from an open routine, n deep ("the root being 1"), with memory m and units u
abbrev pub Call : Type 0
Call = ℕ → Routine → List ℕ → ℕ → Ended

module _ (j : Job) (call : Call) where
  -- "ends before the parent goes on"; "Its returned value goes into d, still pending"; "A fork from 32 deep, the root being 1, meets 26";
  -- "A fork's weight counts before its child starts"
  abbrev pub fork_called : ℕ → Routine → Asked → List ℕ → ℕ → Ended
  fork_called n l f m u =
      cond (leb 32 n) (stopped 26 m u)
      (and_then (call (suc n) (started_on f.routine (arguments_from j l f.routine f.first) (child_of l.window f.cut)) m (u + weight_at j l))
      (λ v m' u'. call n (assigned f.result v (advanced j (forked f.result f.cut l))) m' u'))

  -- a command by its effect: "01 to 07 act by the table"; "suspend and yield only cost"
  unfoldable pub carried : ℕ → Routine → List ℕ → ℕ → Effect → Ended
  carried n l m u (Faults x) = stopped (number_of_fault x) m u
  carried n l m u (Sets d v) = call n (advanced j (assigned d v l)) m (u + weight_at j l)
  carried n l m u (Loads d a) = call n (advanced j (assigned d (word_at j m a) l)) m (u + weight_at j l)
  carried n l m u (Stores a v) = call n (advanced j l) (set m (a - 32) v) (u + weight_at j l)
  carried n l m u (Goes p) = call n (jumped_to p l) m (u + weight_at j l)
  carried n l m u Continues = call n (advanced j l) m (u + weight_at j l)
  carried n l m u (Lforks r d a e) = fork_called n l (asked r d a e) m u
  carried n l m u (Forks r d a e) = fork_called n l (asked r d a e) m u
  carried n l m u Joins = call n (advanced j (joined l)) m (u + weight_at j l)
  carried n l m u Suspends = call n (advanced j l) m (u + weight_at j l)
  carried n l m u Yields = call n (advanced j l) m (u + weight_at j l)
  carried n l m u (Returns v) = done v m (u + weight_at j l)
  carried n l m u (Shares x) = call n (advanced j (shared x l)) m (u + weight_at j l)

-- "The first test met ends it before that command": 22 first. At most `left` commands in a row; each weighs 1 at least, so one more than
-- the allowance is never used up, and `unrolled` (proofs) is the run's equation without that number
unfoldable pub call_within : Job → ℕ → Call
call_within j zero n l m u = stopped 22 m u
call_within j (suc left) n l m u =
    let next = carried j (λ n l m u. call_within j left n l m u) n l m u (next_effect j l) in
    cond (ltb (j.allowance - u) (weight_at j l)) (stopped 22 m u) next

-- the run from an open routine
unfoldable pub call_from : Job → Call
call_from j n l m u = call_within j (suc j.allowance) n l m u

-- "Routine 0 starts on the arguments, other slots zero, in the root's window"
unfoldable pub serial_from : Job → List ℕ → List ℕ → Ended
serial_from j arguments memory = call_from j 1 (started_on 0 arguments root_window) memory 0

-- an image's number, or what follows it
abbrev pub by_verdict : Verdict → List ℕ → Ended → Ended
by_verdict (Err n) memory run = stopped (number_of_refusal n) memory 0
by_verdict (Ok tt) memory run = run

-- "Plain run: image, 24, 25", then the run; the number and nothing changed where one is met
unfoldable pub serial_of : Job → List ℕ → List ℕ → Ended
serial_of j arguments memory =
    by_verdict (image_verdict j.image) memory
    (cond (not (eqb (length arguments) (arguments_of j.image 0))) (stopped 24 memory 0)
    (cond (not (eqb (length j.parameters) 32)) (stopped 25 memory 0)
    (cond (not (eqb (length memory) 992)) (stopped 25 memory 0)
    (serial_from j arguments memory))))
