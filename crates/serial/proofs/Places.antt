-- A routine's places: at its start, behind a turn, and where a row has led it. Assumes nothing.
use mathlib.Core.List.{List}
use mathlib.Core.Path.{◌≡◌, refl, ◌∙◌}
use Prim.Native.Nat.{ℕ, ◌≤◌, ◌<◌}
use native.Mathlib.Omega.{arith}
use Rattle.std.specs.Prelude.{get_or, Result, Ok, Err}
use Rattle.window.specs.declared.Window.{Window}
use Rattle.thread.specs.Job.{Job, job_of}
use Rattle.serial.specs.declared.place.Place.{Place}
use Rattle.serial.specs.declared.row.Fork.{Fork}
use Rattle.serial.specs.declared.Halted.{Halted}
use Rattle.serial.specs.declared.Routine.{Routine}
use Rattle.serial.specs.Serial.{Ended, started_on}
use Rattle.serial.specs.Steps.{open_at, open_in, place_at, first_slots, Come, Far, OnAs, ForksAs, ForkAs, RowReady, ForkReady}

module _ {j : Job} {n : ℕ} {whole : Ended} {m : List ℕ} where
  -- a routine's start: the window of its place is its own
  module _ {r : ℕ} {w : Window} {most : ℕ} {at : Place} (is : at ≡ place_at r 0 0 w most) (arguments : List ℕ) where
    pub in_window : Far j n whole (started_on r arguments w) m most → Far j n whole (started_on r arguments at.window) m most
    in_window far = rw is far

    pub far-starts : {slots : List ℕ} → slots ≡ first_slots arguments → Far j n whole (started_on r arguments at.window) m most
        → (at.left ≤ most) × Far j n whole (open_in at slots) m at.left
    far-starts e far = rw (is, e) (omega arith, rw is at far)

  -- the next place
  pub goes-on : {at : Place} {p q left : ℕ} {w : Window} {next : Place} {slots : List ℕ} → next ≡ place_at at.routine p q w left → left < at.left
      → Far j n whole (open_at at.routine p q w slots) m left → OnAs j n whole at slots m next
  goes-on is h far = rw is (record { less = h; same = refl; far = far })

-- a run that had come to a routine's start, and is at a place of it now, has come to what a row relies on
module _ {image starts parameters : List ℕ} {n : ℕ} {l : Routine} {m : List ℕ} {most : ℕ} (x : Come image starts parameters n l m most) where
  abbrev pub row-ready : {r code : ℕ} {at : Place} {slots m' : List ℕ} → at.routine ≡ r → code ≡ get_or starts r 0
      → Far (job_of image starts parameters x.allowance) n x.whole (open_in at slots) m' at.left → RowReady image parameters code at slots m'
  row-ready same there far = record {
    starts = starts;
    depth = n;
    there = rw same there;
    come = record { allowance = x.allowance; whole = x.whole; far = far };
  }

  -- and, where the row met a fork, to what carrying it out relies on
  abbrev pub fork-ready : {start here : Place} {slots m' : List ℕ} {f : Fork}
      → ForksAs (job_of image starts parameters x.allowance) n x.whole start slots m' f here → ForkReady image starts parameters n here slots m' f
  fork-ready met = record { come = record { allowance = x.allowance; whole = x.whole; far = met.far }; fork = met.fork }

-- what a fork gives at a place that a row had reached, it gives at the row's place
pub fork-from : (j : Job) (n : ℕ) (whole : Ended) (slots m : List ℕ) (at here next : Place) → here.left ≤ at.left → here.routine ≡ at.routine
    → (o : Result (Unit {0}) Halted) → ForkAs j n whole here next slots m o → ForkAs j n whole at next slots m o
fork-from j n whole slots m at here next less same (Ok x) t = record { less = omega (arith, t.less, less); same = t.same ∙ same; far = t.far }
fork-from j n whole slots m at here next less same (Err h) t = record { less = omega (arith, t.less, less); is = t.is }

-- so too where the row met the fork there
pub row-fork-from : {j : Job} {n : ℕ} {whole : Ended} {slots m : List ℕ} {at here : Place} {f : Fork} → ForksAs j n whole at slots m f here
    → (next : Place) (slots' m' : List ℕ) (o : Result (Unit {0}) Halted) → ForkAs j n whole here next slots' m' o → ForkAs j n whole at next slots' m' o
row-fork-from {j} {n} {whole} {slots} {m} {at} {here} met next slots' m' = fork-from j n whole slots' m' at here next met.less met.same
