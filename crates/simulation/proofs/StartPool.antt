-- Start's pool is the theory's: thread 0 is the root, on routine 0 with the arguments in its first slots, and every other number is free.
-- Assumes an accepted image and as many arguments as routine 0 takes.
use mathlib.Core.Bool.{true}
use mathlib.Core.List.{List}
use mathlib.Core.Logic.{ite}
use mathlib.Core.Path.{◌≡◌, sym, ◌∙◌, ap, fun_ext}
use Prim.Native.Nat.{ℕ, zero, suc, ◌+◌, ◌<◌}
use native.Mathlib.Decide.{dec_lt}
use native.Mathlib.Omega.{arith}
use lib.ListN.{get_or, set, length, replicate, length-replicate, get_or-replicate, get_or-eq_default}
use lib.Seq.{get_or-set_same, get_or-set_other}
use Rattle.image.specs.Layout.{slots_of, arguments_of}
use Rattle.image.proofs.Accepted.{accepted}
use Rattle.image.proofs.Laws.{slots-most, arguments-most}
use Rattle.stacklets.specs.Tops.{fits_on}
use Rattle.stacklets.specs.Frames.{pushed_words}
use Rattle.stacklets.proofs.Places.{fits-yes}
use Rattle.stacklets.proofs.Words.{pushed-slot}
use Rattle.forkjoin.proofs.ThreadPool.{used, root}
use Rattle.forkjoin.proofs.Arrays.{words-from, frame}
use Rattle.forkjoin.proofs.ScheduleIndependence.{first-pool}
use Rattle.thread.specs.declared.Thread.{Thread}
use Rattle.thread.specs.Thread.{blank_thread, root_thread}
use Rattle.thread.proofs.MarkedWindows.{root-job}
use Rattle.rules.specs.State.{Job}
use Rattle.rules.specs.Start.{start_state}
use Rattle.rules.specs.Sound.{GoodJob}
use Rattle.simulation.proofs.JobCode.{code_of}
use Rattle.simulation.proofs.PendingSlots.{none-pending}
use Rattle.simulation.proofs.StatePool.{cell_of, cells_of, pool_of}

-- the root's first slots: the arguments, then zeros
abbrev pub root_slots : List ℕ → ℕ → ℕ
root_slots arguments k = get_or arguments k 0

-- the threads at Start
abbrev start_threads : List Thread
start_threads = set (replicate 32 blank_thread) 0 root_thread

first-thread : get_or start_threads 0 blank_thread ≡ root_thread
first-thread = get_or-set_same (replicate 32 blank_thread) 0 root_thread blank_thread (omega (arith, length-replicate 32 blank_thread))

other-thread : (t : ℕ) → get_or start_threads (suc t) blank_thread ≡ blank_thread
other-thread t = get_or-set_other (replicate 32 blank_thread) 0 (suc t) root_thread blank_thread (omega arith) ∙ go (dec_lt (suc t) 32)
  where
    go : Dec (suc t < 32) → get_or (replicate 32 blank_thread) (suc t) blank_thread ≡ blank_thread
    go (yes l) = get_or-replicate 32 (suc t) blank_thread blank_thread l
    go (no l) = get_or-eq_default (replicate 32 blank_thread) blank_thread {n = suc t} (omega (arith, length-replicate 32 blank_thread))

module _ (j : Job) (good : GoodJob j) (count : ℕ) (arguments memory : List ℕ) (few : length arguments ≡ arguments_of j.image 0) where
  abbrev size : ℕ
  size = slots_of j.image 0

  abbrev ws : List ℕ
  ws = pushed_words (replicate 16 0) (replicate 1024 0) 0 size arguments

  some-routine : 0 < get_or j.image 0 0
  some-routine = let a = accepted j.image good.image in omega (arith, a.some)

  fits : fits_on (replicate 16 0) 0 size ≡ true
  fits = fits-yes (replicate 16 0) 0 size (omega arith) (omega (arith, slots-most j.image (accepted j.image good.image) 0 some-routine))

  root-frame : frame ws 0 size ≡ root_slots arguments
  root-frame = fun_ext {f = frame ws 0 size} {g = root_slots arguments} (λ k. go k (dec_lt k size))
    where
      go : (k : ℕ) (o : Dec (k < size)) → ite o (get_or ws (0 + k) 0) 0 ≡ get_or arguments k 0
      go k (yes l) = pushed-slot (replicate 16 0) (replicate 1024 0) 0 size fits (length-replicate {A = ℕ} 1024 0) k l arguments
      go k (no l) = sym (get_or-eq_default arguments 0 {n = k}
          (omega (arith, few, arguments-most j.image (accepted j.image good.image) 0 some-routine)))

  root-cell : cell_of j ws root_thread ≡ (first-pool (root-job (code_of j good) (root_slots arguments)) j.allowance (words-from 32 memory)).cell 0
  root-cell = λ ι. used (record {
    routine = 0;
    position = 0;
    slots = root-frame ι;
    pending = none-pending ι;
    window = root_thread.family.window;
  }) root

  start-cells : cells_of j ws start_threads ≡ (first-pool (root-job (code_of j good) (root_slots arguments)) j.allowance (words-from 32 memory)).cell
  start-cells = fun_ext {f = cells_of j ws start_threads}
      {g = (first-pool (root-job (code_of j good) (root_slots arguments)) j.allowance (words-from 32 memory)).cell} go
    where
      go : (t : ℕ) → cells_of j ws start_threads t ≡ (first-pool (root-job (code_of j good) (root_slots arguments)) j.allowance (words-from 32 memory)).cell t
      go zero = ap (cell_of j ws) first-thread ∙ root-cell
      go (suc t) = ap (cell_of j ws) (other-thread t)

  pub start-pool : first-pool (root-job (code_of j good) (root_slots arguments)) j.allowance (words-from 32 memory)
      ≡ pool_of j (start_state j count arguments memory)
  unfolding start_state
  start-pool = λ ι. record { cell = sym start-cells ι; words = words-from 32 memory; units = 0 }
