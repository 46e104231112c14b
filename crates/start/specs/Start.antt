-- What the tables and words are at Start.
use Rattle.std.specs.Prelude.{List, [], ◌≡◌, ℕ, length, replicate}
use Rattle.image.specs.Layout.{slots_of}
use Rattle.queue.specs.Contents.{ascending_from}
use Rattle.stacklets.specs.Frames.{pushed_words}
use Rattle.thread.specs.Thread.{root_thread, none}
use Rattle.rules.specs.State.{job_of, State}
use Rattle.rules.specs.Update.{set_thread, set_core, set_free_threads, set_free_stacklets, set_ready}
use Rattle.rules.specs.Start.{start_state}
use Rattle.tables.specs.Meaning.{size, meaning}
use Rattle.tables.specs.Change.{set_count}

-- "Free thread numbers and free stacklets each stand in a line, at first ascending", without the root's; no thread is ready
abbrev pub all_free : State → State
all_free s = set_ready [] (set_free_stacklets (ascending_from 1 15) (set_free_threads (ascending_from 1 31) s))

-- "thread 0 runs routine 0 on core 0 ..; other cores are idle", of tables of zeros
abbrev pub root_runs : ℕ → State → State
root_runs n s = set_count n (set_core 3 none (set_core 2 none (set_core 1 none (set_thread 0 root_thread s))))

-- the tables xs have become ys, and the words ws have become vs: the state at Start, whatever they held. Tables of another size stay as
-- they are; words of any other number are zeros with the root's frame
pub record Starts (image arguments : List ℕ) (count : ℕ) (xs ys ws vs : List ℕ) : Type 0 where
  pub means : length xs ≡ size → length ws ≡ 1024 → (starts parameters memory : List ℕ) (allowance : ℕ) → meaning ys vs memory ≡ start_state (job_of image starts parameters allowance) count arguments memory
  pub other : (length xs ≡ size → ⊥) → ys ≡ xs
  pub framed : vs ≡ pushed_words (replicate 16 0) (replicate (length ws) 0) 0 (slots_of image 0) arguments
