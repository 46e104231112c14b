-- The machine before the first entry: document 01, "Step rules", first line.
use Rattle.std.specs.Prelude.{List, [], ℕ, replicate, set}
use Rattle.image.specs.Layout.{slots_of}
use Rattle.queue.specs.Contents.{ascending_from}
use Rattle.stacklets.specs.Tops.{pushed_tops}
use Rattle.stacklets.specs.Frames.{pushed_words}
use Rattle.thread.specs.Thread.{blank_thread, root_thread, none}
use Rattle.rules.specs.State.{Job, State, going}

-- "Start: thread 0 runs routine 0 on core 0, its frame on stacklet 0; other cores are idle"; "Free thread numbers and free stacklets
-- each stand in a line, at first ascending"
unfoldable pub start_state : Job → ℕ → List ℕ → List ℕ → State
start_state j count arguments memory = record {
  threads = set (replicate 32 blank_thread) 0 root_thread;
  cores = set (replicate 4 none) 0 0;
  count = count;
  queues = record { free_threads = ascending_from 1 31; free_stacklets = ascending_from 1 15; ready = [] };
  store = record {
    tops = pushed_tops (replicate 16 0) 0 (slots_of j.image 0);
    words = pushed_words (replicate 16 0) (replicate 1024 0) 0 (slots_of j.image 0) arguments;
    memory = memory;
  };
  units = 0;
  outcome = going;
}
