-- Every entry keeps a sound state sound, accepted, refused or faulting; so every list of entries does, and from Start every state that a
-- run meets is sound. Assumes nothing.
use mathlib.Core.List.{List, [], ◌∷◌}
use mathlib.Core.Path.{◌≡◌}
use Prim.Native.Nat.{ℕ, ◌≤◌}
use lib.ListN.{length}
use Rattle.schedule.specs.declared.Entry.{Entry}
use Rattle.rules.specs.State.{Job, State}
use Rattle.rules.specs.Rules.{entry_of}
use Rattle.rules.specs.Start.{start_state}
use Rattle.rules.specs.Runs.{run_from}
use Rattle.rules.specs.Sound.{GoodJob, Sound}
use Rattle.soundness.proofs.Parts.{seats-kept, links-kept, turns-kept, tree-kept, results-kept, free_threads-kept}
use Rattle.soundness.proofs.KeepSized.{keep-sized}
use Rattle.soundness.proofs.KeepPlaced.{keep-placed}
use Rattle.soundness.proofs.KeepWindows.{keep-windows}
use Rattle.soundness.proofs.KeepFrames.{keep-frames}
use Rattle.soundness.proofs.KeepStacklets.{keep-free-stacklets}
use Rattle.soundness.proofs.KeepWords.{keep-words}
use Rattle.soundness.proofs.StartSound.{start-sound}

-- one entry
pub entry-sound : (j : Job) (s : State) → Sound j s → (e : Entry) → Sound j (entry_of j s e).state
entry-sound j s ok e = record {
  job = ok.job;
  sized = keep-sized j s ok e;
  placed = keep-placed j s ok e;
  seats = seats-kept j s ok e;
  links = links-kept j s ok e;
  turns = turns-kept j s ok e;
  tree = tree-kept j s ok e;
  results = results-kept j s ok e;
  windows = keep-windows j s ok e;
  free_threads = free_threads-kept j s ok e;
  frames = keep-frames j s ok e;
  free_stacklets = keep-free-stacklets j s ok e;
  free_words = keep-words j s ok e;
}

-- any list of entries
pub entries-sound : (j : Job) (s : State) → Sound j s → (es : List Entry) → Sound j (run_from j s es)
unfolding run_from
entries-sound j s ok [] = ok
entries-sound j s ok (e ∷ es) = entries-sound j (entry_of j s e).state (entry-sound j s ok e) es

-- "the first Start's state"
pub run_sound : (j : Job) (count : ℕ) (arguments memory : List ℕ) → GoodJob j → 1 ≤ count → count ≤ 4 → length memory ≡ 992
    → (es : List Entry) → Sound j (run_from j (start_state j count arguments memory) es)
run_sound j count arguments memory g some most words es =
    entries-sound j (start_state j count arguments memory) (start-sound j count arguments memory g some most words) es
