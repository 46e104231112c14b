-- A command that is done: the thread's record, and the units. Assumes nothing.
use Rattle.std.proofs.Common.{◌≡◌, ℕ, ◌+◌, ◌%◌, ◌<◌, true, List, [], length, ap, ◌∙◌, mod-eq_of_lt, arith, get_or-set_same}
use Rattle.thread.specs.declared.Thread.{Thread}
use Rattle.thread.specs.Thread.{blank_thread, moved_to}
use Rattle.rules.specs.Update.{set_thread}
use Rattle.rules.specs.Turn.{goes_on}
use Rattle.tables.specs.Meaning.{size, meaning, threads_in}
use Rattle.tables.specs.Change.{Becomes, moves_on}
use Rattle.tables.proofs.Runs.{length_from}
use Rattle.entries.specs.Given.{record_in, turn_in}

-- thread t's next command is at p
pub moved_on : {xs ys : List ℕ} (t p : ℕ) → length xs ≡ size → t < 32 → Becomes xs ys (moves_on (t % 32) p) → (words memory : List ℕ)
    → meaning ys words memory ≡ set_thread t (moved_to p (record_in xs t)) (meaning xs words memory)
unfolding meaning
moved_on {xs} t p l h b words memory = b.means l words memory ∙ ap (λ (k : ℕ). moves_on k p (meaning xs words memory)) (mod-eq_of_lt h)

-- a record that is stored leaves the units
pub units-kept : (xs ys : List ℕ) (t w most : ℕ) (h : Thread) → meaning ys [] [] ≡ set_thread t h (meaning xs [] []) → (meaning xs [] []).units + w < most
    → (meaning ys [] []).units + w < most
units-kept xs ys t w most h e l = rw e l

many : (xs words memory : List ℕ) → length (meaning xs words memory).threads ≡ 32
unfolding meaning threads_in
many xs words memory = length_from 0 32 _

-- a thread that goes on is linked as before
pub linked_on : (xs ys : List ℕ) (c t w next offset : ℕ) → t < 32 → meaning ys [] [] ≡ goes_on (turn_in xs c t w next offset) (meaning xs [] [])
    → ((record_in xs t).connected ≡ true → (record_in xs t).origin.parent < 32) → (record_in ys t).connected ≡ true → (record_in ys t).origin.parent < 32
linked_on xs ys c t w next offset h e f =
    rw (e, get_or-set_same (meaning xs [] []).threads t (moved_to next (record_in xs t)) blank_thread (omega (arith, many xs [] []))) f
