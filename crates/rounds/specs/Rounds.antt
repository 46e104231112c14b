-- The built-in scheduler's rounds, as document 01, "Schedule", has them: "A house run has no log; it writes the accepted or faulting entries
-- it uses, and equals the run by them."
use Rattle.std.specs.Prelude.{Bool, false, cond, ◌&&◌, ◌||◌, not, List, [], ◌∷◌, ◌++◌, ℕ, zero, suc, ◌-◌, min, ltb, leb, eqb, length, drop}
use Rattle.schedule.specs.declared.Entry.{Entry}
use Rattle.schedule.specs.declared.Entry.TheVariants.{Enable}
use Rattle.schedule.specs.Format.{bytes_of_entry, bytes_of_entries}
use Rattle.thread.specs.Thread.{none}
use Rattle.rules.specs.State.{Job, State, After, is_over}
use Rattle.rules.specs.Rules.{entry_of}
use Rattle.search.specs.Search.{choice_of, lowest_suspended}

-- how far the scheduler has come
pub record Progress : Type 0 where
  pub state : State
  -- the entries written so far
  pub written : List Entry
  -- the bytes that are left of its buffer
  pub left : ℕ
  -- whether an entry of this round was accepted
  pub moved : Bool

-- "accepted or faulting": 0, or 9 to 12, or T-04's 31
abbrev pub is_written : ℕ → Bool
is_written log = eqb log 0 || ((leb 9 log && leb log 12) || eqb log 31)

-- it goes on: "It ends when over, .. or when before a try fewer than 3 bytes are left of its buffer"
abbrev pub may_try : Progress → Bool
may_try p = not (is_over p.state.outcome) && leb 3 p.left

-- what an entry that was tried has led to: a refused one changes nothing and is not written
unfoldable pub recorded : Entry → After → Progress → Progress
recorded e a p =
    cond (is_written a.log)
    (record {
      state = a.state;
      written = p.written ++ (e ∷ []);
      left = p.left - length (bytes_of_entry e);
      moved = p.moved || eqb a.log 0;
    })
    p

-- a try of an entry
unfoldable pub tried : Job → Entry → Progress → Progress
tried j e p = cond (may_try p) (recorded e (entry_of j p.state e) p) p

-- n cores from core c on, "in ascending order", each meeting what the one before left
unfoldable pub turns : ℕ → Job → ℕ → Progress → Progress
turns zero j c p = p
turns (suc n) j c p = turns n j (suc c) (tried j (choice_of j p.state c) p)

-- nothing is accepted yet in this round
abbrev pub fresh : Progress → Progress
fresh p = record { state = p.state; written = p.written; left = p.left; moved = false }

-- a round: "cores in ascending order"
abbrev pub round : Job → Progress → Progress
round j p = turns p.state.count j 0 (fresh p)

-- whether a round is followed by another: it does not "when nothing can be enabled"
abbrev pub plays_on : Progress → Bool
plays_on p = may_try p && (p.moved || ltb (lowest_suspended p.state) none)

-- "After a round with nothing accepted the lowest suspended thread is enabled"
unfoldable pub wakened : Job → Progress → Progress
wakened j p = cond p.moved p (tried j (Enable (lowest_suspended p.state)) p)

-- rounds, n at most; a round that is followed by another has written an entry, so n above the bytes left is never reached
unfoldable pub rounds : ℕ → Job → Progress → Progress
rounds zero j p = p
rounds (suc n) j p = cond (plays_on (round j p)) (rounds n j (wakened j (round j p))) (round j p)

-- "its buffer, of which it uses at most 32,768"
abbrev pub usable : ℕ → ℕ
usable size = min 32768 size

-- before the first round
abbrev pub beginning : State → ℕ → Progress
beginning s size = record { state = s; written = []; left = usable size; moved = false }

-- the scheduler from a state on, with a buffer of so many bytes
abbrev pub scheduled_from : Job → State → ℕ → Progress
scheduled_from j s size = rounds (suc (usable size)) j (beginning s size)

-- "the rest stay"
abbrev pub filled : List ℕ → List Entry → List ℕ
filled buffer es = bytes_of_entries es ++ drop (length (bytes_of_entries es)) buffer
