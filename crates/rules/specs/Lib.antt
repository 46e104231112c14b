-- In reading order. What a reader must believe of the machine: what a state is, its threads' statuses and the one at Start; its small changes;
-- what a command needs; the rules of leaving a core, of forks, of returns and of each entry; and a run, which is their fold.
pub mod State
pub mod Lent
pub mod Statuses
pub mod Start
pub mod Update
pub mod Turn
pub mod Leave
pub mod Fork
pub mod Return
pub mod Rules
pub mod Runs
-- Belief ends here, but for what the promises take from what follows: `Every`, `Member` and `Distinct` of a list, and `FreeWords` of a state (with
-- `IsFreeWord` and the three definitions that it is made of). A sound state is what the code may rely on; that Start's is one and that every entry
-- keeps it is proved (crate `soundness`), so a mistake in it would be found, and is not believed.
pub mod Lists
pub mod Sound
-- Small runs, worked out by hand: a second witness of the rules.
pub mod Row
pub mod RowsForks
pub mod RowsJoins
pub mod RowsTables
pub mod RowsSteals
pub mod RowsEntries
pub mod RowsCommands
pub mod RowsPending
pub mod RowsShares
pub mod RowsCeilings
pub mod RowsSpans
pub mod RowsNestedSpans
pub mod Rows
pub mod RowsFree
-- The same of the stacklets' words, after each entry.
pub mod WordsRow
pub mod RowsWords
pub mod Denial
