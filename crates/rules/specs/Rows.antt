-- All worked rows: small runs by entries, with their log bytes and their end worked out by hand from document 01 and T-04. A second witness of the
-- rules: a wrong rule gives another log byte or another end (proofs/Rows.antt computes them).
use Rattle.std.specs.Prelude.{List, ◌++◌}
use Rattle.rules.specs.Row.{WorkedRow}
use Rattle.rules.specs.RowsForks.{fork_rows}
use Rattle.rules.specs.RowsJoins.{join_rows}
use Rattle.rules.specs.RowsTables.{table_rows}
use Rattle.rules.specs.RowsSteals.{steal_rows}
use Rattle.rules.specs.RowsEntries.{entry_rows}
use Rattle.rules.specs.RowsCommands.{command_rows}
use Rattle.rules.specs.RowsPending.{pending_rows}
use Rattle.rules.specs.RowsShares.{share_rows}
use Rattle.rules.specs.RowsCeilings.{ceiling_rows}
use Rattle.rules.specs.RowsSpans.{span_rows}
use Rattle.rules.specs.RowsNestedSpans.{nested_span_rows}

abbrev pub rows : List WorkedRow
rows =
    fork_rows ++ (join_rows ++ (table_rows ++ (steal_rows ++ (entry_rows ++ (command_rows ++ (pending_rows
    ++ (share_rows ++ (ceiling_rows ++ (span_rows ++ nested_span_rows)))))))))
