-- `cells::write_record` meets its contract. Assumes nothing.
use native.Mathlib.Omega.{arith}
use Rattle.cells.proofs.Laws.{low, high}
use Rattle.cells.proofs.write_record.Goals as goal

pub returns : goal.returns
returns c = (
  λ e. rw (
    c.write_window.ensures.0,
    low _ _ c.to_le_bytes.ensures,
    high _ _ (omega arith) c.to_le_bytes.ensures,
    c.number.ensures,
    c.from.ensures,
    low _ _ c.to_le_bytes-2.ensures,
    high _ _ (omega arith) c.to_le_bytes-2.ensures,
    low _ _ c.to_le_bytes-3.ensures,
    high _ _ (omega arith) c.to_le_bytes-3.ensures,
  ),
  λ n. absurd (n (omega arith)),
)
