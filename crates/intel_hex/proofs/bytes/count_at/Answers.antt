-- `intel_hex::bytes::count_at` meets its contract. Assumes nothing.
use Rattle.std.proofs.Common.{◌+◌, sym, arith}
use Rattle.intel_hex.proofs.Standing.{sixteen}
use Rattle.intel_hex.proofs.bytes.count_at.Goals as goal

pub returns-then-text-from-eq48 : goal.returns-then-text-from-eq48
returns-then-text-from-eq48 c = (sym (sixteen c.args.text.now (c.args.from + 1) (c.args.from + 2) (omega arith) c.if-text-from-eq49.true c.if-text-from-eq48.true), omega arith)
