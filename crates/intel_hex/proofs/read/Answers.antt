-- `intel_hex::read` meets its contract. Assumes nothing.
use Rattle.std.proofs.Common.{sym, ◌∙◌, arith}
use Rattle.std.proofs.lemmas.Result.{err_from_is_err_and}
use Rattle.intel_hex.proofs.Answered.{passes, is-refused, no-byte-room, bytes_read}
use Rattle.intel_hex.proofs.read.Goals as goal

pub returns-in_err-n : goal.returns-in_err-n
returns-in_err-n c =
    let p = err_from_is_err_and c.from_residual.result c.from_residual.ensures.1 in
    rw (p.1, p.2) (is-refused _ _ _ (sym c.in_err-n.was ∙ c.scan.ensures))

pub returns-then-bytes-n : goal.returns-then-bytes-n
returns-then-bytes-n c = no-byte-room _ _ _ (sym c.in_ok-n.was ∙ c.scan.ensures) c.if-bytes-n.true

pub put_bytes-requires : goal.put_bytes-requires
put_bytes-requires c =
    let t = passes _ _ (sym c.in_ok-n.was ∙ c.scan.ensures) in
    (t.0, t.3, omega arith)

pub returns : goal.returns
returns c = bytes_read _ _ _ (sym c.in_ok-n.was ∙ c.scan.ensures) (omega arith) c.put_bytes.ensures
