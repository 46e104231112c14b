-- `intel_hex::writing::put_check` meets its contract. Assumes nothing.
use Rattle.std.proofs.Common.{ℕ, List, get_or, refl, ap, arith}
use Rattle.intel_hex.proofs.TextLaws.{check-written}
use Rattle.intel_hex.proofs.writing.put_check.Goals as goal

pub returns : goal.returns
returns c =
    let e = c.to_be_bytes.ensures in
    check-written _ _ _ _ _ _ _ _ _ (ap (λ (l : List ℕ). get_or l 0 0) e) (ap (λ (l : List ℕ). get_or l 1 0) e) refl refl refl (omega arith) (omega arith) c.put_byte.ensures
