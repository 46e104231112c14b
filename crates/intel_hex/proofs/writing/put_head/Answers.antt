-- `intel_hex::writing::put_head` meets its contract. Assumes nothing.
use Rattle.std.proofs.Common.{ℕ, List, get_or, ap}
use Rattle.intel_hex.proofs.TextLaws.{head-written}
use Rattle.intel_hex.proofs.writing.put_head.Goals as goal

pub returns : goal.returns
returns c =
    let e = c.to_be_bytes.ensures in
    head-written _ _ _ _ (ap (λ (l : List ℕ). get_or l 0 0) e) (ap (λ (l : List ℕ). get_or l 1 0) e) c.put_byte.ensures c.put_byte-2.ensures c.put_byte-3.ensures c.put_byte-4.ensures
