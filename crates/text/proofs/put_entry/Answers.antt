-- `text::put_entry` meets its contract. Assumes nothing.
use native.Mathlib.Omega.{arith}
use Rattle.text.proofs.Digits.{few-digits}
use Rattle.text.proofs.LineLaws.{written_entry}
use Rattle.text.proofs.put_entry.Goals as goal

pub put_spaced-b-requires : goal.put_spaced-b-requires
put_spaced-b-requires c = omega (arith, c.put_decimal-a.ensures.position, few-digits 4 c.args.number (omega arith))

pub put-requires : goal.put-requires
put-requires c = omega (arith, c.put_decimal-a.ensures.position, few-digits 4 c.args.number (omega arith))

pub returns : goal.returns
returns c = written_entry _ _ (omega arith) (omega arith) c.from.ensures c.put_decimal-a.ensures c.put_spaced-b.ensures.0 c.put.ensures
