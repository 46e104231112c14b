-- `text::put_spaced` meets its contract. Assumes nothing.
use native.Mathlib.Omega.{arith}
use Rattle.text.proofs.Writing.{followed}
use Rattle.text.proofs.LineLaws.{few-spaced}
use Rattle.text.proofs.put_spaced.Goals as goal

pub returns : goal.returns
returns c = let p = followed c.put-next.ensures c.put_decimal.ensures in (p, omega (arith, p.position, few-spaced 9 c.args.n (omega arith)))
