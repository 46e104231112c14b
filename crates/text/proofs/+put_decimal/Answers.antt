-- `text::put_decimal` meets its contract: a tenth's digits, and then the last. Assumes nothing.
use native.Mathlib.Omega.{arith}
use Prim.Native.Nat.{◌/◌}
use Rattle.text.proofs.Digits.{one-digit, last-digit, few-digits}
use Rattle.text.proofs.+put_decimal.Goals as goal

pub returns-then-n-lt10 : goal.returns-then-n-lt10
returns-then-n-lt10 t c = one-digit _ _ c.digit.ensures c.if-n-lt10.true c.put.ensures

pub put-requires-2 : goal.put-requires-2
put-requires-2 t c = omega (arith, c.put_decimal-next.ensures.position, few-digits 9 (c.args.n / 10) (omega arith))

pub returns : goal.returns
returns t c = last-digit _ _ c.digit-2.ensures c.if-n-lt10.false c.put_decimal-next.ensures c.put-2.ensures
