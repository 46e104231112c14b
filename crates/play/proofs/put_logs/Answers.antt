-- `play::put_logs` meets its contract. Assumes nothing.
use Rattle.std.proofs.Common.{◌≡◌, ◌+◌, ◌-◌, ◌∙◌, ap, arith, length, take, drop, length-drop, length-take-le}
use Rattle.play.proofs.Rowing.{zeros-on, last_on}
use Rattle.play.proofs.put_logs.Goals as goal

pub returns : goal.returns
returns c =
    let log = c.args.log.now in
    let many : c.args.at + c.args.again - c.args.at ≡ c.args.again = omega arith in
    let part : length (take (c.args.at + c.args.again - c.args.at) (drop c.args.at log)) ≡ c.args.again =
    ap (λ n. length (take n (drop c.args.at log))) many ∙ length-take-le c.args.again (drop c.args.at log) (omega (arith, length-drop c.args.at log)) in
    last_on _ _ _ _ _ (omega arith) (rw (c.fill.ensures.after (λ y e. e), part, many) (zeros-on _ _ _))
