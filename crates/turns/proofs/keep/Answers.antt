-- `turns::keep` meets its contract. Assumes nothing.
use mathlib.Core.Path.{◌≡◌, sym, refl, ◌∙◌, subst}
use native.Mathlib.Omega.{arith}
use Prim.Native.Nat.{ℕ}
use lib.ListN.{replicate}
use Rattle.schedule.specs.Format.{bytes_of_entries}
use Rattle.turns.specs.Steps.{Puts}
use Rattle.turns.proofs.Keeping.{first, next_fits, one_more, last_fits, all-kept}
use Rattle.turns.proofs.keep.Goals as goal

pub loop-init : goal.loop-init
loop-init c = (refl, omega arith, first c.args.entry _ _)

pub put-end-requires : goal.put-end-requires
put-end-requires c = next_fits c.args.entry c.args.again c.args.log c.args.buffer.now c.args.at c.requires _ _ c.loop.invariant.0 _ c.loop.invariant.2 c.loop-test.true

pub loop-preserved : goal.loop-preserved
loop-preserved c =
    let put' = c.put-end in
    let loop' = c.loop in
    (put'.auto.buffer ∙ loop'.invariant.0, omega (arith, c.loop-test.true), one_more c.args.entry c.args.again c.args.log c.args.buffer.now c.args.at c.requires _ _ loop'.invariant.0 _ loop'.invariant.2 _ _ put'.ensures)

pub put-requires : goal.put-requires
put-requires c =
    let loop' = c.loop in
    let args' = c.args in
    let all : loop'.counter ≡ args'.again = omega (arith, loop'.invariant.1, c.loop-test.false) in
    last_fits c.args.entry c.args.again c.args.log c.args.buffer.now c.args.at c.requires _ _ loop'.invariant.0 (subst (λ (n : ℕ). Puts (bytes_of_entries (replicate n args'.entry)) args'.buffer.now args'.at loop'.end loop'.buffer) all loop'.invariant.2)
    (sym c.is_written.ensures ∙ c.if-not-is_written.false)

pub returns : goal.returns
returns c =
    let put' = c.put in
    let loop' = c.loop in
    let args' = c.args in
    let all : loop'.counter ≡ args'.again = omega (arith, loop'.invariant.1, c.loop-test.false) in
    all-kept c.args.entry c.args.again c.args.log c.args.buffer.now c.args.at c.requires _ _ loop'.invariant.0 (subst (λ (n : ℕ). Puts (bytes_of_entries (replicate n args'.entry)) args'.buffer.now args'.at loop'.end loop'.buffer) all loop'.invariant.2)
    (sym c.is_written.ensures ∙ c.if-not-is_written.false) _ _ put'.ensures
