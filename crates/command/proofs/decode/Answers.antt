-- `command::decode` meets its contract. Assumes nothing.
use borrow.Author.Tests.{ne_eqb}
use borrow.Author.Rules.{rules}
use mathlib.Core.Path.{refl}
use Rattle.command.specs.Command.{decoded}
use Rattle.command.proofs.decode.Goals as goal

pub returns-in-1 : goal.returns-in-1
unfolding decoded
returns-in-1 c = rw (c.in-1.is, c.from_le_bytes.ensures) refl

pub returns-in-2 : goal.returns-in-2
unfolding decoded
returns-in-2 c = rw c.in-2.is

pub returns-in-3 : goal.returns-in-3
unfolding decoded
returns-in-3 c = rw c.in-3.is

pub returns-in-4 : goal.returns-in-4
unfolding decoded
returns-in-4 c = rw c.in-4.is

pub returns-in-5 : goal.returns-in-5
unfolding decoded
returns-in-5 c = rw c.in-5.is

pub returns-in-6 : goal.returns-in-6
unfolding decoded
returns-in-6 c = rw (c.in-6.is, c.from_le_bytes-in-6.ensures) refl

pub returns-in-7 : goal.returns-in-7
unfolding decoded
returns-in-7 c = rw (c.in-7.is, c.from_le_bytes-in-7.ensures) refl

pub returns-in-8 : goal.returns-in-8
unfolding decoded
returns-in-8 c = rw c.in-8.is

pub returns-in-9 : goal.returns-in-9
unfolding decoded
returns-in-9 c = rw c.in-9.is

pub returns-in-10 : goal.returns-in-10
unfolding decoded
returns-in-10 c = rw c.in-10.is

pub returns-in-11 : goal.returns-in-11
unfolding decoded
returns-in-11 c = rw c.in-11.is

pub returns-in-12 : goal.returns-in-12
unfolding decoded
returns-in-12 c = rw c.in-12.is

pub returns-in-13 : goal.returns-in-13
unfolding decoded
returns-in-13 c = rw c.in-13.is

pub returns-in_default : goal.returns-in_default
unfolding decoded
returns-in_default c =
    simp (
      ne_eqb c.args.byte 1 (search rules),
      ne_eqb c.args.byte 2 (search rules),
      ne_eqb c.args.byte 3 (search rules),
      ne_eqb c.args.byte 4 (search rules),
      ne_eqb c.args.byte 5 (search rules),
      ne_eqb c.args.byte 6 (search rules),
      ne_eqb c.args.byte 7 (search rules),
      ne_eqb c.args.byte 8 (search rules),
      ne_eqb c.args.byte 9 (search rules),
      ne_eqb c.args.byte 10 (search rules),
      ne_eqb c.args.byte 11 (search rules),
      ne_eqb c.args.byte 12 (search rules),
      ne_eqb c.args.byte 13 (search rules),
    )
