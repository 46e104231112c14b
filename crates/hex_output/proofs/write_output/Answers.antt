-- `hex_output::write_output` meets its contract. Assumes nothing.
use Rattle.hex_output.proofs.WritingLaws.{writes-text, writes-refused}
use Rattle.hex_output.proofs.write_output.Goals as goal

pub returns-in-Ok : goal.returns-in-Ok
returns-in-Ok c = writes-text c.in-Ok.ensures

pub returns-in-Err : goal.returns-in-Err
returns-in-Err c = writes-refused c.in-Err.ensures (rw (← c.number.ensures) c.put_refused.ensures)
