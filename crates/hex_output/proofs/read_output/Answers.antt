-- `hex_output::read_output` meets its contract. Assumes nothing.
use Rattle.hex_output.proofs.ReadingLaws.{reads_bytes, reads-refused}
use Rattle.hex_output.proofs.read_output.Goals as goal

pub returns-in-Ok : goal.returns-in-Ok
returns-in-Ok c = reads_bytes c.in-Ok.ensures

pub returns-in-Err : goal.returns-in-Err
returns-in-Err c = reads-refused c.in-Err.ensures (rw (← c.number.ensures) c.put_refused.ensures)
