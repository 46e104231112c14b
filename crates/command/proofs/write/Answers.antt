-- `command::write` meets its contract. Assumes nothing.
use Rattle.std.proofs.Common.{[], ◌∷◌, get_or, refl, arith}
use Rattle.command.specs.Command.{bytes_of_command}
use Rattle.command.proofs.Encoding.{put_written}
use Rattle.command.proofs.write.Goals as goal

pub returns-in-Set : goal.returns-in-Set
unfolding bytes_of_command
returns-in-Set c =
    put_written {bytes = 1 ∷ c.in-Set.d ∷ get_or c.to_le_bytes.result 0 0 ∷ get_or c.to_le_bytes.result 1 0 ∷ []} c.in-Set.is (omega arith) c.put.ensures.answer c.put.ensures.written
    (rw c.to_le_bytes.ensures refl)

pub returns-in-Add : goal.returns-in-Add
unfolding bytes_of_command
returns-in-Add c = put_written c.in-Add.is tt c.put-in-Add.ensures.answer c.put-in-Add.ensures.written refl

pub returns-in-Subtract : goal.returns-in-Subtract
unfolding bytes_of_command
returns-in-Subtract c = put_written c.in-Subtract.is tt c.put-in-Subtract.ensures.answer c.put-in-Subtract.ensures.written refl

pub returns-in-Load : goal.returns-in-Load
unfolding bytes_of_command
returns-in-Load c = put_written c.in-Load.is tt c.put-in-Load.ensures.answer c.put-in-Load.ensures.written refl

pub returns-in-Store : goal.returns-in-Store
unfolding bytes_of_command
returns-in-Store c = put_written c.in-Store.is tt c.put-in-Store.ensures.answer c.put-in-Store.ensures.written refl

pub returns-in-JumpIfZero : goal.returns-in-JumpIfZero
unfolding bytes_of_command
returns-in-JumpIfZero c =
    put_written {bytes = 6 ∷ c.in-JumpIfZero.a ∷ get_or c.to_le_bytes-in-JumpIfZero.result 0 0 ∷ get_or c.to_le_bytes-in-JumpIfZero.result 1 0 ∷ []} c.in-JumpIfZero.is (omega arith) c.put-in-JumpIfZero.ensures.answer c.put-in-JumpIfZero.ensures.written
    (rw c.to_le_bytes-in-JumpIfZero.ensures refl)

pub returns-in-Jump : goal.returns-in-Jump
unfolding bytes_of_command
returns-in-Jump c =
    put_written {bytes = 7 ∷ get_or c.to_le_bytes-in-Jump.result 0 0 ∷ get_or c.to_le_bytes-in-Jump.result 1 0 ∷ []} c.in-Jump.is (omega arith) c.put-in-Jump.ensures.answer c.put-in-Jump.ensures.written
    (rw c.to_le_bytes-in-Jump.ensures refl)

pub returns-in-Lfork : goal.returns-in-Lfork
unfolding bytes_of_command
returns-in-Lfork c = put_written c.in-Lfork.is tt c.put-in-Lfork.ensures.answer c.put-in-Lfork.ensures.written refl

pub returns-in-Fork : goal.returns-in-Fork
unfolding bytes_of_command
returns-in-Fork c = put_written c.in-Fork.is tt c.put-in-Fork.ensures.answer c.put-in-Fork.ensures.written refl

pub returns-in-Join : goal.returns-in-Join
unfolding bytes_of_command
returns-in-Join c = put_written c.in-Join.is tt c.put-in-Join.ensures.answer c.put-in-Join.ensures.written refl

pub returns-in-Suspend : goal.returns-in-Suspend
unfolding bytes_of_command
returns-in-Suspend c = put_written c.in-Suspend.is tt c.put-in-Suspend.ensures.answer c.put-in-Suspend.ensures.written refl

pub returns-in-Yield : goal.returns-in-Yield
unfolding bytes_of_command
returns-in-Yield c = put_written c.in-Yield.is tt c.put-in-Yield.ensures.answer c.put-in-Yield.ensures.written refl

pub returns-in-Return : goal.returns-in-Return
unfolding bytes_of_command
returns-in-Return c = put_written c.in-Return.is tt c.put-in-Return.ensures.answer c.put-in-Return.ensures.written refl

pub returns-in-Share : goal.returns-in-Share
unfolding bytes_of_command
returns-in-Share c = put_written c.in-Share.is tt c.put-in-Share.ensures.answer c.put-in-Share.ensures.written refl
