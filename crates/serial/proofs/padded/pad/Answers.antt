-- `serial::padded::pad` meets its contract. Assumes nothing.
use Prim.Native.Nat.{ℕ, ◌-◌}
use lib.ListN.{length}
use Rattle.std.proofs.lemmas.List.{drop-replicate}
use Rattle.serial.proofs.Zeros.{with_zeros}
use Rattle.serial.proofs.padded.pad.Goals as goal

pub returns : goal.returns
returns c = rw (c.copy_from_slice.ensures.after, drop-replicate {X = ℕ} (length c.args.image.now) 4104 0) (with_zeros c.args.image.now (4104 - length c.args.image.now))
