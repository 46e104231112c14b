-- `tables::frames::fits` meets its contract. Assumes nothing.
use Rattle.tables.proofs.Changes.{read}
use Rattle.stacklets.specs.Tops.{fits_on}
use Rattle.std.proofs.Common.{◌%◌, mod-lt, arith, lt-ltb}
use Rattle.tables.proofs.frames.fits.Goals as goal

pub returns : goal.returns
unfolding fits_on
returns c =
    let args' = c.args in
    read args'.tables.now _ _ _ c.if-tables-ne-SIZE.false (λ words memory. rw (c.top_at.ensures.means c.if-tables-ne-SIZE.false words memory, lt-ltb (args'.x % 16) 16 (mod-lt _ (omega arith))))
