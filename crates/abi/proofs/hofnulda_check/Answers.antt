-- `abi::hofnulda_check` meets its contract. Assumes nothing.
use mathlib.Core.Path.{◌∙◌, ap}
use Rattle.image.specs.Image.{number_in}
use Rattle.image.proofs.Answer.{number-same}
use Rattle.abi.proofs.hofnulda_check.Goals as goal

pub returns : goal.returns
returns c = c.image_number.ensures ∙ ap number_in c.check.ensures ∙ number-same _
