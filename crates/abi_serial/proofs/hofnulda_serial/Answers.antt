-- `abi_serial::hofnulda_serial` meets its contract. Assumes nothing.
use mathlib.Core.Path.{◌∙◌, ap}
use Rattle.abi_serial.specs.Words.{serial_words, serial_memory}
use Rattle.abi_serial.proofs.Endings.{memory-of}
use Rattle.abi_serial.proofs.hofnulda_serial.Goals as goal

pub returns-clause-answer_after : goal.returns-clause-answer_after
returns-clause-answer_after c = c.serial_words.ensures _ ∙ ap serial_words c.serial-ended.ensures

pub returns-clause-memory_after : goal.returns-clause-memory_after
returns-clause-memory_after c = memory-of c.serial-ended.result _ ∙ ap serial_memory c.serial-ended.ensures
