-- What the inner functions promise each other; no caller of `print` has to read it.
use Rattle.std.specs.Prelude.{ℕ}
use Rattle.schedule.specs.Meaning.{Schedule}
use Rattle.demands.specs.declared.RunAnswer.{RunAnswer}
use Rattle.demands.specs.declared.RunAnswer.TheVariants.{Refused, Finished, Faulted, Open}
use Rattle.demands.specs.Input.{entry_count}

-- how many log bytes a run has written
unfoldable pub lines_of : RunAnswer → Schedule → ℕ
lines_of (Refused n) s = 0
lines_of (Finished v units) s = entry_count s
lines_of (Faulted n t o) s = entry_count s
lines_of (Open units) s = entry_count s
