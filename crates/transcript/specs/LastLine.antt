-- The last line that is printed of a run.
use Rattle.std.specs.Prelude.{List, ◌++◌, ℕ}
use Rattle.demands.specs.declared.RunAnswer.{RunAnswer}
use Rattle.demands.specs.declared.RunAnswer.TheVariants.{Refused, Finished, Faulted, Open}
use Rattle.demands.specs.Input.{number_of_run_refusal}
use Rattle.text.specs.Text.{ascii, spaced}

-- "or alone `refused` number"
abbrev pub refused_line : ℕ → List ℕ
refused_line number = ascii "refused" ++ spaced number ++ ascii "\n"

-- "The last line is `finished` result units, `faulted` number thread offset .., `open` units, or alone `refused` number"
abbrev pub last_line : RunAnswer → List ℕ
last_line (Finished result units) = ascii "finished" ++ spaced result ++ spaced units ++ ascii "\n"
last_line (Faulted number thread offset) = ascii "faulted" ++ spaced number ++ spaced thread ++ spaced offset ++ ascii "\n"
last_line (Open units) = ascii "open" ++ spaced units ++ ascii "\n"
last_line (Refused why) = refused_line (number_of_run_refusal why)
