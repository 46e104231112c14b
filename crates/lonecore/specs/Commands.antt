-- T-12: "the commands carried out" by the plain run. Document 01: "Units are the sum of the weights of commands carried out", so where each
-- command weighs 1 the units are their number. It is asked of a run that finishes, which also does so with these weights, for document 01's are
-- at least 1 (one that stops by 22 may go further). `NeverDry` is a second witness: so many steps are written.
use Rattle.std.specs.Prelude.{List, [], ◌∷◌, ℕ}
use Rattle.thread.specs.Job.{Job}
use Rattle.serial.specs.Serial.{Ended, done, stopped, serial_of}
use Rattle.demands.specs.Input.{Input, job_in}

-- of the commands 01 to 0E, each weighs 1
abbrev pub one_each : List ℕ
one_each = 0 ∷ 1 ∷ 1 ∷ 1 ∷ 1 ∷ 1 ∷ 1 ∷ 1 ∷ 1 ∷ 1 ∷ 1 ∷ 1 ∷ 1 ∷ 1 ∷ 1 ∷ []

-- the same job with these weights
abbrev pub counting_job : Job → Job
counting_job j = record { image = j.image; starts = j.starts; parameters = j.parameters; allowance = j.allowance; weights = one_each }

abbrev pub units_of : Ended → ℕ
units_of (done v m u) = u
units_of (stopped n m u) = u

abbrev pub commands_in : Input → ℕ
commands_in i = units_of (serial_of (counting_job (job_in i)) i.arguments i.memory)
