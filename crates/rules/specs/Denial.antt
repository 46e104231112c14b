-- The log byte of an entry, by why it is not accepted.
use Rattle.std.specs.Prelude.{ℕ, Result, Ok, Err}
use Rattle.thread.specs.Effect.{number_of_fault}
use Rattle.rules.specs.declared.Denial.{Denial}
use Rattle.rules.specs.declared.Denial.TheVariants.{Faults, NoCore, WrongCore, NothingReady, NotSuspended, NoSeed, Over, NoThread, NoStacklet, TooDear}

-- "9 to 12, 14 to 22", and 31 of T-04: the number of each case
abbrev pub number_of_denial : Denial → ℕ
number_of_denial (Faults fault) = number_of_fault fault
number_of_denial NoCore = 14
number_of_denial WrongCore = 15
number_of_denial NothingReady = 16
number_of_denial NotSuspended = 17
number_of_denial NoSeed = 18
number_of_denial Over = 19
number_of_denial NoThread = 20
number_of_denial NoStacklet = 21
number_of_denial TooDear = 22

-- "0 accepted", else that number
abbrev pub log_of : Result (Unit {0}) Denial → ℕ
log_of (Ok done) = 0
log_of (Err denial) = number_of_denial denial
