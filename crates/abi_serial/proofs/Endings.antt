-- The memory words that an ending has.
use mathlib.Core.List.{List}
use mathlib.Core.Path.{◌≡◌, refl}
use Prim.Native.Nat.{ℕ}
use Rattle.std.specs.Prelude.{Result, Ok, Err}
use Rattle.serial.specs.declared.answer.Finished.{Finished}
use Rattle.serial.specs.declared.answer.Stopped.{Stopped}
use Rattle.serial.specs.Serial.{ended_by}
use Rattle.abi_serial.specs.Words.{serial_memory}

pub memory-of : (answer : Result Finished Stopped) (memory : List ℕ) → memory ≡ serial_memory (ended_by answer memory)
memory-of (Ok a) memory = refl
memory-of (Err a) memory = refl
