-- A serial run's answer as words of an array.
use Rattle.std.specs.Prelude.{List, [], ◌∷◌, ℕ}
use Rattle.serial.specs.Serial.{Ended, done, stopped}

-- 1, result and units of a serial run that finished; else 0, the number that it ended by and the units so far
abbrev pub serial_words : Ended → List ℕ
serial_words (done result memory units) = 1 ∷ result ∷ units ∷ []
serial_words (stopped number memory units) = 0 ∷ number ∷ units ∷ []

-- the memory words as a serial run leaves them
abbrev pub serial_memory : Ended → List ℕ
serial_memory (done result memory units) = memory
serial_memory (stopped number memory units) = memory
