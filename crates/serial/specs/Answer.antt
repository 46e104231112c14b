-- Why a serial run ends by a number, and document 01's number for each case.
use Rattle.std.specs.Prelude.{ℕ}
use Rattle.image.specs.declared.Refusal.{Refusal}
use Rattle.image.specs.Image.{number_of_refusal}
use Rattle.thread.specs.Effect.{number_of_fault}
use Rattle.serial.specs.declared.answer.Stop.{Stop}
use Rattle.serial.specs.declared.answer.Stopped.{Stopped}
use Rattle.serial.specs.declared.answer.Stop.TheVariants.{Image, ArgumentCount, BufferLength, Allowance, Depth, Fault}

-- "Plain run: image, 24, 25"; "22"; "A fork from 32 deep, the root being 1, meets 26"; and a fault's own number
abbrev pub number_of_stop : Stop → ℕ
number_of_stop (Image refusal) = number_of_refusal refusal
number_of_stop ArgumentCount = 24
number_of_stop BufferLength = 25
number_of_stop Allowance = 22
number_of_stop Depth = 26
number_of_stop (Fault fault) = number_of_fault fault

-- "Plain run: image" first: nothing has been used
abbrev pub stopped_by_image : Refusal → Stopped
stopped_by_image refusal = record { by = Image refusal; units = 0 }
