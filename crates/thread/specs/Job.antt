-- A job: what stays the same in a run of the machine and in a serial run; and where a routine's commands stand in its image.
use Rattle.std.specs.Prelude.{cond, List, ◌≡◌, ℕ, ◌+◌, ◌-◌, ◌≤◌, ◌<◌, ltb, get_or, length, Ok}
use Rattle.command.specs.Command.{width_of}
use Rattle.command.specs.Weight.{standard_weights, weight_of}
use Rattle.image.specs.Layout.{routine_count, start_of}
use Rattle.image.specs.Image.{image_verdict}

-- the image, where its routines' codes start, the parameter words, the allowance and the weights
pub record Job : Type 0 where
  pub image : List ℕ
  pub starts : List ℕ
  pub parameters : List ℕ
  pub allowance : ℕ
  pub weights : List ℕ

abbrev pub job_of : List ℕ → List ℕ → List ℕ → ℕ → Job
job_of image starts parameters allowance = record {
  image = image;
  starts = starts;
  parameters = parameters;
  allowance = allowance;
  weights = standard_weights;
}

-- the first byte, in the image, of the command at a position of a routine
abbrev pub offset_at : Job → ℕ → ℕ → ℕ
offset_at j r p = get_or j.starts r 0 + p

abbrev pub byte_at : Job → ℕ → ℕ → ℕ
byte_at j r p = get_or j.image (offset_at j r p) 0

-- the word at an address, with this memory: "Addresses 0 to 31 are parameter words, lent for reading; 32 to 1,023 are 992 lent memory words"
abbrev pub word_in : List ℕ → List ℕ → ℕ → ℕ
word_in parameters memory a = cond (ltb a 32) (get_or parameters a 0) (get_or memory (a - 32) 0)

abbrev pub word_at : Job → List ℕ → ℕ → ℕ
word_at j memory a = word_in j.parameters memory a

-- an accepted image, with its codes' starts, 32 parameter words and a weight for each command
pub record GoodJob (j : Job) : Type 0 where
  pub image : image_verdict j.image ≡ Ok tt
  pub bytes : (i : ℕ) → get_or j.image i 0 < 256
  pub starts : (r : ℕ) → r < routine_count j.image → get_or j.starts r 0 ≡ start_of j.image r
  pub parameters : length j.parameters ≡ 32
  pub weighs : (byte : ℕ) → 1 ≤ width_of byte → 1 ≤ weight_of j.weights byte
