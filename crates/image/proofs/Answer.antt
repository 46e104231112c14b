-- What the reader's answer says of an image's verdict and its program. Assumes nothing.
use mathlib.Core.List.{List}
use mathlib.Core.Path.{◌≡◌, refl, sym, ◌∙◌, ap}
use Prim.Native.Nat.{ℕ}
use native.Mathlib.Omega.{arith}
use Rattle.std.specs.Prelude.{Result, Ok, Err}
use Rattle.image.specs.declared.Refusal.{Refusal}
use Rattle.image.specs.declared.Program.{Program}
use Rattle.image.specs.Layout.{program_of}
use Rattle.image.specs.Code.{Verdict}
use Rattle.image.specs.Image.{image_verdict, image_answer, program_for, number_in}

module _ (s : List ℕ) where
  -- the answer's number is the verdict's
  pub number-same : number_in (image_answer s) ≡ number_in (image_verdict s)
  unfolding image_answer
  number-same = go (image_verdict s)
    where
      go : (v : Verdict) → number_in (program_for v s) ≡ number_in v
      go (Ok passed) = refl
      go (Err n) = refl

  -- the answer is a program: the image's verdict and its program
  pub answer-accepts : (p : Program) → image_answer s ≡ Ok p → (image_verdict s ≡ Ok tt) × (p ≡ program_of s)
  unfolding image_answer
  answer-accepts p e = go (image_verdict s) e
    where
      go : (v : Verdict) → program_for v s ≡ Ok p → (v ≡ Ok tt) × (p ≡ program_of s)
      go (Ok passed) h = (refl, cc)
      go (Err n) h = let z : ◌≡◌ {A = ℕ} 0 1 = cc in absurd (omega arith)

  -- the answer is a refusal: so is the image's verdict
  pub answer-refuses : (n : Refusal) → image_answer s ≡ Err n → image_verdict s ≡ Err n
  unfolding image_answer
  answer-refuses n e = go (image_verdict s) e
    where
      go : (v : Verdict) → program_for v s ≡ Err n → v ≡ Err n
      go (Ok passed) h = let z : ◌≡◌ {A = ℕ} 0 1 = cc in absurd (omega arith)
      go (Err m) h = cc
