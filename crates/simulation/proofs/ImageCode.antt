-- An accepted image gives the theory's routines: the command at a routine's position is the one that stands there in the image. Where no
-- command starts, which no thread comes to, a join is read. Assumes nothing.
use mathlib.Core.Bool.{Bool, true, false, cond}
use mathlib.Core.List.{List}
use mathlib.Core.Path.{◌≡◌, refl}
use Prim.Native.Nat.{ℕ, ◌+◌, ◌≤◌, ◌<◌}
use native.Mathlib.Omega.{arith}
use lib.Dec.{ltb}
use lib.ListN.{get_or}
use borrow.Author.Tests.{ltb-true, lt-ltb}
use Rattle.std.specs.Prelude.{Ok}
use Rattle.command.specs.declared.Command.TheVariants.{Join}
use Rattle.command.specs.Command.{decoded_at, width_of}
use Rattle.command.specs.Weight.{weight_of}
use Rattle.command.proofs.RoundTrip.{stands}
use Rattle.command.proofs.Bools.{both}
use Rattle.image.specs.Layout.{routine_count, slots_of, arguments_of, start_of, code_of}
use Rattle.image.specs.Code.{commands_of, is_start}
use Rattle.image.specs.Image.{image_verdict}
use Rattle.image.proofs.Accepted.{Accepts, accepted}
use Rattle.image.proofs.Laws.{placed, slots-most}
use Rattle.thread.proofs.Routines.{Code, InRange}
use Rattle.met.proofs.Operands.{InFrame, in_frame, in-range}
unfoldable pub use Rattle.simulation.proofs.Fetched.{fetch_of, weight_at}
pub use Rattle.simulation.proofs.Fetched.{is_command, first_byte}

pub is-command : (image : List ℕ) (r p : ℕ) → r < routine_count image → is_start (commands_of (code_of image r)) p ≡ true → is_command image r p ≡ true
is-command image r p h st = rw (lt-ltb r (routine_count image) h) st

pub fetch-is : (image : List ℕ) (r p : ℕ) → is_command image r p ≡ true → fetch_of image r p ≡ decoded_at image (start_of image r + p)
unfolding fetch_of
fetch-is image r p h = rw h

pub weight_is : (image weights : List ℕ) (r p : ℕ) → is_command image r p ≡ true → weight_at image weights r p ≡ weight_of weights (first_byte image r p)
unfolding weight_at
weight_is image weights r p h = rw h

-- what an accepted image says of a command
pub record Stood (image : List ℕ) (r p : ℕ) : Type 0 where
  -- its operands are in range
  pub operands : InFrame image (slots_of image r) (decoded_at image (start_of image r + p))
  pub few : slots_of image r ≤ 16
  -- and it has bytes
  pub wide : 1 ≤ width_of (first_byte image r p)

module _ (image : List ℕ) (verdict : image_verdict image ≡ Ok tt) where
  pub stood : (r p : ℕ) → r < routine_count image → is_start (commands_of (code_of image r)) p ≡ true → Stood image r p
  stood r p h st =
      let accepts : Accepts image = accepted image verdict in
      let q = placed image accepts r h p st in
      let f = stands image (start_of image r + p) q.command q.width q.found in
      record {
        operands = in_frame image (slots_of image r) (decoded_at image (start_of image r + p)) (rw f.is at q.range);
        few = slots-most image accepts r h;
        wide = rw f.width at q.some;
      }

  stood-by : (r p : ℕ) → is_command image r p ≡ true → Stood image r p
  stood-by r p h =
      let q = both (ltb r (routine_count image)) (is_start (commands_of (code_of image r)) p) h in
      stood r p (ltb-true r (routine_count image) q.0) q.1

  pub fetch-in-range : (r p : ℕ) → InRange (fetch_of image r p)
  unfolding fetch_of
  fetch-in-range r p = go (is_command image r p) refl
    where
      go : (b : Bool) → is_command image r p ≡ b → InRange (cond b (decoded_at image (start_of image r + p)) Join)
      go true h =
          let q = stood-by r p h in
          in-range image (slots_of image r) (decoded_at image (start_of image r + p)) q.few q.operands
      go false h = tt

  -- with the parameter words and a weight for each command
  module _ (parameters weights : List ℕ) (weighs : (byte : ℕ) → 1 ≤ width_of byte → 1 ≤ weight_of weights byte) where
    pub fetch-weighs : (r p : ℕ) → 1 ≤ weight_at image weights r p
    unfolding weight_at
    fetch-weighs r p = go (is_command image r p) refl
      where
        go : (b : Bool) → is_command image r p ≡ b → 1 ≤ cond b (weight_of weights (first_byte image r p)) 1
        go true h = weighs (first_byte image r p) (stood-by r p h).wide
        go false h = omega arith

    -- the routines of the image
    abbrev pub image_code : Code
    image_code = record {
      fetch = fetch_of image;
      next = λ r p. p + width_of (first_byte image r p);
      weight = weight_at image weights;
      arguments = arguments_of image;
      params = λ a. get_or parameters a 0;
      in-range = fetch-in-range;
      weighs = fetch-weighs;
    }
