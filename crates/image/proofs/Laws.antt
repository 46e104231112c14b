-- What the machine and the serial run may rely on once an image is accepted. A thread's place is a routine and a position in its
-- code; it is good when a command starts there. Assumes nothing.
use borrow.Author.Tests.{leb-true}
use mathlib.Core.Bool.{true, false, ◌&&◌}
use mathlib.Core.List.{List}
use mathlib.Core.Path.{◌≡◌, sym, ◌∙◌, ap}
use Prim.Native.Nat.{ℕ, zero, suc, ◌+◌, ◌≤◌, ◌<◌}
use native.Mathlib.Decide.{ℕ_discrete}
use native.Mathlib.Omega.{arith}
use lib.Dec.{leb}
use lib.ListN.{length, get_or, drop, length-take, length-drop}
use lib.Seq.{get_or-take, get_or-drop}
use Rattle.std.specs.Prelude.{Ok}
use Rattle.command.specs.declared.Command.{Command}
use Rattle.command.specs.Command.{command_at}
use Rattle.command.proofs.Bools.{both}
use Rattle.command.proofs.RoundTrip.{stands, found_alike}
use Rattle.image.specs.Layout.{routine_count, slots_of, arguments_of, length_of, start_of, code_of}
use Rattle.image.specs.Code.{commands_of, is_start, ends, target_good, routine_verdict}
use Rattle.image.specs.Image.{in_range, row_good, routines_verdict}
use Rattle.image.proofs.Places.{code_inside, good-all}
use Rattle.image.proofs.Accepted.{Accepts}
use Rattle.image.proofs.Starts.{standing, first-start, both-accept}

-- a command of an accepted image, at position p of routine r
pub record Placed (s : List ℕ) (r p : ℕ) : Type 0 where
  pub command : Command
  pub width : ℕ
  -- it is read at its place in the image, and ends within it
  pub found : command_at s (start_of s r + p) ≡ Ok (command, width)
  pub some : 1 ≤ width
  pub inside : p + width ≤ length_of s r
  -- its slots, argument run and routine are in range
  pub range : in_range s (slots_of s r) command ≡ true
  -- its target, and what follows it, are commands' starts of the same routine
  pub target : target_good (is_start (commands_of (code_of s r))) command ≡ true
  pub next : ends command ≡ false → is_start (commands_of (code_of s r)) (p + width) ≡ true

-- of routines that are all accepted, each is
each-routine : (s : List ℕ) (r n k : ℕ) → k ≤ r → r < k + n → routines_verdict s n k ≡ Ok tt
    → routine_verdict (in_range s (slots_of s r)) (code_of s r) ≡ Ok tt
unfolding routines_verdict
each-routine s r zero k l m e = absurd (omega arith)
each-routine s r (suc n) k l m e =
    go (ℕ_discrete k r) (λ d. each-routine s r n (suc k) (omega arith) (omega arith) parts.1)
  where
    parts : (routine_verdict (in_range s (slots_of s k)) (code_of s k) ≡ Ok tt) × (routines_verdict s n (suc k) ≡ Ok tt)
    parts = both-accept (routine_verdict (in_range s (slots_of s k)) (code_of s k)) (routines_verdict s n (suc k)) e

    go : Dec (k ≡ r) → (¬ (k ≡ r) → routine_verdict (in_range s (slots_of s r)) (code_of s r) ≡ Ok tt)
        → routine_verdict (in_range s (slots_of s r)) (code_of s r) ≡ Ok tt
    go (yes d) f = rw (← d) parts.0
    go (no d) f = f d

module _ (s : List ℕ) (a : Accepts s) (r : ℕ) (h : r < routine_count s) where
  code-ends : start_of s r + length_of s r ≤ length s
  code-ends = omega (arith, code_inside s r (routine_count s) h, a.total)

  pub row-good : row_good s r ≡ true
  row-good = good-all s r (routine_count s) h a.rows

  slots-good : ((leb 1 (slots_of s r) && leb (slots_of s r) 16) ≡ true) × ((leb (arguments_of s r) (slots_of s r) && leb 1 (length_of s r)) ≡ true)
  slots-good = both (leb 1 (slots_of s r) && leb (slots_of s r) 16) (leb (arguments_of s r) (slots_of s r) && leb 1 (length_of s r)) row-good

  pub slots-some : 1 ≤ slots_of s r
  slots-some = leb-true 1 (slots_of s r) (both (leb 1 (slots_of s r)) (leb (slots_of s r) 16) slots-good.0).0

  pub slots-most : slots_of s r ≤ 16
  slots-most = leb-true (slots_of s r) 16 (both (leb 1 (slots_of s r)) (leb (slots_of s r) 16) slots-good.0).1

  pub arguments-most : arguments_of s r ≤ slots_of s r
  arguments-most = leb-true (arguments_of s r) (slots_of s r) (both (leb (arguments_of s r) (slots_of s r)) (leb 1 (length_of s r)) slots-good.1).0

  pub length_some : 1 ≤ length_of s r
  length_some = leb-true 1 (length_of s r) (both (leb (arguments_of s r) (slots_of s r)) (leb 1 (length_of s r)) slots-good.1).1

  length-code : length (code_of s r) ≡ length_of s r
  length-code = let e = code-ends in simp (length-take, length-drop) (omega arith)

  -- each routine's verdict is accepted
  pub routine-good : routine_verdict (in_range s (slots_of s r)) (code_of s r) ≡ Ok tt
  routine-good = each-routine s r (routine_count s) 0 (omega arith) (omega arith) a.routines

  -- a routine's first position is a command's start
  pub start-good : is_start (commands_of (code_of s r)) 0 ≡ true
  start-good = first-start (in_range s (slots_of s r)) (code_of s r) routine-good (omega (arith, length-code, length_some))

  -- at a command's start there is a command
  pub placed : (p : ℕ) → is_start (commands_of (code_of s r)) p ≡ true → Placed s r p
  placed p st =
      let q = standing (in_range s (slots_of s r)) (code_of s r) routine-good p st in
      let f = stands (code_of s r) p q.command q.width q.found in
      record {
        command = q.command;
        width = q.width;
        found = found_alike (code_of s r) s p (start_of s r + p) q.width q.command q.found
            (omega (arith, f.whole, length-code, code-ends)) (λ i l. same i (omega (arith, f.whole, length-code)));
        some = f.some;
        inside = omega (arith, f.whole, length-code);
        range = q.range;
        target = q.target;
        next = q.next;
      }
    where
      same : (i : ℕ) → p + i < length_of s r → get_or s (start_of s r + p + i) 0 ≡ get_or (code_of s r) (p + i) 0
      same i l =
          let e : start_of s r + p + i ≡ start_of s r + (p + i) = omega arith in
          sym (get_or-take (length_of s r) (drop (start_of s r) s) (p + i) 0 l ∙ get_or-drop (start_of s r) s (p + i) 0 ∙ ap (λ k. get_or s k 0) (sym e))
