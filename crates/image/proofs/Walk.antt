-- The pass over a code, turn by turn: what is left of the code gives what the whole gives. Assumes nothing.
use borrow.Author.Tests.{le-leb, lt-leb, eq-eqb, ne_eqb, eqb-true}
use mathlib.Core.Bool.{Bool, true, false, ◌&&◌, ◌||◌, or-false, or-true}
use mathlib.Core.List.{List, []}
use mathlib.Core.Path.{◌≡◌, refl, sym, ◌∙◌, ap}
use Prim.Native.Nat.{ℕ, zero, suc, ◌+◌, ◌≤◌, ◌<◌}
use native.Mathlib.Decide.{ℕ_discrete}
use native.Mathlib.Omega.{arith}
use lib.Dec.{eqb}
use lib.ListN.{length, get_or, set, length-set}
use lib.Seq.{get_or-set_same, get_or-set_other}
use Rattle.std.specs.Prelude.{Result, Ok, Err}
use Rattle.command.specs.declared.Command.{Command}
use Rattle.command.specs.declared.CommandError.{CommandError}
use Rattle.command.specs.declared.CommandError.TheVariants.{Unknown, CutOff}
use Rattle.command.specs.Command.{command_at}
use Rattle.command.proofs.Bools.{both}
use Rattle.command.proofs.RoundTrip.{stands, at-end}
use Rattle.image.specs.declared.Refusal.{Refusal}
use Rattle.image.specs.Code.{commands_from, commands_of, verdict_from, last_ends, ends, is_start, target_good, targets_good}
use Rattle.image.specs.Marks.{marked, may_end, Blank, Awaited, Inside, MarksAsked, WalkPassed}
use Rattle.image.proofs.Asking.{never}

accepted-at-end : (ok : Command → Bool) (code : List ℕ) (left at : ℕ) → length code ≤ at → Ok tt ≡ verdict_from ok code left at
unfolding verdict_from
accepted-at-end ok code zero at h = refl
accepted-at-end ok code (suc left) at h = rw (le-leb (length code) at h)

-- the pass has come to `at`, with at most `left` commands to go
pub record Going (ok : Command → Bool) (code marks : List ℕ) (at : ℕ) (last inside : Bool) (left : ℕ) : Type 0 where
  pub enough : length code ≤ at + left
  pub verdict : verdict_from ok code left at ≡ verdict_from ok code (length code) 0
  pub end : last_ends last (commands_from code left at) ≡ last_ends false (commands_of code)
  pub starts : (t : ℕ) → (marked marks t || is_start (commands_from code left at) t) ≡ is_start (commands_of code) t
  -- the targets are all good just where those that were asked for are, and those of the commands to go
  pub put : targets_good (is_start (commands_of code)) (commands_of code) ≡ true
      → (inside ≡ true) × Awaited (is_start (commands_of code)) marks × (targets_good (is_start (commands_of code)) (commands_from code left at) ≡ true)
  pub back : inside ≡ true → Awaited (is_start (commands_of code)) marks → targets_good (is_start (commands_of code)) (commands_from code left at) ≡ true
      → targets_good (is_start (commands_of code)) (commands_of code) ≡ true

pub record Far (ok : Command → Bool) (code marks : List ℕ) (at : ℕ) (last inside : Bool) : Type 0 where
  pub left : ℕ
  pub going : Going ok code marks at last inside left

-- a command found at `at`, and the commands behind it
module _ (code : List ℕ) (left at n : ℕ) (c : Command) (found : command_at code at ≡ Ok (c, n)) where
  verdict-found : (ok : Command → Bool) → at < length code → ok c ≡ true → verdict_from ok code (suc left) at ≡ verdict_from ok code left (at + n)
  unfolding verdict_from
  verdict-found ok h fine = rw (lt-leb (length code) at h, found, fine)

  pub last_found : (last : Bool) → last_ends last (commands_from code (suc left) at) ≡ last_ends (ends c) (commands_from code left (at + n))
  unfolding commands_from last_ends
  last_found last = rw found

  pub start-found : (t : ℕ) → is_start (commands_from code (suc left) at) t ≡ (eqb at t || is_start (commands_from code left (at + n)) t)
  unfolding commands_from is_start
  start-found t = rw found

  pub targets-found : (start : ℕ → Bool)
      → targets_good start (commands_from code (suc left) at) ≡ (target_good start c && targets_good start (commands_from code left (at + n)))
  unfolding commands_from targets_good
  targets-found start = rw found

-- where no command is found, none follows
pub commands-end : (code : List ℕ) (left at : ℕ) → command_at code at ≡ Err CutOff → commands_from code left at ≡ []
unfolding commands_from
commands-end code zero at e = refl
commands-end code (suc left) at e = rw e

-- a start is inside the code
start-within : (code : List ℕ) (left at t : ℕ) → is_start (commands_from code left at) t ≡ true → t < length code
unfolding commands_from is_start
start-within code zero at t s = never s
start-within code (suc left) at t s = go (command_at code at) refl (λ n. start-within code left (at + n) t)
  where
    go : (r : Result (Command × ℕ) CommandError) → command_at code at ≡ r → ((n : ℕ) → is_start (commands_from code left (at + n)) t ≡ true → t < length code) → t < length code
    go (Ok (c, n)) f more = by (eqb at t) refl (sym (start-found code left at n c f t) ∙ s)
      where
        by : (b : Bool) → eqb at t ≡ b → (b || is_start (commands_from code left (at + n)) t) ≡ true → t < length code
        by true e h = let w = stands code at c n f in omega (arith, eqb-true at t e)
        by false e h = more n h
    go (Err Unknown) f more = never (rw f at s)
    go (Err CutOff) f more = never (rw f at s)

-- a mark more, at `at`
mark : (marks : List ℕ) (at t : ℕ) (b : Bool) → at < length marks → (marked (set marks at 1) t || b) ≡ (marked marks t || (eqb at t || b))
unfolding marked
mark marks at t b k = go (ℕ_discrete at t)
  where
    go : Dec (at ≡ t) → (marked (set marks at 1) t || b) ≡ (marked marks t || (eqb at t || b))
    go (yes e) = rw (← e, get_or-set_same marks at 1 0 k, eq-eqb at at refl) (sym (or-true (eqb (get_or marks at 0) 1)))
    go (no n) = rw (get_or-set_other marks at t 1 0 (λ e. n (sym e)), ne_eqb at t n)

pub starts-out : (ok : Command → Bool) (code marks : List ℕ) → Blank marks → Far ok code marks 0 false true
unfolding commands_of marked
starts-out ok code marks blank = record {
  left = length code;
  going = record {
    enough = omega arith;
    verdict = refl;
    end = refl;
    starts = λ t. rw (blank t);
    put = λ g. (refl, λ t two. absurd (omega (arith, blank t)), g);
    back = λ e a g. g;
  };
}

-- a start's own mark changes nothing in what is awaited
module _ (start : ℕ → Bool) (marks : List ℕ) (at : ℕ) (here : start at ≡ true) where
  awaited-after : Awaited start marks → Awaited start (set marks at 1)
  awaited-after a t two = go (ℕ_discrete t at)
    where
      go : Dec (t ≡ at) → start t ≡ true
      go (yes e) = rw e here
      go (no n) = a t (sym (get_or-set_other marks at t 1 0 n) ∙ two)

  awaited-before : Awaited start (set marks at 1) → Awaited start marks
  awaited-before a t two = go (ℕ_discrete t at)
    where
      go : Dec (t ≡ at) → start t ≡ true
      go (yes e) = rw e here
      go (no n) = a t (get_or-set_other marks at t 1 0 n ∙ two)

-- whether each target so far is inside, after one more was asked for
module _ (asked inside later : Bool) where
  pub falls : asked ≡ false → later ≡ false → later ≡ (asked && inside)
  falls h e = e ∙ rw h

  pub stays : asked ≡ true → later ≡ inside → later ≡ (asked && inside)
  stays h e = e ∙ rw h

-- the command found here is in range; it is marked, and its target asked for
module _ (ok : Command → Bool) (code marks after : List ℕ) (at n : ℕ) (c : Command) (last end inside asked later : Bool) (room : length code ≡ length marks)
    (h : at < length code) (found : command_at code at ≡ Ok (c, n)) (fine : ok c ≡ true) (ask : MarksAsked (λ start. target_good start c) (set marks at 1) after asked)
    (may : end ≡ ends c) (is : later ≡ (asked && inside)) where
  module _ (left : ℕ) (f : Going ok code marks at last inside (suc left)) where
    starts-marked : (t : ℕ) → (marked (set marks at 1) t || is_start (commands_from code left (at + n)) t) ≡ is_start (commands_of code) t
    starts-marked t =
        mark marks at t (is_start (commands_from code left (at + n)) t) (omega arith)
        ∙ ap (λ b. marked marks t || b) (sym (start-found code left at n c found t)) ∙ f.starts t

    here : is_start (commands_of code) at ≡ true
    here = sym (f.starts at) ∙ rw (start-found code left at n c found at, eq-eqb at at refl) (or-true (marked marks at))

    starts-inside : Inside (is_start (commands_of code)) (set marks at 1)
    unfolding commands_of
    starts-inside = record {
      met = λ t m. sym (starts-marked t) ∙ rw m;
      within = λ t s. omega (arith, start-within code (length code) 0 t s, length-set marks at 1);
    }

    next : Going ok code after (at + n) end later left
    next = record {
      enough = omega (arith, (stands code at c n found).some, f.enough);
      verdict = sym (verdict-found code left at n c found ok h fine) ∙ f.verdict;
      end = rw may (sym (last_found code left at n c found last) ∙ f.end);
      starts = λ t. ap (λ b. b || is_start (commands_from code left (at + n)) t) (ask.kept t) ∙ starts-marked t;
      put = λ g.
          let p = f.put g in
          let q = both _ _ (sym (targets-found code left at n c found (is_start (commands_of code))) ∙ p.2) in
          let r = ask.put (is_start (commands_of code)) starts-inside (awaited-after _ marks at here p.1) q.0 in
          (is ∙ rw (r.0, p.0), r.1, q.1);
      back = λ e a g.
          let p = both asked inside (sym is ∙ e) in
          let r = ask.back (is_start (commands_of code)) starts-inside p.0 a in
          f.back p.1 (awaited-before _ marks at here r.0) (targets-found code left at n c found (is_start (commands_of code)) ∙ rw (r.1, g));
    }

  pub goes_on : Far ok code marks at last inside → Far ok code after (at + n) end later
  goes_on f = go f.left f.going
    where
      go : (left : ℕ) → Going ok code marks at last inside left → Far ok code after (at + n) end later
      go zero g = absurd (omega (arith, g.enough))
      go (suc left) g = record { left = left; going = next left g }

module _ (ok : Command → Bool) (code marks : List ℕ) (at : ℕ) (last inside : Bool) (f : Far ok code marks at last inside) where
  -- a command that is refused
  pub refuses : (n : Refusal) → ((left : ℕ) → verdict_from ok code (suc left) at ≡ Err n) → at < length code → verdict_from ok code (length code) 0 ≡ Err n
  refuses n by h = go f.left f.going.enough f.going.verdict
    where
      go : (left : ℕ) → length code ≤ at + left → verdict_from ok code left at ≡ verdict_from ok code (length code) 0 → verdict_from ok code (length code) 0 ≡ Err n
      go zero e w = absurd (omega arith)
      go (suc left) e w = sym w ∙ by left

  pub finishes : (byte : ℕ) → last ≡ may_end byte → length code ≤ at → WalkPassed ok code marks byte inside
  unfolding last_ends is_start targets_good
  finishes byte is h = record {
    by = sym (accepted-at-end ok code f.left at h ∙ f.going.verdict);
    end = sym is ∙ ap (last_ends last) (sym none) ∙ f.going.end;
    starts = λ t. sym (or-false (marked marks t)) ∙ ap (λ ps. marked marks t || is_start ps t) (sym none) ∙ f.going.starts t;
    put = λ g. ((f.going.put g).0, (f.going.put g).1);
    back = λ e a. f.going.back e a (ap (targets_good (is_start (commands_of code))) none);
  }
    where
      none : commands_from code f.left at ≡ []
      none = commands-end code f.left at (at-end code at h)
