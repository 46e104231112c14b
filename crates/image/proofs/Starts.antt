-- What an accepted image says of each command's start in each routine: a command is found there, in range; where it goes next is a
-- command's start of the same routine, and so is its target. Control never runs off a routine's end. Assumes nothing.
use borrow.Author.Tests.{eq-eqb, ne_eqb, lt-leb}
use mathlib.Core.Bool.{Bool, true, false, cond, ◌||◌}
use mathlib.Core.List.{List}
use mathlib.Core.Path.{◌≡◌, refl, sym, ◌∙◌, ap, subst}
use Prim.Native.Nat.{ℕ, zero, suc, ◌+◌, ◌≤◌, ◌<◌}
use native.Mathlib.Decide.{ℕ_discrete, dec_lt}
use native.Mathlib.Omega.{arith}
use lib.Dec.{eqb}
use lib.ListN.{length}
use Rattle.std.specs.Prelude.{Result, Ok, Err}
use Rattle.command.specs.declared.Command.{Command}
use Rattle.command.specs.declared.CommandError.{CommandError}
use Rattle.command.specs.declared.CommandError.TheVariants.{Unknown, CutOff}
use Rattle.command.specs.Command.{command_at}
use Rattle.command.proofs.Bools.{both}
use Rattle.command.proofs.RoundTrip.{stands, at-end}
use Rattle.image.specs.Code.{Verdict}
use Rattle.image.specs.declared.Refusal.{Refusal}
use Rattle.image.specs.declared.Refusal.TheVariants.{UnknownByte, OperandsCutOff, OutOfRange, BadEnd, BadTarget}
use Rattle.image.specs.Code.{commands_from, commands_of, verdict_from, last_ends, ends, is_start, target_good, targets_good, read_verdict, routine_verdict, ◌then◌}
use Rattle.image.proofs.Walk.{start-found, targets-found, last_found, commands-end}

clash : {P : Type 0} (b : Bool) → b ≡ true → b ≡ false → P
clash b h k = let z : ◌≡◌ {A = ℕ} 0 1 = cc in absurd (omega arith)

never : {P : Type 0} (n : Refusal) → ◌≡◌ {A = Verdict} (Err n) (Ok tt) → P
never n h = let z : ◌≡◌ {A = ℕ} 0 1 = cc in absurd (omega arith)

or_right : (a b : Bool) → b ≡ true → (a || b) ≡ true
or_right true b h = refl
or_right false b h = h

-- a command that stands at p of a code: it is in range, its target is a start, and so is what follows it, unless it ends the code
pub record Standing (ok : Command → Bool) (start later : ℕ → Bool) (code : List ℕ) (p : ℕ) : Type 0 where
  pub command : Command
  pub width : ℕ
  pub found : command_at code p ≡ Ok (command, width)
  pub range : ok command ≡ true
  pub target : target_good start command ≡ true
  pub next : ends command ≡ false → later (p + width) ≡ true

-- what the verdict says of the command at `at`
pub record Passed (ok : Command → Bool) (code : List ℕ) (left at : ℕ) : Type 0 where
  pub command : Command
  pub width : ℕ
  pub found : command_at code at ≡ Ok (command, width)
  pub range : ok command ≡ true
  pub rest : verdict_from ok code left (at + width) ≡ Ok tt

passed : (ok : Command → Bool) (code : List ℕ) (left at : ℕ) → at < length code → verdict_from ok code (suc left) at ≡ Ok tt → Passed ok code left at
unfolding verdict_from
passed ok code left at h v = by (command_at code at) refl (rw (lt-leb (length code) at h) at v)
  where
    ranged : (c : Command) (n : ℕ) → command_at code at ≡ Ok (c, n) → (b : Bool) → ok c ≡ b
        → cond b (verdict_from ok code left (at + n)) (Err OutOfRange) ≡ Ok tt → Passed ok code left at
    ranged c n f true e w = record { command = c; width = n; found = f; range = e; rest = w }
    ranged c n f false e w = never OutOfRange w

    by : (r : Result (Command × ℕ) CommandError) → command_at code at ≡ r
        → read_verdict r (λ c n. cond (ok c) (verdict_from ok code left (at + n)) (Err OutOfRange)) ≡ Ok tt → Passed ok code left at
    by (Ok (c, n)) f w = ranged c n f (ok c) refl w
    by (Err Unknown) f w = never UnknownByte w
    by (Err CutOff) f w = never OperandsCutOff w

-- where there is code left, a command starts
starts-here : (ok : Command → Bool) (code : List ℕ) (left at : ℕ) → at < length code → length code ≤ at + left → verdict_from ok code left at ≡ Ok tt
    → is_start (commands_from code left at) at ≡ true
starts-here ok code zero at h e v = absurd (omega arith)
starts-here ok code (suc left) at h e v =
    let q = passed ok code left at h v in
    start-found code left at q.width q.command q.found at ∙ rw (eq-eqb at at refl)

-- behind a command that does not end the code another one starts
follows : (ok : Command → Bool) (code : List ℕ) (left at n : ℕ) (c : Command) (last : Bool) → command_at code at ≡ Ok (c, n)
    → length code ≤ at + n + left → verdict_from ok code left (at + n) ≡ Ok tt → last_ends last (commands_from code (suc left) at) ≡ true
    → ends c ≡ false → is_start (commands_from code (suc left) at) (at + n) ≡ true
unfolding last_ends
follows ok code left at n c last found few v l e = go (dec_lt (at + n) (length code))
  where
    go : Dec (at + n < length code) → is_start (commands_from code (suc left) at) (at + n) ≡ true
    go (yes h) = start-found code left at n c found (at + n) ∙ or_right (eqb at (at + n)) _ (starts-here ok code left (at + n) h few v)
    go (no h) =
        clash (ends c)
        (sym (ap (last_ends (ends c)) (commands-end code left (at + n) (at-end code (at + n) (omega arith)))) ∙ sym (last_found code left at n c found last) ∙ l)
        e

none-past-end : {P : Type 0} (code : List ℕ) (left at p : ℕ) → length code ≤ at → is_start (commands_from code left at) p ≡ true → P
unfolding is_start
none-past-end code left at p h s = clash false (rw (commands-end code left at (at-end code at h)) at s) refl

module _ (ok : Command → Bool) (start : ℕ → Bool) (code : List ℕ) (p : ℕ) where
  -- the command at `at`, or one behind it
  step : (left at : ℕ) (last : Bool) → length code ≤ at + suc left → (q : Passed ok code left at)
      → last_ends last (commands_from code (suc left) at) ≡ true → targets_good start (commands_from code (suc left) at) ≡ true
      → is_start (commands_from code (suc left) at) p ≡ true
      → (is_start (commands_from code left (at + q.width)) p ≡ true → targets_good start (commands_from code left (at + q.width)) ≡ true
      → last_ends (ends q.command) (commands_from code left (at + q.width)) ≡ true
      → Standing ok start (is_start (commands_from code left (at + q.width))) code p)
      → Standing ok start (is_start (commands_from code (suc left) at)) code p
  step left at last few q l t s more = go (ℕ_discrete at p)
    where
      goods : (target_good start q.command ≡ true) × (targets_good start (commands_from code left (at + q.width)) ≡ true)
      goods = both (target_good start q.command) (targets_good start (commands_from code left (at + q.width)))
          (sym (targets-found code left at q.width q.command q.found start) ∙ t)

      few' : length code ≤ at + q.width + left
      few' = omega (arith, (stands code at q.command q.width q.found).some)

      go : Dec (at ≡ p) → Standing ok start (is_start (commands_from code (suc left) at)) code p
      go (yes e) = subst (λ x. Standing ok start (is_start (commands_from code (suc left) at)) code x) e (record {
        command = q.command;
        width = q.width;
        found = q.found;
        range = q.range;
        target = goods.0;
        next = follows ok code left at q.width q.command last q.found few' q.rest l;
      })
      go (no n) =
          let later : is_start (commands_from code left (at + q.width)) p ≡ true =
          sym (rw (ne_eqb at p n) at (start-found code left at q.width q.command q.found p)) ∙ s in
          let r = more later goods.1 (sym (last_found code left at q.width q.command q.found last) ∙ l) in
          record {
            command = r.command;
            width = r.width;
            found = r.found;
            range = r.range;
            target = r.target;
            next = λ e. start-found code left at q.width q.command q.found (p + r.width) ∙ or_right (eqb at (p + r.width)) _ (r.next e);
          }

  standing-from : (left at : ℕ) (last : Bool) → length code ≤ at + left → verdict_from ok code left at ≡ Ok tt
      → last_ends last (commands_from code left at) ≡ true → targets_good start (commands_from code left at) ≡ true
      → is_start (commands_from code left at) p ≡ true → Standing ok start (is_start (commands_from code left at)) code p
  standing-from zero at last few v l t s = none-past-end code zero at p (omega arith) s
  standing-from (suc left) at last few v l t s =
      go (dec_lt at (length code))
      (λ n c few v s t l. standing-from left (at + n) (ends c) few v l t s)
    where
      go : Dec (at < length code)
          → ((n : ℕ) (c : Command) → length code ≤ at + n + left → verdict_from ok code left (at + n) ≡ Ok tt
          → is_start (commands_from code left (at + n)) p ≡ true → targets_good start (commands_from code left (at + n)) ≡ true
          → last_ends (ends c) (commands_from code left (at + n)) ≡ true → Standing ok start (is_start (commands_from code left (at + n))) code p)
          → Standing ok start (is_start (commands_from code (suc left) at)) code p
      go (no h) more = none-past-end code (suc left) at p (omega arith) s
      go (yes h) more =
          let q = passed ok code left at h v in
          step left at last few q l t s
          (λ s' t' l'. more q.width q.command (omega (arith, (stands code at q.command q.width q.found).some)) q.rest s' t' l')

-- both of two verdicts accept
pub both-accept : (u v : Verdict) → (u then v) ≡ Ok tt → (u ≡ Ok tt) × (v ≡ Ok tt)
both-accept (Ok tt) v h = (refl, h)
both-accept (Err n) v h = never n h

tested : (b : Bool) (n : Refusal) → cond {A = Verdict} b (Ok tt) (Err n) ≡ Ok tt → b ≡ true
tested true n h = refl
tested false n h = never n h

-- a code that a routine's tests accept
module _ (ok : Command → Bool) (code : List ℕ) (e : routine_verdict ok code ≡ Ok tt) where
  pub standing : (p : ℕ) → is_start (commands_of code) p ≡ true → Standing ok (is_start (commands_of code)) (is_start (commands_of code)) code p
  unfolding routine_verdict commands_of
  standing p s =
      let a = both-accept (verdict_from ok code (length code) 0) _ e in
      let b = both-accept (cond (last_ends false (commands_of code)) (Ok tt) (Err BadEnd)) _ a.1 in
      standing-from ok (is_start (commands_of code)) code p (length code) 0 false (omega arith) a.0
      (tested (last_ends false (commands_of code)) BadEnd b.0) (tested (targets_good (is_start (commands_of code)) (commands_of code)) BadTarget b.1) s

  -- a routine's first byte is a command's start
  pub first-start : 1 ≤ length code → is_start (commands_of code) 0 ≡ true
  unfolding routine_verdict commands_of
  first-start h = starts-here ok code (length code) 0 (omega arith) (omega arith) (both-accept (verdict_from ok code (length code) 0) _ e).0
