-- A step: the tests in their order, and the command by its effect. Assumes nothing.
use Rattle.std.proofs.Common.{◌≡◌, ℕ, ◌+◌, ◌-◌, ◌%◌, ◌^◌, ◌<◌, ◌≤◌, Bool, true, false, cond, ◌&&◌, eqb, ltb, get_or, refl, ap, ◌∙◌, le-ltb, lt-ltb, eqb-true, le-leb}
use borrow.Author.Tests.{lt-leb}
use Rattle.command.specs.Command.{decoded_at, width_of}
use Rattle.command.specs.Weight.{weight_of}
use Rattle.image.specs.Layout.{arguments_of}
use Rattle.stacklets.specs.Frames.{slot_of}
use Rattle.thread.specs.declared.Thread.{Thread}
use Rattle.thread.specs.declared.Effect.{Effect}
use Rattle.thread.specs.Thread.{is_pending}
use Rattle.thread.specs.Effect.{effect_of}
use Rattle.thread.specs.Bytes.{bytes_by}
use Rattle.thread.specs.View.{context_of}
use Rattle.thread.proofs.Widths.{Widened}
use Rattle.rules.specs.State.{Job, State, After, is_over, thread_at, on_core}
use Rattle.rules.specs.Update.{refused}
use Rattle.rules.specs.Turn.{Turn, offset_of, effect_at}
use Rattle.rules.specs.Rules.{carried_of, turn_of, step_of}
use Rattle.entries.specs.Own.{IsOther}
use Rattle.entries.specs.Given.{turn_with}
use Rattle.entries.specs.Burst.{waits_of, short_of, rest_given}
use Rattle.entries.proofs.Meeting.{carried-wide}

module _ (j : Job) (s : State) (c : ℕ) (b : Bool) (e : b ≡ is_over s.outcome) where
  pub step-over : b ≡ true → refused 19 s ≡ step_of j s c
  unfolding step_of
  step-over f = rw (← e, f)

  module _ (n : ℕ) (going : b ≡ false) (count : n ≡ s.count) where
    pub step-no-core : n ≤ c → refused 14 s ≡ step_of j s c
    unfolding step_of
    step-no-core l = rw (← e, going, ← count, le-leb _ _ l)

    pub step-idle : (t : ℕ) → c < n → t ≡ on_core s c → 32 ≤ t → refused 15 s ≡ step_of j s c
    unfolding step_of
    step-idle t core on l = rw (← e, going, ← count, lt-leb _ _ core, ← on, le-ltb _ _ l)

-- the command that is met, test by test
abbrev met_of : Job → State → Turn → Effect → ℕ → Bool → After
met_of j s o e left waits = cond waits (waits_of o.core o.number s) (cond (ltb left o.weight) (refused 22 s) (carried_of j s o e))

-- the command as the rule has it
module _ (j : Job) (s : State) (c t : ℕ) (going : is_over s.outcome ≡ false) (core : c < s.count) (on : t ≡ on_core s c) (busy : t < 32)
    (th : Thread) (met : th ≡ thread_at s t) (place byte left : ℕ) (e : Effect) (there : place ≡ offset_of j th) (first : byte ≡ get_or j.image place 0)
    (allowed : left ≡ j.allowance - s.units)
    (does : e ≡ effect_of (arguments_of j.image) (context_of (slot_of s.store.words th.origin.base) (is_pending th.family.pending) th.family.window) (decoded_at j.image place)) where
  abbrev waits : Bool
  waits = eqb byte 10 && ltb 0 th.family.children

  met-steps : met_of j s (turn_with c t th (weight_of j.weights byte) (th.position + width_of byte) place) e left waits ≡ step_of j s c
  unfolding step_of turn_of effect_at
  met-steps = rw (going, lt-leb _ _ core, ← on, lt-ltb _ _ busy, does, ← met, ← there, ← first, ← allowed)

  -- with the position behind it as the effect tells it
  met-wide : Widened (width_of byte) e → th.position + width_of byte < 65536
      → met_of j s (turn_with c t th (weight_of j.weights byte) ((th.position + bytes_by e) % 2 ^ 16) place) e left waits ≡ step_of j s c
  met-wide wide low =
      ap (λ (a : After). cond waits (waits_of c t s) (cond (ltb left (weight_of j.weights byte)) (refused 22 s) a))
      (carried-wide j s c t (weight_of j.weights byte) place th.position (width_of byte) th e wide low)
      ∙ met-steps

  -- too dear
  pub short-is : left < weight_of j.weights byte → short_of c t waits s ≡ step_of j s c
  short-is l = rw (lt-ltb _ _ l) at met-steps

  module _ (wide : Widened (width_of byte) e) (low : th.position + width_of byte < 65536) (enough : weight_of j.weights byte ≤ left) where
    abbrev turn : Turn
    turn = turn_with c t th (weight_of j.weights byte) ((th.position + bytes_by e) % 2 ^ 16) place

    -- its weight is left
    pub rest-is : rest_given j s turn e waits ≡ step_of j s c
    rest-is = rw (le-ltb _ _ enough) at (met-wide wide low)

    -- a command that is its own thread's alone is carried out
    pub own_is : (byte ≡ 10 → IsOther e) → (IsOther e → ⊥) → carried_of j s turn e ≡ step_of j s c
    own_is joins own = go (eqb byte 10) refl
      where
        go : (b : Bool) → eqb byte 10 ≡ b → carried_of j s turn e ≡ step_of j s c
        go true h = absurd (own (joins (eqb-true byte 10 h)))
        go false h = rw h at rest-is
