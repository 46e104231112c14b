-- What is known of the command that a thread of a sound state meets, by its effect. Assumes nothing.
use mathlib.Core.Path.{◌≡◌}
use Prim.Native.Nat.{ℕ, ◌+◌}
use Rattle.command.specs.Command.{width_of}
use Rattle.image.specs.Layout.{slots_of, code_of}
use Rattle.image.specs.Code.{commands_of, is_start}
use Rattle.stacklets.specs.Frames.{slot_of}
use Rattle.thread.specs.declared.Effect.{Effect}
use Rattle.thread.specs.Thread.{is_pending}
use Rattle.met.proofs.CommandMet.{Facts, met-here}
use Rattle.rules.specs.State.{Job, State, thread_at}
use Rattle.rules.specs.Turn.{byte_of, effect_at}
use Rattle.rules.specs.Sound.{GoodJob, Positioned, Used}

-- what thread t of a sound state meets
abbrev pub MetAt : Job → State → ℕ → Effect → Type 0
MetAt j s t e =
    Facts j.image (slots_of j.image (thread_at s t).origin.routine) (is_start (commands_of (code_of j.image (thread_at s t).origin.routine)))
    ((thread_at s t).position + width_of (byte_of j (thread_at s t))) (slot_of s.store.words (thread_at s t).origin.base)
    (is_pending (thread_at s t).family.pending) (thread_at s t).family.window e

pub met_at : (j : Job) (s : State) → GoodJob j → Positioned j s → (t : ℕ) → Used s t → (e : Effect) → effect_at j s (thread_at s t) ≡ e → MetAt j s t e
unfolding effect_at
met_at j s g p t u e f =
    (rw f at (met-here j g (thread_at s t).origin.routine (thread_at s t).position (p.routine t u) (p.position t u)
    (slot_of s.store.words (thread_at s t).origin.base) (is_pending (thread_at s t).family.pending) (thread_at s t).family.window)).facts
