-- An own effect carried out is the rule's, in any state; and a join is none. Assumes nothing.
use Rattle.std.proofs.Common.{◌≡◌, ℕ, ◌+◌, ◌-◌, ◌%◌, ◌^◌, List, set}
use Rattle.stacklets.specs.Frames.{with_slot}
use Rattle.command.specs.Command.{decoded}
use Rattle.thread.specs.declared.Effect.{Effect}
use Rattle.thread.specs.declared.Effect.TheVariants.{Sets, Loads, Stores, Goes, Continues}
use Rattle.thread.specs.Effect.{Context, effect_of}
use Rattle.thread.specs.Job.{word_in}
use Rattle.rules.specs.Rules.{carried_of}
use Rattle.std.specs.Prelude.{Some}
use Rattle.entries.specs.Own.{OwnAs, IsOther}

module _ (e : Effect) (position base : ℕ) (ps ws ms : List ℕ) where
  pub own-sets : (d v p : ℕ) (vs : List ℕ) → p ≡ (position + 4) % 2 ^ 16 → e ≡ Sets d v → vs ≡ with_slot ws base d v
      → OwnAs e position base ps ws ms vs ms (Some p)
  unfolding carried_of
  own-sets d v p vs k h g = (λ x. rw h at x, λ j s o hp hw hm hb hn. rw (hn, k, h, hw, hm, hb, g))

  pub own-loads : (d a v p : ℕ) (vs : List ℕ) → p ≡ (position + 3) % 2 ^ 16 → e ≡ Loads d a → v ≡ word_in ps ms a → vs ≡ with_slot ws base d v
      → OwnAs e position base ps ws ms vs ms (Some p)
  unfolding carried_of
  own-loads d a v p vs k h f g = (λ x. rw h at x, λ j s o hp hw hm hb hn. rw (hn, k, h, hp, hw, hm, hb, g, f))

  pub own-stores : (a v p : ℕ) (ns : List ℕ) → p ≡ (position + 3) % 2 ^ 16 → e ≡ Stores a v → ns ≡ set ms (a - 32) v
      → OwnAs e position base ps ws ms ws ns (Some p)
  unfolding carried_of
  own-stores a v p ns k h g = (λ x. rw h at x, λ j s o hp hw hm hb hn. rw (hn, k, h, hw, hm, g))

  pub own-goes : (p : ℕ) → e ≡ Goes p → OwnAs e position base ps ws ms ws ms (Some p)
  unfolding carried_of
  own-goes p h = (λ x. rw h at x, λ j s o hp hw hm hb hn. rw (h, ← hw, ← hm))

  pub own-continues : (p : ℕ) → p ≡ (position + 4) % 2 ^ 16 → e ≡ Continues → OwnAs e position base ps ws ms ws ms (Some p)
  unfolding carried_of
  own-continues p k h = (λ x. rw h at x, λ j s o hp hw hm hb hn. rw (hn, k, h, ← hw, ← hm))

-- the command of byte 10 is a join, whatever stands behind it
pub joins : (arguments : ℕ → ℕ) (own : Context) (x y z w : ℕ) → IsOther (effect_of arguments own (decoded 10 x y z w))
unfolding effect_of decoded
joins arguments own x y z w = tt
