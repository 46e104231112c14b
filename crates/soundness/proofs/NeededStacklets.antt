-- A stacklet is needed (`NeedsStacklet`, document 01's words in numbers) exactly where the rule of a fork does not put the child's frame above
-- its parent's (`needs-stacklet`). Assumes nothing but that the state is sound: a frame in use is on one of the 16 stacklets.
use mathlib.Core.Bool.{Bool, true, false, ◌&&◌, true≢false}
use mathlib.Core.Logic.{◌⊎◌, inl, inr, ⊎_elim, ◌↔◌}
use mathlib.Core.Path.{◌≡◌, refl, sym}
use Prim.Native.Nat.{ℕ, ◌+◌, ◌/◌, ◌%◌, ◌<◌}
use native.Mathlib.Omega.{arith}
use lib.Dec.{ltb, leb, eqb}
use borrow.Author.Tests.{lt-ltb, leb-true, leb-false, eqb-true, eqb-false}
use Rattle.image.specs.Layout.{slots_of}
use Rattle.stacklets.specs.Tops.{top_at, fits_on}
use Rattle.rules.specs.declared.ForkKind.{ForkKind}
use Rattle.rules.specs.declared.ForkKind.TheVariants.{Called, Queued, Stolen}
use Rattle.rules.specs.State.{Job, State, thread_at}
use Rattle.rules.specs.Fork.{goes_above}
use Rattle.rules.specs.Sound.{Used, Sound}
use Rattle.soundness.specs.Numbers.{IsTopmost, FitsAbove, NeedsStacklet}

module _ (j : Job) (s : State) (sound : Sound j s) (t : ℕ) (used : Used s t) where
  -- an lfork's tests: b, that the parent's stacklet is one of 16, always passes
  called : (r : ℕ) (a : Bool) → eqb ((thread_at s t).origin.base % 64 + slots_of j.image (thread_at s t).origin.routine) (top_at s.store.tops ((thread_at s t).origin.base / 64)) ≡ a
      → (b : Bool) → b ≡ true → (c : Bool) → leb (top_at s.store.tops ((thread_at s t).origin.base / 64) + slots_of j.image r) 64 ≡ c
      → (((a && (b && c)) ≡ false) ↔ ((¬ (IsTopmost j s t)) ⊎ (¬ (FitsAbove j s t r))))
  called r false e b f c g = (λ z. inl (eqb-false _ _ e), λ z. refl)
  called r true e false f c g = absurd (true≢false (sym f))
  called r true e true f false g =
      (λ z. inr (λ l. let k = leb-false (top_at s.store.tops ((thread_at s t).origin.base / 64) + slots_of j.image r) 64 g in omega arith), λ z. refl)
  called r true e true f true g = (λ z. absurd (true≢false z), λ z. absurd (⊎_elim (λ n. n (eqb-true _ _ e)) (λ n. n (leb-true _ _ g)) z))

  low : (thread_at s t).origin.base / 64 < 16
  low = let z = sound.frames.bounded t used in omega arith

  pub needs-stacklet : (kind : ForkKind) (r : ℕ) → ((goes_above j s kind (thread_at s t) r ≡ false) ↔ (NeedsStacklet j s t kind r))
  unfolding goes_above fits_on
  needs-stacklet Called r = called r _ refl (ltb ((thread_at s t).origin.base / 64) 16) (lt-ltb _ _ low) _ refl
  needs-stacklet Queued r = (λ e. tt, λ z. refl)
  needs-stacklet Stolen r = (λ e. tt, λ z. refl)
