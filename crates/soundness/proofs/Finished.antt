-- A finished machine has no thread in use, all 32 thread numbers stand in the free-thread queue, and all 1,024 stacklet words are zero.
-- Assumes nothing but that the state is sound.
use mathlib.Core.Path.{◌≡◌, sym, ◌∙◌}
use Prim.Native.Nat.{ℕ, ◌<◌}
use native.Mathlib.Omega.{arith}
use lib.ListN.{length, replicate, length-replicate, get_or-replicate}
use lib.Seq.{ext_get_or}
use Rattle.rules.specs.Lists.{Member}
use Rattle.rules.specs.State.{Job, State, finished}
use Rattle.rules.specs.Sound.{status_at, Sound}
use Rattle.soundness.proofs.Queues.{every_map, at_most, at_least}

module _ (j : Job) (s : State) (ok : Sound j s) (v : ℕ) (over : s.outcome ≡ finished v) where
  -- "once finished .. no thread is in use"
  pub finished-free : (t : ℕ) → status_at s t ≡ 0
  finished-free = ok.tree.over v over

  pub finished-numbers : (t : ℕ) → t < 32 → Member t s.queues.free_threads
  finished-numbers t l = ok.free_threads.stands t l (finished-free t)

  pub finished-all : length s.queues.free_threads ≡ 32
  finished-all =
      let a = at_most 32 s.queues.free_threads ok.free_threads.once (every_map (λ n h. h.0) s.queues.free_threads ok.free_threads.free) in
      let b = at_least 32 s.queues.free_threads finished-numbers in
      omega arith

  -- no word lies in a frame
  pub finished-words : s.store.words ≡ replicate 1024 0
  finished-words = ext_get_or 0 s.store.words (replicate 1024 0) (ok.sized.words ∙ sym (length-replicate {A = ℕ} 1024 0))
      (λ i l. ok.free_words.zero i (λ t u. absurd (let z = finished-free t in omega arith)) ∙ sym (get_or-replicate 1024 i 0 0 (omega (arith, ok.sized.words))))
