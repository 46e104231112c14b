-- Where no thread number is free, or no stacklet, at least 16 threads are in use: `Many`. Assumes nothing but that the state is sound.
use mathlib.Core.List.{[]}
use mathlib.Core.Logic.{◌⊎◌, inl, inr}
use mathlib.Core.Path.{◌≡◌, sym, ◌∙◌, ap, subst}
use Prim.Native.Nat.{ℕ, ◌/◌, ◌<◌}
use native.Mathlib.Decide.{ℕ_discrete, dec_lt}
use native.Mathlib.Omega.{arith}
use Rattle.rules.specs.State.{Job, State}
use Rattle.rules.specs.Lists.{Member}
use Rattle.rules.specs.Sound.{Sound, Used, base_at, status_at}
use Rattle.soundness.proofs.Changes.{used_low}
use Rattle.soundness.proofs.Jam.{search}

-- n different threads in use
pub record Many (s : State) (n : ℕ) : Type 0 where
  pub thread : ℕ → ℕ
  pub used : (i : ℕ) → i < n → Used s (thread i)
  pub once : (i k : ℕ) → i < n → k < n → thread i ≡ thread k → i ≡ k

module _ (j : Job) (s : State) (ok : Sound j s) where
  pub no_threads : s.queues.free_threads ≡ [] → Many s 16
  no_threads e = record { thread = λ i. i; used = λ i l. used i l (ℕ_discrete (status_at s i) 0); once = λ i k l m q. q }
    where
      used : (i : ℕ) → i < 16 → Dec (status_at s i ≡ 0) → Used s i
      used i l (yes z) = absurd (subst (Member i) e (ok.free_threads.stands i (omega arith) z))
      used i l (no n) = omega arith

  -- thread u's frame is on stacklet x
  abbrev On : ℕ → ℕ → Type 0
  On x u = Used s u × (base_at s u / 64 ≡ x)

  on-decided : (x u : ℕ) → Dec (On x u)
  on-decided x u = go (dec_lt 0 (status_at s u)) (ℕ_discrete (base_at s u / 64) x)
    where
      go : Dec (Used s u) → Dec (base_at s u / 64 ≡ x) → Dec (On x u)
      go (yes a) (yes b) = yes (a, b)
      go (no a) _ = no (λ z. a z.0)
      go (yes _) (no b) = no (λ z. b z.1)

  pub no-stacklets : s.queues.free_stacklets ≡ [] → Many s 16
  no-stacklets e = record { thread = who; used = λ x l. (holds x l).0; once = λ x y l m q. sym (holds x l).1 ∙ ap (λ u. base_at s u / 64) q ∙ (holds y m).1 }
    where
      Found : ℕ → Type 0
      Found x = ((u : ℕ) × (u < 32) × On x u) ⊎ ((u : ℕ) → u < 32 → ¬ (On x u))

      named : (x : ℕ) → Found x → ℕ
      named x (inl z) = z.0
      named x (inr n) = 0

      who : ℕ → ℕ
      who x = named x (search (On x) (on-decided x) 32)

      holds : (x : ℕ) → x < 16 → On x (who x)
      holds x l = go (search (On x) (on-decided x) 32)
        where
          go : (f : Found x) → On x (named x f)
          go (inl z) = z.2
          go (inr n) = absurd (subst (Member x) e (ok.free_stacklets.stands x l (λ u h b. n u (used_low s ok.sized.threads u h) (h, b))))
