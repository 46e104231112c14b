-- The search for the first seed, and for the lowest suspended thread: what is left to look at gives what the whole gives. Assumes nothing.
use borrow.Author.Tests.{lt-ltb, le-ltb, eqb-true}
use mathlib.Core.Bool.{Bool, true, false, cond, ◌&&◌, ◌||◌}
use mathlib.Core.List.{List}
use mathlib.Core.Path.{◌≡◌, refl, ap, sym, ◌∙◌}
use Prim.Native.Nat.{ℕ, zero, suc, ◌+◌, ◌≤◌, ◌<◌}
use native.Mathlib.Numerals.{add-one}
use native.Mathlib.Omega.{arith}
use lib.Dec.{eqb}
use lib.ListN.{get_or, length}
use Rattle.schedule.specs.declared.Entry.{Entry}
use Rattle.schedule.specs.declared.Entry.TheVariants.{Step, Take, Steal}
use Rattle.thread.specs.declared.Thread.{Thread}
use Rattle.thread.specs.declared.Status.TheVariants.{Suspended, Lent}
use Rattle.thread.specs.Thread.{blank_thread, none, status_number, ◌is◌}
use Rattle.rules.specs.State.{Job, State, thread_at, on_core}
use Rattle.rules.specs.Turn.{byte_of}
use Rattle.rules.specs.Rules.{is_seed}
use Rattle.search.specs.Search.{lent_parent, seed_above, seed_on, seed_from, first_seed, idle_choice, choice_of, suspended_from}

module _ (j : Job) (s : State) where
  -- a busy core, and an idle one
  pub busy : (c : ℕ) (e : Entry) → on_core s c < 32 → e ≡ Step c → e ≡ choice_of j s c
  unfolding choice_of
  busy c e l h = h ∙ rw (lt-ltb _ _ l)

  pub idle : (c : ℕ) (e : Entry) → 32 ≤ on_core s c → e ≡ idle_choice j s c → e ≡ choice_of j s c
  unfolding choice_of
  idle c e l h = h ∙ rw (le-ltb _ _ l)

  -- an idle core, by how many threads are ready
  pub takes : (c n : ℕ) → n ≡ length s.queues.ready → 0 < n → Take c ≡ idle_choice j s c
  unfolding idle_choice
  takes c n e l = rw (← e, lt-ltb _ _ l)

  pub steals : (c n t : ℕ) → n ≡ length s.queues.ready → n ≤ 0 → t ≡ first_seed j s → Steal c t ≡ idle_choice j s c
  unfolding idle_choice
  steals c n t e l f = rw (← e, le-ltb _ _ l, f)

  -- up one chain
  pub stops : (n t : ℕ) → 32 ≤ t → seed_above n j s t ≡ none
  unfolding seed_above
  stops zero t h = refl
  stops (suc n) t h = rw (le-ltb t 32 h)

  pub empty : (n t : ℕ) → n ≤ 0 → seed_above n j s t ≡ none
  unfolding seed_above
  empty zero t h = refl
  empty (suc n) t h = absurd (omega arith)

  -- at a thread below 32: only its status and its next command count
  module _ (t : ℕ) (h : Thread) (b : Bool) (low : t < 32) (met : h ≡ thread_at s t) (seed : b ≡ (h.status is Lent && (eqb (byte_of j h) 8 || eqb (byte_of j h) 9))) where
    seed-is : is_seed j s t ≡ b
    unfolding is_seed
    seed-is = rw (lt-ltb t 32 low, ← met) (sym seed)

    pub meets : (n : ℕ) → 0 < n → b ≡ true → seed_above n j s t ≡ t
    unfolding seed_above
    meets zero l e = absurd (omega arith)
    meets (suc n) l e = rw (lt-ltb t 32 low, seed-is ∙ e)

    pub goes : (n m p : ℕ) → n ≡ suc m → b ≡ false → p ≡ lent_parent h → seed_above m j s p ≡ seed_above n j s t
    unfolding seed_above
    goes n m p l e q = rw (l, lt-ltb t 32 low, seed-is ∙ e, q, met)

  -- core by core
  pub found : (n c t : ℕ) → 0 < n → t ≡ seed_on j s c → t < 32 → seed_from n j s c ≡ t
  unfolding seed_from
  found zero c t l e h = absurd (omega arith)
  found (suc n) c t l e h = rw (← e, lt-ltb t 32 h)

  pub missed : (n c m : ℕ) → n ≡ suc m → seed_on j s c ≡ none → seed_from m j s (c + 1) ≡ seed_from n j s c
  unfolding seed_from
  missed n c m l e = rw (l, e, add-one)

  pub absent : (n c : ℕ) → n ≤ 0 → seed_from n j s c ≡ none
  unfolding seed_from
  absent zero c h = refl
  absent (suc n) c h = absurd (omega arith)

-- a free record is not suspended
pub not-blank : (h : Thread) → h ≡ blank_thread → (h.status is Suspended) ≡ true → ⊥
not-blank h m e = omega (arith, eqb-true (status_number h.status) 3 e, ap (λ (x : Thread). status_number x.status) m)

module _ (threads : List Thread) where
  pub lowest-here : (n t : ℕ) (h : Thread) → 0 < n → h ≡ get_or threads t blank_thread → (h.status is Suspended) ≡ true → suspended_from n threads t ≡ t
  unfolding suspended_from
  lowest-here zero t h l m e = absurd (omega arith)
  lowest-here (suc n) t h l m e = rw (← m, e)

  pub lowest-later : (n t k : ℕ) (h : Thread) → n ≡ suc k → h ≡ get_or threads t blank_thread → (h.status is Suspended) ≡ false → suspended_from k threads (t + 1) ≡ suspended_from n threads t
  unfolding suspended_from
  lowest-later n t k h l m e = rw (l, ← m, e, add-one)

  pub lowest-none : (n t : ℕ) → n ≤ 0 → suspended_from n threads t ≡ none
  unfolding suspended_from
  lowest-none zero t h = refl
  lowest-none (suc n) t h = absurd (omega arith)

  -- what is found is suspended
  found_at : (x rest : ℕ) (b : Bool) → ((get_or threads x blank_thread).status is Suspended) ≡ b
      → (rest < 32 → ((get_or threads rest blank_thread).status is Suspended) ≡ true)
      → cond b x rest < 32 → ((get_or threads (cond b x rest) blank_thread).status is Suspended) ≡ true
  found_at x rest true e later l = e
  found_at x rest false e later l = later l

  pub lowest-is : (n t : ℕ) → suspended_from n threads t < 32 → ((get_or threads (suspended_from n threads t) blank_thread).status is Suspended) ≡ true
  unfolding suspended_from
  lowest-is zero t l = absurd (omega arith)
  lowest-is (suc n) t l = found_at t (suspended_from n threads (suc t)) _ refl (lowest-is n (suc t)) l
