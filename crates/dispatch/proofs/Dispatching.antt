-- A take and an enable: the tests in their order, and what an accepted one changes. Assumes nothing.
use mathlib.Core.Bool.{Bool, true, false}
use mathlib.Core.Path.{◌≡◌, sym, ◌∙◌}
use Prim.Native.Nat.{ℕ, ◌≤◌, ◌<◌}
use borrow.Author.Tests.{lt-ltb, le-ltb, le-leb, lt-leb}
use Rattle.std.proofs.Common.{None, Some}
use Rattle.std.specs.declared.option.Option.{Option}
use Rattle.queue.specs.Contents.{front_of, tail_of}
use Rattle.queue.proofs.Laws.{nothing-empty, number-first}
use Rattle.thread.specs.declared.Thread.{Thread}
use Rattle.thread.specs.declared.Status.TheVariants.{Running, Ready, Suspended}
use Rattle.thread.specs.Thread.{with_status, ◌is◌}
use Rattle.rules.specs.State.{State, is_over, thread_at, on_core}
use Rattle.rules.specs.Update.{accepted, refused, set_thread, set_core, set_ready, enqueue_ready}
use Rattle.rules.specs.Rules.{take_of, take_into, enable_of}

-- take
module _ (s : State) (c : ℕ) (b : Bool) (e : b ≡ is_over s.outcome) where
  pub take-over : b ≡ true → refused 19 s ≡ take_of s c
  unfolding take_of
  take-over f = rw (← e, f)

  module _ (n : ℕ) (going : b ≡ false) (count : n ≡ s.count) where
    pub take-no-core : n ≤ c → refused 14 s ≡ take_of s c
    unfolding take_of
    take-no-core l = rw (← e, going, ← count, le-leb _ _ l)

    module _ (k : ℕ) (core : c < n) (on : k ≡ on_core s c) where
      pub take-busy : k < 32 → refused 15 s ≡ take_of s c
      unfolding take_of
      take-busy l = rw (← e, going, ← count, lt-leb _ _ core, ← on, lt-ltb _ _ l)

      module _ (idle : 32 ≤ k) (first : Option ℕ) (hf : first ≡ front_of s.queues.ready) where
        pub take_none : first ≡ None → refused 16 s ≡ take_of s c
        unfolding take_of take_into
        take_none f = rw (← e, going, ← count, lt-leb _ _ core, ← on, le-ltb _ _ idle, nothing-empty s.queues.ready (sym hf ∙ f))

        pub took : (t : ℕ) (s1 s2 s3 : State) (th a : Thread) → first ≡ Some t → s1 ≡ set_ready (tail_of s.queues.ready) s
            → th ≡ thread_at s1 t → a ≡ with_status Running th → s2 ≡ set_thread t a s1 → s3 ≡ set_core c t s2 → accepted s3 ≡ take_of s c
        unfolding take_of take_into
        took t s1 s2 s3 th a f g1 ht ha g2 g3 =
            rw (g3, g2, ha, ht, g1, ← e, going, ← count, lt-leb _ _ core, ← on, le-ltb _ _ idle, number-first s.queues.ready t (sym hf ∙ f))

-- enable
module _ (s : State) (t : ℕ) (b : Bool) (e : b ≡ is_over s.outcome) where
  pub enable-over : b ≡ true → refused 19 s ≡ enable_of s t
  unfolding enable_of
  enable-over f = rw (← e, f)

  module _ (going : b ≡ false) where
    pub enable-none : 32 ≤ t → refused 17 s ≡ enable_of s t
    unfolding enable_of
    enable-none h = rw (← e, going, le-ltb _ _ h)

    module _ (low : t < 32) (th : Thread) (met : th ≡ thread_at s t) (same : Bool) (alike : same ≡ (th.status is Suspended)) where
      pub enable-awake : same ≡ false → refused 17 s ≡ enable_of s t
      unfolding enable_of
      enable-awake f = rw (← e, going, lt-ltb _ _ low, ← met, ← alike, f)

      pub enabled : (s1 s2 : State) (a : Thread) → same ≡ true → a ≡ with_status Ready th → s1 ≡ set_thread t a s → s2 ≡ enqueue_ready t s1
          → accepted s2 ≡ enable_of s t
      unfolding enable_of
      enabled s1 s2 a f ha g1 g2 = rw (g2, g1, ha, ← e, going, lt-ltb _ _ low, ← met, ← alike, f)
