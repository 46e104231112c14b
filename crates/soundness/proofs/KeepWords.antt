-- Every entry keeps the words outside the frames at 0: a command writes only its own frame, a new frame only itself, and a return clears the
-- frame that goes. Assumes nothing.
use mathlib.Core.Logic.{◌⊎◌, inl, inr}
use mathlib.Core.Path.{◌≡◌, ◌∙◌, subst}
use Prim.Native.Nat.{ℕ, ◌+◌, ◌*◌, ◌/◌, ◌%◌, ◌≤◌, ◌<◌}
use native.Mathlib.Decide.{ℕ_discrete, dec_lt}
use native.Mathlib.Omega.{arith}
use lib.ListN.{get_or}
use Rattle.image.specs.Layout.{slots_of}
use Rattle.schedule.specs.declared.Entry.{Entry}
use Rattle.stacklets.specs.Tops.{top_at, base_on}
use Rattle.stacklets.specs.Frames.{wiped, pushed_words}
use Rattle.stacklets.proofs.Words.{framed-out}
use Rattle.stacklets.proofs.Wiping.{wiped-in, wiped-out}
use Rattle.rules.specs.State.{Job, State, thread_at}
use Rattle.rules.specs.Rules.{entry_of}
use Rattle.rules.specs.Sound.{Sound, FreeWords, IsFreeWord, Used, size_at}
use Rattle.soundness.proofs.FrameChanges.{Steady, Birth, Ending, Change, steady, birth, ending, elder-stays}
use Rattle.soundness.proofs.EntryChanges.{entry-change}

module _ (j : Job) (s : State) (ok : Sound j s) where
  -- no frame comes or goes
  steady-words : (s' : State) → Steady j s s' → FreeWords j s'
  steady-words s' f = record { zero = λ i h. f.words i (before i h) ∙ ok.free_words.zero i (before i h) }
    where
      before : (i : ℕ) → IsFreeWord j s' i → IsFreeWord j s i
      before i h t u = rw ((f.stays t).base, (f.stays t).routine) at (h t ((f.stays t).still u))

  -- a fork
  module _ (s' : State) (t n r d x cut : ℕ) (b : Birth j s s' t n r d x cut) where
    before-birth : (i : ℕ) → IsFreeWord j s' i → IsFreeWord j s i
    before-birth i h u k = let e = elder-stays b u k in rw (e.base, e.routine) at (h u (e.still k))

    -- the new frame is the child's
    outside-new : (i : ℕ) → IsFreeWord j s' i → (i < base_on s.store.tops x) ⊎ (base_on s.store.tops x + slots_of j.image r ≤ i)
    outside-new i h = subst (λ g. (i < g.origin.base) ⊎ (g.origin.base + slots_of j.image g.origin.routine ≤ i)) b.child (h n (rw b.child b.used))

    birth-words : FreeWords j s'
    unfolding pushed_words
    birth-words = record {
      zero = λ i h. rw (b.words, b.fit)
          (framed-out s.store.words (base_on s.store.tops x) (slots_of j.image r) b.arguments i (outside-new i h)
          ∙ ok.free_words.zero i (before-birth i h));
    }

  -- a return
  module _ (s' : State) (t : ℕ) (f : Ending j s s' t) where
    abbrev base : ℕ
    base = (thread_at s t).origin.base

    -- a word that was in no other frame, and not in this one, was free
    before-ending : (i : ℕ) → IsFreeWord j s' i → (i < base) ⊎ (base + size_at j s t ≤ i) → IsFreeWord j s i
    before-ending i h out u k = go (ℕ_discrete u t)
      where
        go : Dec (u ≡ t) → (i < (thread_at s u).origin.base) ⊎ ((thread_at s u).origin.base + size_at j s u ≤ i)
        go (yes e) = rw e out
        go (no m) = let w = (f.others u m).stays in rw (w.base, w.routine) at (h u (w.still k))

    ending-words : FreeWords j s'
    ending-words = record { zero = λ i h. f.words i h ∙ go i h (dec_lt i base) (dec_lt i (base + size_at j s t)) }
      where
        outside : (i : ℕ) → IsFreeWord j s' i → (i < base) ⊎ (base + size_at j s t ≤ i) → get_or (wiped s.store.words base (size_at j s t)) i 0 ≡ 0
        outside i h out = wiped-out s.store.words base (size_at j s t) i out ∙ ok.free_words.zero i (before-ending i h out)

        go : (i : ℕ) → IsFreeWord j s' i → Dec (i < base) → Dec (i < base + size_at j s t) → get_or (wiped s.store.words base (size_at j s t)) i 0 ≡ 0
        go i h (yes l) _ = outside i h (inl l)
        go i h (no l) (yes m) = wiped-in s.store.words base (size_at j s t) i (omega arith) m
        go i h (no l) (no m) = outside i h (inr (omega arith))

  change-words : (s' : State) → Change j s s' → FreeWords j s'
  change-words s' (steady f) = steady-words s' f
  change-words s' (birth t n r d x cut b) = birth-words s' t n r d x cut b
  change-words s' (ending t f) = ending-words s' t f

  -- every entry keeps free words at 0
  pub keep-words : (e : Entry) → FreeWords j (entry_of j s e).state
  keep-words e = change-words (entry_of j s e).state (entry-change j s ok e)

  -- so every word from a stacklet's top up is 0
  pub above-top : (x k : ℕ) → top_at s.store.tops x ≤ k → k < 64 → get_or s.store.words (64 * x + k) 0 ≡ 0
  above-top x k l m = ok.free_words.zero (64 * x + k) (λ t u. go t u (ℕ_discrete ((thread_at s t).origin.base / 64) x) (dec_lt x ((thread_at s t).origin.base / 64)))
    where
      go : (t : ℕ) → Used s t → Dec ((thread_at s t).origin.base / 64 ≡ x) → Dec (x < (thread_at s t).origin.base / 64)
          → (64 * x + k < (thread_at s t).origin.base) ⊎ ((thread_at s t).origin.base + size_at j s t ≤ 64 * x + k)
      go t u (yes e) _ =
          let a : (thread_at s t).origin.base % 64 + size_at j s t ≤ top_at s.store.tops x = rw e at (ok.frames.under t u) in
          inr (omega arith)
      go t u (no e) (yes h) = inl (omega arith)
      go t u (no e) (no h) =
          let a = ok.frames.under t u in
          let b = ok.frames.most ((thread_at s t).origin.base / 64) in
          inr (omega arith)
