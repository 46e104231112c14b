-- The state at Start is sound, so what is said of sound states is said of something. Assumes nothing.
use mathlib.Core.Bool.{true, false}
use mathlib.Core.List.{List}
use mathlib.Core.Logic.{inl}
use mathlib.Core.Path.{◌≡◌, refl, sym, ◌∙◌, ap}
use Prim.Native.Nat.{ℕ, ◌≤◌, ◌<◌}
use native.Mathlib.Decide.{ℕ_discrete, dec_lt}
use native.Mathlib.Omega.{arith}
use lib.ListN.{get_or, length, replicate, length-replicate, get_or-replicate, get_or-eq_default}
use lib.Seq.{get_or-set_other}
use Rattle.image.specs.Layout.{slots_of}
use Rattle.image.proofs.Accepted.{Accepts, accepted}
use Rattle.image.proofs.Laws.{slots-some, slots-most, start-good}
use Rattle.window.proofs.Laws.{root-fits}
use Rattle.stacklets.specs.Tops.{top_at, fits_on}
use Rattle.stacklets.proofs.Places.{fits-yes, pushed-length, pushed-top, pushed-other, pushed_most}
use Rattle.stacklets.specs.Frames.{pushed_words}
use Rattle.stacklets.proofs.Words.{length-pushed, framed-out}
use Rattle.thread.specs.Thread.{blank_thread, root_thread, none}
use Rattle.rules.specs.State.{Job, State, thread_at, on_core}
use Rattle.rules.specs.Start.{start_state}
use Rattle.rules.specs.Sound.{GoodJob, Sized, Positioned, Seats, Links, Turns, Tree, children_among, Results, Windows, FreeThreads, Frames, FreeStacklets, FreeWords, Sound, Used, Unused, status_at}
use Rattle.soundness.proofs.AscendingNumbers.{ascending-every, ascending-distinct, ascending-stands}

-- a table of equal records reads the same everywhere
alike : {A : Type 0} (n i : ℕ) (a : A) → get_or (replicate n a) i a ≡ a
alike n i a = go (dec_lt i n)
  where
    go : Dec (i < n) → get_or (replicate n a) i a ≡ a
    go (yes l) = get_or-replicate n i a a l
    go (no l) = get_or-eq_default (replicate n a) a {n = i} (rw length-replicate (omega arith))

module _ (j : Job) (count : ℕ) (arguments memory : List ℕ) where
  abbrev start : State
  start = start_state j count arguments memory

  -- the number of words in the root's frame
  abbrev size : ℕ
  size = slots_of j.image 0

  -- every thread but the root is free
  blank-else : (t : ℕ) → (t ≡ 0 → ⊥) → thread_at start t ≡ blank_thread
  unfolding start_state
  blank-else t n = get_or-set_other (replicate 32 blank_thread) 0 t root_thread blank_thread n ∙ alike 32 t blank_thread

  status-else : (t : ℕ) → (t ≡ 0 → ⊥) → status_at start t ≡ 0
  status-else t n = rw (blank-else t n)

  root-status : status_at start 0 ≡ 1
  unfolding start_state
  root-status = refl

  used-root : (t : ℕ) → Used start t → t ≡ 0
  used-root t u = go (ℕ_discrete t 0)
    where
      go : Dec (t ≡ 0) → t ≡ 0
      go (yes e) = e
      go (no n) = let z = status-else t n in absurd (omega arith)

  -- any other number than 0 and 1 is no thread's status
  only-running : (t n : ℕ) → status_at start t ≡ n → (n ≡ 0 → ⊥) → n ≡ 1
  only-running t n e d = let r : t ≡ 0 = used-root t (omega arith) in sym e ∙ ap (status_at start) r ∙ root-status

  unconnected : (t : ℕ) → (thread_at start t).connected ≡ false
  unfolding start_state
  unconnected t = go (ℕ_discrete t 0)
    where
      go : Dec (t ≡ 0) → (thread_at start t).connected ≡ false
      go (yes e) = rw e
      go (no n) = ap (λ h. h.connected) (blank-else t n)

  never-connected : (t : ℕ) → (thread_at start t).connected ≡ true → ⊥
  never-connected t e = let f : false ≡ true = sym (unconnected t) ∙ e in let z : ◌≡◌ {A = ℕ} 0 1 = cc in omega arith

  -- a core but the first is idle
  idle-else : (c : ℕ) → c < 4 → (c ≡ 0 → ⊥) → on_core start c ≡ none
  unfolding start_state
  idle-else c l n = get_or-set_other (replicate 4 none) 0 c 0 0 n ∙ get_or-replicate 4 c none 0 l

  core-first : on_core start 0 ≡ 0
  unfolding start_state
  core-first = refl

  start-placed : GoodJob j → Positioned j start
  unfolding start_state
  start-placed g = record {
    routine = λ t u. rw (used-root t u) (accepted j.image g.image).some;
    position = λ t u. rw (used-root t u) (start-good j.image (accepted j.image g.image) 0 (accepted j.image g.image).some);
    pending = λ t u. rw (used-root t u) (omega arith);
    result = λ t u. rw (used-root t u) (omega arith);
    join = λ t e. let z = only-running t 4 e (omega arith) in absurd (omega arith);
  }

  start-links : Links start
  start-links = record {
    lent = λ p e. let z = only-running p 5 e (omega arith) in absurd (omega arith);
    linked = λ u e. absurd (never-connected u e);
    only = λ u v e f g. absurd (never-connected u e);
  }

  start-turns : Turns start
  unfolding start_state
  start-turns = record { ready = tt; once = tt; stands = λ t e. let z = only-running t 2 e (omega arith) in absurd (omega arith) }

  start-tree : Tree start
  unfolding start_state children_among
  start-tree = record {
    waits = λ t e. let z = only-running t 4 e (omega arith) in absurd (omega arith);
    counted = λ t u. rw (used-root t u);
    rank = λ t. 0;
    deep = 1;
    low = λ t. omega arith;
    tree = λ t u. inl (used-root t u, rw (used-root t u));
    root = λ f. omega arith;
    over = λ v e. let z : ◌≡◌ {A = ℕ} 0 1 = cc in absurd (omega arith);
  }

  start-results : Results start
  start-results = record {
    pending = λ u h n. absurd (n (used-root u h));
    distinct = λ u v h k e f. used-root u h ∙ sym (used-root v k);
  }

  start-windows : Windows start
  unfolding start_state
  start-windows = record {
    fits = λ t u. rw (used-root t u) root-fits;
    root = λ u. (refl, refl);
    inside = λ u h n. absurd (n (used-root u h));
    apart = λ u v h k n e. absurd (n (used-root u h ∙ sym (used-root v k)));
    given = λ u h n l. absurd (n (used-root u h));
  }

  start-free-threads : FreeThreads start
  unfolding start_state
  start-free-threads = record {
    free = ascending-every (λ n. (n < 32) × (status_at start n ≡ 0)) 1 31 (λ x l m. (m, status-else x (λ e. omega arith)));
    once = ascending-distinct 1 31;
    stands = λ t l e. ascending-stands 1 31 t (positive t e (ℕ_discrete t 0)) l;
  }
    where
      positive : (t : ℕ) → status_at start t ≡ 0 → Dec (t ≡ 0) → 1 ≤ t
      positive t e (yes z) = let a : status_at start t ≡ 1 = rw z in absurd (omega arith)
      positive t e (no n) = omega arith

  module _ (some : 1 ≤ count) (most : count ≤ 4) where
    start-seats : Seats start
    unfolding start_state
    start-seats = record {
      runs = λ c l m. rw (busy c l m (ℕ_discrete c 0));
      seated = λ t e. (0, some, core-first ∙ sym (used-root t (omega arith)));
      one = λ c d l m b e. busy c l b (ℕ_discrete c 0) ∙ sym (busy d m (rw e at b) (ℕ_discrete d 0));
    }
      where
        busy : (c : ℕ) → c < count → on_core start c < none → Dec (c ≡ 0) → c ≡ 0
        busy c l m (yes e) = e
        busy c l m (no n) = let z = idle-else c (omega arith) n in absurd (omega arith)

    start-sized : length memory ≡ 992 → Sized j start
    unfolding start_state
    start-sized words = record {
      threads = refl;
      cores = refl;
      tops = pushed-length (replicate 16 0) 0 size;
      words = length-pushed (replicate 16 0) (replicate 1024 0) 0 size arguments ∙ length-replicate {A = ℕ} 1024 0;
      memory = words;
      some = some;
      most = most;
      units = omega arith;
    }

  module _ (g : GoodJob j) where
    a : Accepts j.image
    a = accepted j.image g.image

    fit : fits_on (replicate 16 0) 0 size ≡ true
    fit = fits-yes (replicate 16 0) 0 size (omega arith) (let m = slots-most j.image a 0 a.some in omega arith)

    start-frames : Frames j start
    unfolding start_state
    start-frames = record {
      bounded = λ t u. rw (used-root t u) (omega arith);
      most = λ x. pushed_most (replicate 16 0) 0 size fit (slots-some j.image a 0 a.some) x (rw (alike {A = ℕ} 16 x 0) (omega arith));
      under = λ t u. rw (used-root t u, pushed-top (replicate 16 0) 0 size fit (slots-some j.image a 0 a.some) (omega arith)) (omega arith);
      apart = λ t u h k n. absurd (n (used-root t h ∙ sym (used-root u k)));
      stacked = λ t u. rw (used-root t u) (inl refl);
      result = λ t u n. absurd (n (used-root t u));
    }

    -- all words are zero but routine 0's arguments, which its frame holds
    start-free-words : FreeWords j start
    unfolding start_state pushed_words
    start-free-words = record {
      zero = λ i h. rw fit (framed-out (replicate 1024 0) 0 size arguments i (h 0 (omega arith)) ∙ alike {A = ℕ} 1024 i 0);
    }

    start-free-stacklets : FreeStacklets start
    unfolding start_state
    start-free-stacklets = record {
      free = ascending-every
          (λ x. (x < 16) × (top_at start.store.tops x ≡ 0) × Unused start x) 1 15 (λ x l m. (
            m,
            pushed-other (replicate 16 0) 0 size fit (slots-some j.image a 0 a.some) x (λ e. omega arith) ∙ alike {A = ℕ} 16 x 0,
            λ t u e. let z : ◌≡◌ {A = ℕ} 0 x = rw (used-root t u) at e in omega arith,
          ));
      once = ascending-distinct 1 15;
      stands = λ x l u. ascending-stands 1 15 x (positive x u (ℕ_discrete x 0)) l;
    }
      where
        positive : (x : ℕ) → Unused start x → Dec (x ≡ 0) → 1 ≤ x
        positive x u (yes z) = absurd (u 0 (omega arith) (sym z))
        positive x u (no n) = omega arith

-- Start is sound: for every accepted image, 1 to 4 cores, any arguments and 992 memory words
pub start-sound : (j : Job) (count : ℕ) (arguments memory : List ℕ) → GoodJob j → 1 ≤ count → count ≤ 4 → length memory ≡ 992
    → Sound j (start_state j count arguments memory)
start-sound j count arguments memory g some most words = record {
  job = g;
  sized = start-sized j count arguments memory some most words;
  placed = start-placed j count arguments memory g;
  seats = start-seats j count arguments memory some most;
  links = start-links j count arguments memory;
  turns = start-turns j count arguments memory;
  tree = start-tree j count arguments memory;
  results = start-results j count arguments memory;
  windows = start-windows j count arguments memory;
  free_threads = start-free-threads j count arguments memory;
  frames = start-frames j count arguments memory g;
  free_stacklets = start-free-stacklets j count arguments memory g;
  free_words = start-free-words j count arguments memory g;
}
