-- The tries of a round: the cores that are left in it, and the rounds behind it, lead to where all rounds do. Assumes nothing.
use borrow.Author.Tests.{le-leb, lt-leb, lt-ltb, le-ltb, eqb-true}
use mathlib.Core.Bool.{and-false, Bool, true, false, cond, ◌&&◌, ◌||◌, not}
use mathlib.Core.List.{List, [], ◌∷◌, ◌++◌, append-nil}
use mathlib.Core.Path.{◌≡◌, refl, sym, ◌∙◌, ap}
use Prim.Native.Nat.{ℕ, zero, suc, ◌+◌, ◌-◌, ◌≤◌, ◌<◌}
use native.Mathlib.Numerals.{add-one}
use native.Mathlib.Nat.{sub-zero}
use native.Mathlib.Omega.{arith}
use lib.Dec.{eqb, leb}
use lib.ListN.{length}
use Rattle.schedule.specs.declared.Entry.{Entry}
use Rattle.schedule.specs.declared.Entry.TheVariants.{Enable}
use Rattle.schedule.specs.Format.{bytes_of_entry, bytes_of_entries}
use Rattle.thread.specs.Thread.{none}
use Rattle.rules.specs.State.{Job, State, After, is_over}
use Rattle.rules.specs.Rules.{entry_of}
use Rattle.rules.specs.Sound.{Sound}
use Rattle.soundness.proofs.Kept.{entry-sound}
use Rattle.soundness.proofs.KeepSized.{keep-count}
use Rattle.search.specs.Search.{choice_of, lowest_suspended, is_nothing}
use Rattle.rounds.specs.Rounds.{Progress, is_written, may_try, recorded, tried, turns, fresh, plays_on, wakened, rounds, usable, beginning, scheduled_from}
use Rattle.turns.specs.Steps.{last_kept}
use Rattle.turns.proofs.Keeping.{short, last-bytes, last-few, many-append}
use Rattle.turns.proofs.Refusing.{refused-stays, nothing-refused}

-- how many bytes entries have
abbrev pub many : List Entry → ℕ
many es = length (bytes_of_entries es)

-- how far the scheduler has come, by the state, the entries written and whether one of this round was accepted
abbrev pub standing : ℕ → State → List Entry → Bool → Progress
standing room s es m = record { state = s; written = es; left = room - many es; moved = m }

-- what may not be tried changes nothing
stuck : (j : Job) (p : Progress) → may_try p ≡ false → (n c : ℕ) → turns n j c p ≡ p
unfolding turns tried
stuck j p h zero c = refl
stuck j p h (suc n) c =
    let same : tried j (choice_of j p.state c) p ≡ p = rw h in
    ap (turns n j (suc c)) same ∙ stuck j p h n (suc c)

-- a refused entry leaves the progress as it is
tried-refused : (j : Job) (e : Entry) (p : Progress) → is_written (entry_of j p.state e).log ≡ false → tried j e p ≡ p
unfolding tried recorded
tried-refused j e p h = rw h (same (may_try p))
  where
    same : (b : Bool) → cond b p p ≡ p
    same true = refl
    same false = refl

or-none : (b : Bool) (n : ℕ) → is_written n ≡ false → (b || eqb n 0) ≡ b
or-none b n h = go (eqb n 0) h b
  where
    go : (x : Bool) → (x || ((leb 9 n && leb n 12) || eqb n 31)) ≡ false → (b : Bool) → (b || x) ≡ b
    go true e b = let z : ◌≡◌ {A = ℕ} 0 1 = cc in absurd (omega arith)
    go false e true = refl
    go false e false = refl

-- what an entry that was tried leads to
module _ (room : ℕ) (s : State) (es : List Entry) (m : Bool) (e : Entry) (a : After) where
  recorded-is : (is_written a.log ≡ false → a.state ≡ s) → recorded e a (standing room s es m) ≡ standing room a.state (es ++ last_kept e a.log) (m || eqb a.log 0)
  unfolding recorded
  recorded-is stays = by (is_written a.log) refl
    where
      by : (b : Bool) → is_written a.log ≡ b → recorded e a (standing room s es m) ≡ standing room a.state (es ++ last_kept e a.log) (m || eqb a.log 0)
      by true h =
          let l : room - many es - length (bytes_of_entry e) ≡ room - many (es ++ last_kept e a.log) = omega (arith, many-append es (last_kept e a.log), ap length (last-bytes e a.log h)) in
          rw h
          (ap (λ (n : ℕ). record { state = a.state; written = es ++ (e ∷ []); left = n; moved = m || eqb a.log 0 }) (rw h at l))
      by false h = rw (h, append-nil es, or-none m a.log h, stays h) refl

-- what is left once a round has come to its end: the rounds behind it, n at most
abbrev onward-from : Job → ℕ → Progress → Progress
onward-from j n p = cond (plays_on p) (rounds n j (wakened j p)) p

-- core c is next in a round; all rounds begin with the state `begin` and a buffer of so many bytes
pub record Rounding (j : Job) (count room : ℕ) (begin : State) (size : ℕ) (s : State) (es : List Entry) (m : Bool) (c : ℕ) : Type 0 where
  pub sound : Sound j s
  pub cores : s.count ≡ count
  pub core : c ≤ count
  pub within : many es ≤ room
  -- nothing is accepted before core 0's turn
  pub front : c ≡ 0 → m ≡ false
  -- the rounds left behind this one: each round that another follows has written something
  pub fuel : ℕ
  pub enough : room - many es ≤ fuel
  pub grown : m ≡ true → room - many es < fuel
  pub rest : onward-from j fuel (turns (count - c) j c (standing room s es m)) ≡ scheduled_from j begin size

-- the turn of core c is the first of those left
turn-first : (j : Job) (n k c : ℕ) (p : Progress) → n ≡ suc k → turns n j c p ≡ turns k j (c + 1) (tried j (choice_of j p.state c) p)
unfolding turns
turn-first j n k c p l = rw (l, add-one)

no-turns : (j : Job) (n c : ℕ) (p : Progress) → n ≤ 0 → turns n j c p ≡ p
unfolding turns
no-turns j zero c p h = refl
no-turns j (suc n) c p h = absurd (omega arith)

-- a round and what follows it
one-round : (j : Job) (n count : ℕ) (p : Progress) → p.state.count ≡ count → rounds (suc n) j p ≡ onward-from j n (turns (count - 0) j 0 (fresh p))
unfolding rounds
one-round j n count p e = ap (λ (k : ℕ). onward-from j n (turns k j 0 (fresh p))) (e ∙ sym (sub-zero count))

false-not : {A : Type 0} → false ≡ true → A
false-not e = let z : ◌≡◌ {A = ℕ} 0 1 = cc in absurd (omega arith)

-- whether another round follows, and from where
goes-not : (p : Progress) → p.moved ≡ false → none ≤ lowest_suspended p.state → plays_on p ≡ false
goes-not p still l = rw (still, le-ltb _ _ l) (and-false (may_try p))

goes_moved : (p : Progress) → may_try p ≡ true → p.moved ≡ true → plays_on p ≡ true
goes_moved p try moved = rw (try, moved)

goes-enabled : (p : Progress) → may_try p ≡ true → p.moved ≡ false → lowest_suspended p.state < none → plays_on p ≡ true
goes-enabled p try still l = rw (try, still, lt-ltb _ _ l)

from-moved : (j : Job) (p : Progress) → p.moved ≡ true → wakened j p ≡ p
unfolding wakened
from-moved j p moved = rw moved

from-enabled : (j : Job) (p : Progress) (t : ℕ) → p.moved ≡ false → lowest_suspended p.state ≡ t → wakened j p ≡ tried j (Enable t) p
unfolding wakened
from-enabled j p t still e = rw (still, e)

module _ (j : Job) (count room : ℕ) where
  -- the first round
  pub begins : (s : State) (size : ℕ) → Sound j s → s.count ≡ count → room ≡ usable size → Rounding j count room s size s [] false 0
  unfolding bytes_of_entries
  begins s size ok n r =
      let whole : room - 0 ≡ usable size = sub-zero room ∙ r in
      record {
        sound = ok;
        cores = n;
        core = omega arith;
        within = omega arith;
        front = λ _. refl;
        fuel = usable size;
        enough = omega (arith, r);
        grown = λ e. false-not e;
        rest = ap (λ (x : ℕ). onward-from j (usable size) (turns (count - 0) j 0 (record { state = s; written = []; left = x; moved = false }))) whole
            ∙ sym (one-round j (usable size) count (beginning s size) n);
      }

  module _ (begin : State) (size : ℕ) (s : State) (es : List Entry) (m : Bool) (c : ℕ) (r : Rounding j count room begin size s es m c) where
    abbrev now : Progress
    now = standing room s es m

    abbrev On : State → List Entry → Bool → ℕ → Type 0
    On s' es' m' c' = Rounding j count room begin size s' es' m' c'

    rest_of : c < count → (e : Entry) → e ≡ choice_of j s c → (q : Progress) → tried j e now ≡ q
        → onward-from j r.fuel (turns (count - (c + 1)) j (c + 1) q) ≡ scheduled_from j begin size
    rest_of l e choice q h =
        ap (λ (x : Progress). onward-from j r.fuel (turns (count - (c + 1)) j (c + 1) x)) (sym h)
        ∙ ap (λ (d : Entry). onward-from j r.fuel (turns (count - (c + 1)) j (c + 1) (tried j d now))) choice
        ∙ ap (onward-from j r.fuel) (sym (turn-first j (count - c) (count - (c + 1)) c now (omega arith)))
        ∙ r.rest

    -- core c makes no try
    pub passes_on : c < count → (e : Entry) → e ≡ choice_of j s c → is_nothing e ≡ true → On s es m (c + 1)
    passes_on l e choice h = record {
      sound = r.sound;
      cores = r.cores;
      core = omega arith;
      within = r.within;
      front = λ z. absurd (omega (arith, z));
      fuel = r.fuel;
      enough = r.enough;
      grown = r.grown;
      rest = rest_of l e choice now (tried-refused j e now (nothing-refused j s e h));
    }

    -- there may be a try
    module _ (ongoing : is_over s.outcome ≡ false) (three : 3 ≤ room - many es) where
      may : may_try now ≡ true
      may = rw (ongoing) (le-leb 3 (room - many es) three)

      tries : (e : Entry) → tried j e now ≡ standing room (entry_of j s e).state (es ++ last_kept e (entry_of j s e).log) (m || eqb (entry_of j s e).log 0)
      unfolding tried
      tries e = rw may (recorded-is room s es m e (entry_of j s e) (refused-stays j s e))

      -- the bytes of its entry
      wrote : (e : Entry) (log : ℕ) → many (es ++ last_kept e log) ≡ many es + many (last_kept e log)
      wrote e log = many-append es (last_kept e log)

      accepts : (e : Entry) (log : ℕ) → log ≡ 0 → 2 ≤ many (last_kept e log)
      accepts e log z = rw (last-bytes e log (rw z)) (short e).0

      -- core c tries
      pub turns-on : c < count → (e : Entry) → e ≡ choice_of j s c
          → On (entry_of j s e).state (es ++ last_kept e (entry_of j s e).log) (m || eqb (entry_of j s e).log 0) (c + 1)
      turns-on l e choice =
          let log = (entry_of j s e).log in
          record {
            sound = entry-sound j s r.sound e;
            cores = keep-count j s r.sound e ∙ r.cores;
            core = omega arith;
            within = omega (arith, wrote e log, last-few e log, three);
            front = λ z. absurd (omega (arith, z));
            fuel = r.fuel;
            enough = omega (arith, r.enough, wrote e log);
            grown = λ d. grows e log m refl d;
            rest = rest_of l e choice _ (tries e);
          }
        where
          grows : (e : Entry) (log : ℕ) (b : Bool) → m ≡ b → (b || eqb log 0) ≡ true → room - many (es ++ last_kept e log) < r.fuel
          grows e log true h d = omega (arith, r.grown h, wrote e log)
          grows e log false h d = omega (arith, r.enough, wrote e log, accepts e log (eqb-true log 0 d), three)

      -- all cores have had their turn
      module _ (last : count ≤ c) where
        -- another round, from a progress that has written more
        another : (s' : State) (es' : List Entry) (m' : Bool) → plays_on now ≡ true → wakened j now ≡ standing room s' es' m'
            → Sound j s' → s'.count ≡ count → room - many es' < r.fuel → many es' ≤ room → On s' es' false 0
        another s' es' m' g w ok n less fits = by-fuel r.fuel refl
          where
            by-fuel : (f : ℕ) → r.fuel ≡ f → On s' es' false 0
            by-fuel zero e = absurd (omega (arith, less, e))
            by-fuel (suc f) e =
                let follows : onward-from j r.fuel (turns (count - c) j c now) ≡ rounds (suc f) j (standing room s' es' m') = rw (no-turns j (count - c) c now (omega arith), g, w, e) in
                record {
                  sound = ok;
                  cores = n;
                  core = omega arith;
                  within = fits;
                  front = λ _. refl;
                  fuel = f;
                  enough = omega (arith, less, e);
                  grown = λ d. false-not d;
                  rest = sym (one-round j f count (standing room s' es' m') n) ∙ sym follows ∙ r.rest;
                }

        -- an entry was accepted
        pub again-moved : m ≡ true → On s es false 0
        again-moved h = another s es m (goes_moved now may h) (from-moved j now h) r.sound r.cores (r.grown h) r.within

        -- the lowest suspended thread t is enabled
        pub again-enabled : m ≡ false → (t : ℕ) → t ≡ lowest_suspended s → t < 32 → (entry_of j s (Enable t)).log ≡ 0
            → On (entry_of j s (Enable t)).state (es ++ last_kept (Enable t) (entry_of j s (Enable t)).log) false 0
        again-enabled still t lowest some log =
            let e = Enable t in
            let a = entry_of j s (Enable t) in
            another a.state (es ++ last_kept e a.log) (m || eqb a.log 0) (goes-enabled now may still (omega (arith, lowest, some)))
            (from-enabled j now t still (sym lowest) ∙ tries e)
            (entry-sound j s r.sound e) (keep-count j s r.sound e ∙ r.cores)
            (omega (arith, r.enough, wrote e a.log, accepts e a.log log, three)) (omega (arith, wrote e a.log, last-few e a.log, three))

    -- it ends
    module _ (n : turns (count - c) j c now ≡ now) (h : plays_on now ≡ false) where
      pub ends : now ≡ scheduled_from j begin size
      ends = let e : onward-from j r.fuel (turns (count - c) j c now) ≡ now = rw (n, h) in sym e ∙ r.rest

    ends-test : may_try now ≡ false → now ≡ scheduled_from j begin size
    ends-test h = ends (stuck j now h (count - c) c) (rw h)

    -- "It ends when over"
    pub ends-over : is_over s.outcome ≡ true → now ≡ scheduled_from j begin size
    ends-over h = ends-test (rw h)

    -- "or when before a try fewer than 3 bytes are left"
    pub ends-short : room - many es < 3 → now ≡ scheduled_from j begin size
    ends-short h = ends-test (rw (lt-leb 3 (room - many es) h) (and-false (not (is_over s.outcome))))

    -- "when nothing can be enabled"
    pub ends-idle : count ≤ c → m ≡ false → none ≤ lowest_suspended s → now ≡ scheduled_from j begin size
    ends-idle last h l = ends (no-turns j (count - c) c now (omega arith)) (goes-not now h l)
