-- The loop's variables, and the entries that stand in the buffer. Assumes nothing.
use borrow.Author.Tests.{leb-true, leb-false, eqb-true}
use mathlib.Core.Bool.{Bool, true, false, cond, not, ◌&&◌, ◌||◌}
use mathlib.Core.List.{List, [], ◌++◌, append_assoc}
use mathlib.Core.Path.{◌≡◌, refl, sym, ◌∙◌, ap, subst}
use Prim.Native.Nat.{ℕ, ◌+◌, ◌-◌, ◌*◌, ◌≤◌, ◌<◌}
use native.Mathlib.Omega.{arith}
use lib.Dec.{eqb, leb}
use lib.ListN.{length, take, drop, replicate, length-append, length-drop}
use lib.Seq.{take_at, drop_at, drop-drop}
use Rattle.command.proofs.Bools.{both}
use Rattle.schedule.specs.declared.Entry.{Entry}
use Rattle.schedule.specs.declared.Entry.TheVariants.{Enable}
use Rattle.schedule.specs.Format.{bytes_of_entries}
use Rattle.thread.specs.Thread.{none}
use Rattle.rules.specs.State.{Job, State, After, is_over}
use Rattle.rules.specs.Rules.{entry_of}
use Rattle.rules.specs.Sound.{Sound}
use Rattle.entries.specs.declared.Carried.{Carried}
use Rattle.entries.specs.Repeat.{Repeats}
use Rattle.search.proofs.Searching.{lowest-is}
use Rattle.search.specs.Search.{choice_of, lowest_suspended, is_nothing}
use Rattle.rounds.specs.Rounds.{Progress, usable, scheduled_from, filled}
use Rattle.turns.specs.Steps.{steps_behind, last_kept, kept, Puts, Keeps, Rounded}
use Rattle.turns.proofs.Keeping.{short, last-bytes, bytes-append, many-append}
use Rattle.turns.proofs.Refusing.{enables}
use Rattle.turns.proofs.Rounding.{many, standing, Rounding, begins, passes_on, again-moved, again-enabled, ends-over, ends-short, ends-idle}
use Rattle.turns.proofs.Rows.{carries-on}

-- a round that another follows has accepted an entry, which counts as much as a round's cores and one more
abbrev pub bonus : Bool → ℕ
bonus b = cond b 5 0

bonus-few : (b : Bool) → bonus b ≤ 5
bonus-few true = omega arith
bonus-few false = omega arith

-- core c is next in a round; the entries written so far stand at the front of the buffer, which was `first`
pub record Stage (j : Job) (count room : ℕ) (begin : State) (first : List ℕ) (s : State) (at : ℕ) (buffer : List ℕ) (m : Bool) (c : ℕ) : Type 0 where
  pub entries : List Entry
  pub rounding : Rounding j count room begin (length first) s entries m c
  pub used : at ≡ many entries
  pub bytes : buffer ≡ bytes_of_entries entries ++ drop at first
  pub has : room ≤ length first

-- the test before a try
module _ (s : State) (left : ℕ) (over b : Bool) (is : over ≡ is_over s.outcome) (test : b ≡ (not over && leb 3 left)) where
  not-false : (x : Bool) → not x ≡ true → x ≡ false
  not-false true e = let z : ◌≡◌ {A = ℕ} 0 1 = cc in absurd (omega arith)
  not-false false e = refl

  pub test-met : b ≡ true → (is_over s.outcome ≡ false) × (3 ≤ left)
  test-met t =
      let f = both (not over) (leb 3 left) (sym test ∙ t) in
      (sym is ∙ not-false over f.0, leb-true 3 left f.1)

module _ (j : Job) (count room : ℕ) where
  pub begun : (s : State) (first : List ℕ) → Sound j s → s.count ≡ count → room ≡ usable (length first) → Stage j count room s first s 0 first false 0
  unfolding bytes_of_entries
  begun s first ok n r = record {
    entries = [];
    rounding = begins j count room s (length first) ok n r;
    used = refl;
    bytes = refl;
    has = omega (arith, r);
  }

  module _ (begin : State) (first : List ℕ) (s : State) (at : ℕ) (buffer : List ℕ) (m : Bool) (c : ℕ) (st : Stage j count room begin first s at buffer m c) where
    abbrev es : List Entry
    es = st.entries

    abbrev On : State → ℕ → List ℕ → Bool → ℕ → Type 0
    On s' at' buffer' m' c' = Stage j count room begin first s' at' buffer' m' c'

    pub within : at ≤ room
    within = omega (arith, st.used, st.rounding.within)

    pub same_size : length buffer ≡ length first
    same_size = ap length st.bytes ∙ length-append (bytes_of_entries es) (drop at first) ∙ omega (arith, length-drop at first, st.used, st.has, within)

    -- more entries are written
    module _ (ds : List Entry) (next : ℕ) (after : List ℕ) (k : Puts (bytes_of_entries ds) buffer at next after) where
      used-next : next ≡ many (es ++ ds)
      used-next = omega (arith, k.position, st.used, many-append es ds)

      bytes_next : after ≡ bytes_of_entries (es ++ ds) ++ drop next first
      bytes_next =
          let head : take at buffer ≡ bytes_of_entries es = ap (take at) st.bytes ∙ take_at (bytes_of_entries es) (drop at first) at (sym st.used) in
          let tail : drop (at + many ds) buffer ≡ drop next first =
          sym (drop-drop (many ds) at buffer)
          ∙ ap (λ (l : List ℕ). drop (many ds) (drop at l)) st.bytes
          ∙ ap (drop (many ds)) (drop_at (bytes_of_entries es) (drop at first) at (sym st.used))
          ∙ drop-drop (many ds) at first
          ∙ ap (λ (n : ℕ). drop n first) (sym k.position)
          in
          k.buffer
          ∙ ap (λ (l : List ℕ). l ++ (bytes_of_entries ds ++ drop (at + many ds) buffer)) head
          ∙ ap (λ (l : List ℕ). bytes_of_entries es ++ (bytes_of_entries ds ++ l)) tail
          ∙ sym (append_assoc (bytes_of_entries es) (bytes_of_entries ds) (drop next first))
          ∙ ap (λ (l : List ℕ). l ++ drop next first) (sym (bytes-append es ds))

    -- it ends
    finishes : standing room s es m ≡ scheduled_from j begin (length first) → Rounded j begin first s at buffer
    finishes all = record {
      state = ap (λ (x : Progress). x.state) all;
      used = st.used ∙ ap (λ (x : Progress). length (bytes_of_entries x.written)) all;
      buffer = st.bytes ∙ ap (λ (n : ℕ). bytes_of_entries es ++ drop n first) st.used ∙ ap (λ (x : Progress). filled first x.written) all;
    }

    -- "when over", or with "fewer than 3 bytes"
    pub stops : (over b : Bool) → over ≡ is_over s.outcome → b ≡ (not over && leb 3 (room - at)) → b ≡ false → Rounded j begin first s at buffer
    stops over b is test f = by over is (sym test ∙ f)
      where
        by : (o : Bool) → o ≡ is_over s.outcome → (not o && leb 3 (room - at)) ≡ false → Rounded j begin first s at buffer
        by true e g = finishes (ends-over j count room begin (length first) s es m c st.rounding (sym e))
        by false e g = finishes (ends-short j count room begin (length first) s es m c st.rounding (omega (arith, st.used, leb-false 3 (room - at) g)))

    -- "when nothing can be enabled"
    pub stops-idle : count ≤ c → m ≡ false → none ≤ lowest_suspended s → Rounded j begin first s at buffer
    stops-idle last still l = finishes (ends-idle j count room begin (length first) s es m c st.rounding last still l)

    -- core c makes no try
    pub passes : c < count → (e : Entry) → e ≡ choice_of j s c → is_nothing e ≡ true → On s at buffer m (c + 1)
    passes l e choice h = record {
      entries = es;
      rounding = passes_on j count room begin (length first) s es m c st.rounding l e choice h;
      used = st.used;
      bytes = st.bytes;
      has = st.has;
    }

    module _ (ongoing : is_over s.outcome ≡ false) (three : 3 ≤ room - at) where
      three-left : 3 ≤ room - many es
      three-left = omega (arith, three, st.used)

      -- core c tries an entry, perhaps again and again
      module _ (l : c < count) (e : Entry) (choice : e ≡ choice_of j s c) (more : ℕ) (behind : more ≡ steps_behind count (room - at)) (x : Carried) (end : State)
          (rep : Repeats j s e more x end) where
        on : Rounding j count room begin (length first) end (es ++ kept e x.again x.log) (m || eqb x.log 0) (c + 1)
        on =
            carries-on j count room begin (length first) s es m c st.rounding l e choice ongoing three-left x end
            (subst (λ (n : ℕ). Repeats j s e n x end) (behind ∙ ap (λ (n : ℕ). steps_behind count (room - n)) st.used) rep)

        pub room_for : at + length (bytes_of_entries (kept e x.again x.log)) ≤ length buffer
        room_for = omega (arith, on.within, many-append es (kept e x.again x.log), st.used, same_size, st.has)

        module _ (next : ℕ) (after : List ℕ) (k : Keeps e x.again x.log buffer at next after) where
          pub carries : On end next after (m || eqb x.log 0) (c + 1)
          carries = record {
            entries = es ++ kept e x.again x.log;
            rounding = on;
            used = used-next _ next after k;
            bytes = bytes_next _ next after k;
            has = st.has;
          }

          wrote : x.log ≡ 0 → at < next
          wrote z =
              let two : 2 ≤ length (bytes_of_entries (last_kept e x.log)) = rw (last-bytes e x.log (rw z)) (short e).0 in
              omega (arith, two, k.position, many-append (replicate x.again e) (last_kept e x.log))

          -- the bytes left and the bonus do not grow
          pub less : 5 * (room - next) + bonus (m || eqb x.log 0) ≤ 5 * (room - at) + bonus m
          less = by (eqb x.log 0) refl m
            where
              fits : next ≤ room
              fits = omega (arith, on.within, used-next _ next after k)

              by : (b : Bool) → eqb x.log 0 ≡ b → (o : Bool) → 5 * (room - next) + bonus (o || b) ≤ 5 * (room - at) + bonus o
              by true h o = omega (arith, wrote (eqb-true x.log 0 h), fits, bonus-few (o || true))
              by false h true = omega (arith, k.position)
              by false h false = omega (arith, k.position)

      -- all cores have had their turn
      module _ (last : count ≤ c) where
        -- an entry was accepted
        pub moves : m ≡ true → On s at buffer false 0
        moves h = record {
          entries = es;
          rounding = again-moved j count room begin (length first) s es m c st.rounding ongoing three-left last h;
          used = st.used;
          bytes = st.bytes;
          has = st.has;
        }

        -- the lowest suspended thread t is enabled
        module _ (still : m ≡ false) (t : ℕ) (lowest : t ≡ lowest_suspended s) (some : t < 32) (log : ℕ) (end : State)
            (gives : record { state = end; log = log } ≡ entry_of j s (Enable t)) where
          accepted-log : (entry_of j s (Enable t)).log ≡ 0
          accepted-log = enables j s t ongoing some (rw lowest (lowest-is s.threads 32 0 (rw lowest at some)))

          on-enabled : Rounding j count room begin (length first) end (es ++ last_kept (Enable t) log) false 0
          on-enabled =
              subst (λ (a : After). Rounding j count room begin (length first) a.state (es ++ last_kept (Enable t) a.log) false 0) (sym gives)
              (again-enabled j count room begin (length first) s es m c st.rounding ongoing three-left last still t lowest some accepted-log)

          pub enable-fits : at + length (bytes_of_entries (kept (Enable t) 0 log)) ≤ length buffer
          enable-fits = omega (arith, on-enabled.within, many-append es (last_kept (Enable t) log), st.used, same_size, st.has)

          module _ (next : ℕ) (after : List ℕ) (k : Keeps (Enable t) 0 log buffer at next after) where
            pub wakes : On end next after false 0
            wakes = record {
              entries = es ++ last_kept (Enable t) log;
              rounding = on-enabled;
              used = used-next _ next after k;
              bytes = bytes_next _ next after k;
              has = st.has;
            }

            pub woke : (at < next) × (next ≤ room)
            woke =
                let zero : log ≡ 0 = ap (λ (a : After). a.log) gives ∙ accepted-log in
                let two : 2 ≤ length (bytes_of_entries (last_kept (Enable t) log)) = rw (last-bytes (Enable t) log (rw zero)) (short (Enable t)).0 in
                (omega (arith, two, k.position), omega (arith, on-enabled.within, used-next _ next after k))
