-- Steps of one core in a row, with the thread's position and the units held apart from the tables. Assumes nothing.
use Rattle.std.proofs.Common.{◌≡◌, ℕ, zero, suc, ◌+◌, ◌-◌, ◌%◌, ◌^◌, ◌<◌, ◌≤◌, Bool, ◌&&◌, eqb, ltb, ◌⊎◌, List, length, get_or, sym, refl, ap, ◌∙◌, subst, inl, inr, ⊎_elim, mod-eq_of_lt, arith, get_or-set_same, set-set}
use lib.Seq.{set-get_or}
use Rattle.command.specs.declared.Command.{Command}
use Rattle.command.specs.Command.{decoded_at, five_at, width_of}
use Rattle.command.specs.Weight.{weight_of, standard_weights}
use Rattle.schedule.specs.declared.Entry.{Entry}
use Rattle.schedule.specs.declared.Entry.TheVariants.{Step}
use Rattle.thread.specs.declared.Thread.{Thread}
use Rattle.thread.specs.declared.Effect.{Effect}
use Rattle.thread.specs.Thread.{blank_thread, moved_to, is_pending}
use Rattle.thread.specs.Effect.{effect_of}
use Rattle.thread.specs.Bytes.{bytes_by}
use Rattle.thread.specs.View.{context_of}
use Rattle.thread.proofs.EffectFacts.{Guarded}
use Rattle.thread.proofs.Widths.{Widened}
use Rattle.stacklets.specs.Frames.{slot_of}
use Rattle.image.specs.Layout.{arguments_of}
use Rattle.rules.specs.Turn.{Turn, offset_of, byte_of, completed}
use Rattle.entries.specs.Given.{Seated, Leaving, Carrying, record_in, turn_with, turn_in}
use Rattle.dispatch.specs.Orderly.{after}
use Rattle.entries.proofs.Meeting.{place-low, next_low, known-byte, tested, wide, few, based, not-own-parent, carrying}
use Rattle.dispatch.proofs.Able.{linked-below, free-first, stacklet-first}
use Rattle.std.specs.Prelude.{Some}
use Rattle.entries.specs.Own.{IsOther, OwnAs, with_both}
use Rattle.entries.proofs.Owning.{joins}
use Rattle.entries.proofs.Stepping.{short-is, rest-is, own_is}
use Rattle.rules.specs.State.{Job, job_of, State, After, thread_at}
use Rattle.rules.specs.Update.{accepted}
use Rattle.rules.specs.Rules.{entry_of, step_of}
use Rattle.rules.specs.Sound.{Sound, Used, status_at}
use Rattle.soundness.proofs.Kept.{entry-sound}
use Rattle.tables.specs.Meaning.{size, meaning}
use Rattle.tables.specs.Change.{Becomes}
use Rattle.entries.specs.declared.Carried.{Carried}
use Rattle.entries.specs.Repeat.{repeated, Repeats}
use Rattle.entries.specs.Burst.{Busy, stands_at, short_of, rest_given}

below_or : (i n : ℕ) → i < suc n → (i < n) ⊎ (i ≡ n)
below_or zero zero l = inr refl
below_or zero (suc n) l = inl (omega arith)
below_or (suc i) zero l = absurd (omega (arith, l))
below_or (suc i) (suc n) l = ⊎_elim (λ h. inl (omega (arith, h))) (λ h. inr (ap suc h)) (below_or i n (omega (arith, l)))

pub repeated-sound : (j : Job) (e : Entry) (s : State) → Sound j s → (n : ℕ) → Sound j (repeated j e s n)
unfolding repeated
repeated-sound j e s ok zero = ok
repeated-sound j e s ok (suc n) = entry-sound j (repeated j e s n) (repeated-sound j e s ok n) e

-- an entry that was carried out once
pub once-repeats : (j : Job) (s : State) (e : Entry) (more : ℕ) (r : Carried) (end : State) → r.again ≡ 0
    → record { state = end; log = r.log } ≡ entry_of j s e → Repeats j s e more r end
unfolding repeated
once-repeats j s e more r end z f = record {
  few = omega (arith, z);
  steps = λ l. absurd (omega (arith, z, l));
  accepts = λ i l. absurd (omega (arith, z, l));
  stays = λ i l. let first : i ≡ 0 = omega (arith, z, l) in rw first refl;
  going = λ i l. let first : i ≡ 0 = omega (arith, z, l) in rw first refl;
  last = rw z f;
}

module _ {image starts parameters : List ℕ} {allowance : ℕ} {xs ws₀ ms₀ : List ℕ} {c t : ℕ} (busy : Busy image starts parameters allowance xs ws₀ ms₀ c t) where
  abbrev j : Job
  j = job_of image starts parameters allowance

  abbrev s₀ : State
  s₀ = meaning xs ws₀ ms₀

  -- the thread's record before the first step
  abbrev th₀ : Thread
  th₀ = thread_at s₀ t

  -- the state with what is held
  abbrev pub held : ℕ → ℕ → List ℕ → List ℕ → State
  held p left ws ms = stands_at t p (allowance - left) (meaning xs ws ms)

  -- k steps were made, all accepted and none of which changed the cores or the outcome
  pub record Made (k p left : ℕ) (ws ms : List ℕ) : Type 0 where
    pub few : left ≤ allowance
    pub state : repeated j (Step c) s₀ k ≡ held p left ws ms
    pub accepts : (i : ℕ) → i < k → (entry_of j (repeated j (Step c) s₀ i) (Step c)).log ≡ 0
    pub stays : (i : ℕ) → i ≤ k → (repeated j (Step c) s₀ i).cores ≡ s₀.cores
    pub going : (i : ℕ) → i ≤ k → (repeated j (Step c) s₀ i).outcome ≡ s₀.outcome

  -- the command at position p: its place in the image, and its first byte
  pub record Stands (p place byte : ℕ) : Type 0 where
    pub there : place ≡ offset_of j (moved_to p th₀)
    pub first : byte ≡ get_or image place 0

  -- as the code finds it
  pub stands : (th : Thread) (start p : ℕ) (five : List ℕ) → th ≡ th₀ → start ≡ get_or starts th.origin.routine 0 + 0 → five ≡ five_at image (start + p)
      → Stands p (start + p) (get_or five 0 0)
  stands th start p five seen starting bytes = record {
    there = omega (arith, starting, ap (λ (h : Thread). get_or starts h.origin.routine 0) seen);
    first = ap (λ (l : List ℕ). get_or l 0 0) bytes;
  }

  -- its effect
  abbrev pub Does : List ℕ → ℕ → Effect → Type 0
  Does ws place e = e ≡ effect_of (arguments_of image) (context_of (slot_of ws th₀.origin.base) (is_pending th₀.family.pending) th₀.family.window) (decoded_at image place)

  pub does : (th : Thread) (place : ℕ) (ws five : List ℕ) (command : Command) (e : Effect) → th ≡ th₀ → five ≡ five_at image place → command ≡ decoded_at five 0
      → e ≡ effect_of (arguments_of image) (context_of (slot_of ws th.origin.base) (is_pending th.family.pending) th.family.window) command → Does ws place e
  does th place ws five command e seen bytes is f = f ∙ rw (seen, is, bytes) refl

  many : length s₀.threads ≡ 32
  many = busy.sounding.sound.sized.threads

  pub begins : (th : Thread) (u : ℕ) → th ≡ th₀ → u ≡ s₀.units → Made 0 th.position (allowance - u) ws₀ ms₀
  unfolding repeated meaning
  begins th u met so_far =
      let within = busy.sounding.sound.sized.units in
      let same : u ≡ allowance - (allowance - u) = omega (arith, so_far, within) in
      record {
        few = omega arith;
        state = rw (← same, so_far, met) (ap (λ (l : List Thread). with-threads l) (sym (set-get_or s₀.threads t blank_thread)));
        accepts = λ i l. absurd (omega (arith, l));
        stays = λ i l. let first : i ≡ 0 = omega (arith, l) in rw first refl;
        going = λ i l. let first : i ≡ 0 = omega (arith, l) in rw first refl;
      }
    where
      with-threads : List Thread → State
      with-threads l =
          record { threads = l; cores = s₀.cores; count = s₀.count; queues = s₀.queues; store = s₀.store; units = s₀.units; outcome = s₀.outcome }

  module _ {k p left : ℕ} {ws ms : List ℕ} (made : Made k p left ws ms) where
    -- the state before the next step is sound, and its thread in use
    pub sound : Sound j (held p left ws ms)
    sound = rw made.state at (repeated-sound j (Step c) s₀ busy.sounding.sound k)

    pub met : moved_to p th₀ ≡ thread_at (held p left ws ms) t
    unfolding meaning
    met = sym (get_or-set_same s₀.threads t (moved_to p th₀) blank_thread (omega (arith, many, busy.number)))

    pub used : Used (held p left ws ms) t
    unfolding meaning
    used =
        let runs = sound.seats.runs c busy.core (rw busy.on at busy.number) in
        let one : status_at (held p left ws ms) t ≡ 1 = subst (λ (x : ℕ). status_at (held p left ws ms) x ≡ 1) (sym busy.on) runs in
        omega (arith, one)

    -- one step more
    pub goes : (p' left' : ℕ) (ws' ms' : List ℕ) → left' ≤ allowance → step_of j (held p left ws ms) c ≡ accepted (held p' left' ws' ms') → Made (suc k) p' left' ws' ms'
    unfolding repeated entry_of meaning
    goes p' left' ws' ms' few f =
        let state : repeated j (Step c) s₀ (suc k) ≡ held p' left' ws' ms' =
        ap (λ (x : State). (entry_of j x (Step c)).state) made.state ∙ ap (λ (a : After). a.state) f
        in
        let log : (entry_of j (repeated j (Step c) s₀ k) (Step c)).log ≡ 0 = ap (λ (x : State). (entry_of j x (Step c)).log) made.state ∙ ap (λ (a : After). a.log) f in
        record {
          few = few;
          state = state;
          accepts = λ i l. ⊎_elim (λ h. made.accepts i h) (λ h. rw h log) (below_or i k l);
          stays = λ i l. ⊎_elim (λ h. made.stays i (omega (arith, h))) (λ h. rw h (ap (λ (x : State). x.cores) state)) (below_or i (suc k) (omega (arith, l)));
          going = λ i l. ⊎_elim (λ h. made.going i (omega (arith, h))) (λ h. rw h (ap (λ (x : State). x.outcome) state)) (below_or i (suc k) (omega (arith, l)));
        }

    -- position and units are back in the tables
    module _ {ys : List ℕ} (back : Becomes xs ys (stands_at (t % 32) p (allowance - left))) where
      pub put : meaning ys ws ms ≡ held p left ws ms
      put = back.means busy.sounding.sized ws ms ∙ ap (λ (n : ℕ). stands_at n p (allowance - left) (meaning xs ws ms)) (mod-eq_of_lt busy.number)

      -- as many as may follow were made
      pub ends-full : (more : ℕ) (r : Carried) → k ≡ suc more → r.again ≡ more → r.log ≡ 0 → Repeats j s₀ (Step c) more r (meaning ys ws ms)
      unfolding repeated
      ends-full more r full again log = record {
        few = omega (arith, again);
        steps = λ _. refl;
        accepts = λ i l. made.accepts i (omega (arith, l, full, again));
        stays = λ i l. made.stays i (omega (arith, l, full, again));
        going = λ i l. made.going i (omega (arith, l, full, again));
        last = rw (again, log) (ap accepted (put ∙ sym made.state ∙ ap (repeated j (Step c) s₀) full)
            ∙ ap (λ (n : ℕ). record { state = (entry_of j (repeated j (Step c) s₀ more) (Step c)).state; log = n }) (sym (made.accepts more (omega (arith, full)))));
      }

      -- the step after them ends the row
      ends_by : (more : ℕ) (r : Carried) (zs vs : List ℕ) → k ≤ more → r.again ≡ k → after r.log zs vs ms ≡ step_of j (held p left ws ms) c
          → Repeats j s₀ (Step c) more r (meaning zs vs ms)
      unfolding entry_of
      ends_by more r zs vs l again f = record {
        few = omega (arith, l, again);
        steps = λ _. refl;
        accepts = λ i h. made.accepts i (omega (arith, h, again));
        stays = λ i h. made.stays i (omega (arith, h, again));
        going = λ i h. made.going i (omega (arith, h, again));
        last = rw again (f ∙ ap (λ (x : State). step_of j x c) (sym made.state));
      }

    -- the next command
    module _ {place byte : ℕ} (at : Stands p place byte) where
      -- the first byte as the rule has it
      byte-is : byte_of j (moved_to p th₀) ≡ byte
      byte-is = sym (at.first ∙ ap (λ (i : ℕ). get_or image i 0) at.there)

      pub byte_low : byte < 15
      byte_low = rw byte-is at (known-byte j (held p left ws ms) sound t (moved_to p th₀) met used)

      pub place-fits : place < 65536
      place-fits = rw at.there (place-low j (held p left ws ms) sound t (moved_to p th₀) met used)

      next_fits : p + width_of byte < 65536
      next_fits = rw byte-is at (next_low j (held p left ws ms) sound t (moved_to p th₀) met used)

      -- whether it waits, and its weight
      abbrev waits : Bool
      waits = eqb byte 10 && ltb 0 th₀.family.children

      abbrev weight : ℕ
      weight = weight_of standard_weights byte

      -- with its effect
      module _ (e : Effect) (is : Does ws place e) where
        -- its turn
        abbrev turn : Turn
        turn = turn_with c t (moved_to p th₀) weight ((p + bytes_by e) % 2 ^ 16) place

        wider : Widened (width_of byte) e
        wider = subst (λ (b : ℕ). Widened (width_of b) e) byte-is
            (rw (is, at.there) (wide j (held p left ws ms) sound t (moved_to p th₀) met used (context_of (slot_of ws th₀.origin.base) (is_pending th₀.family.pending) th₀.family.window)))

        pub guarded : Guarded (arguments_of image) (context_of (slot_of ws th₀.origin.base) (is_pending th₀.family.pending) th₀.family.window) e
        guarded = rw (is, at.there) (tested j (held p left ws ms) sound t (moved_to p th₀) met used (context_of (slot_of ws th₀.origin.base) (is_pending th₀.family.pending) th₀.family.window))

        no_join : byte ≡ 10 → IsOther e
        no_join ten = rw (is, ← at.first, ten) (joins (arguments_of image) (context_of (slot_of ws th₀.origin.base) (is_pending th₀.family.pending) th₀.family.window)
            (get_or image (place + 1) 0) (get_or image (place + 2) 0) (get_or image (place + 3) 0) (get_or image (place + 4) 0))

        -- its weight is left
        module _ (enough : weight ≤ left) where
          -- what an own effect does to what is held
          moved : (p' : ℕ) (ws' ms' : List ℕ) → completed turn (moved_to p' (moved_to p th₀)) (with_both ws' ms' (held p left ws ms)) ≡ held p' (left - weight) ws' ms'
          unfolding meaning
          moved p' ws' ms' =
              let units : (allowance - left) + weight ≡ allowance - (left - weight) = omega (arith, made.few, enough) in
              rw (units, set-set s₀.threads t (moved_to p th₀) (moved_to p' th₀)) refl

          -- a command that is its own thread's alone
          pub goes-own : (p' : ℕ) (ws' ms' : List ℕ) → OwnAs e p th₀.origin.base parameters ws ms ws' ms' (Some p') → Made (suc k) p' (left - weight) ws' ms'
          unfolding meaning
          goes-own p' ws' ms' told =
              goes p' (left - weight) ws' ms' (omega (arith, made.few))
              (sym (own_is j (held p left ws ms) c t busy.going busy.core busy.on busy.number (moved_to p th₀) met place byte left e at.there at.first
              (omega (arith, made.few)) is wider next_fits enough no_join told.0)
              ∙ told.1 j (held p left ws ms) turn refl refl refl refl refl ∙ ap accepted (moved p' ws' ms'))

      -- position and units are back in the tables
      module _ {ys : List ℕ} (back : Becomes xs ys (stands_at (t % 32) p (allowance - left))) where
        same : record_in ys t ≡ moved_to p th₀
        unfolding meaning
        same = ap (λ (x : State). thread_at x t) (put back) ∙ sym met

        ok : Sound j (meaning ys ws ms)
        ok = subst (λ (x : State). Sound j x) (sym (put back)) sound

        sized : length ys ≡ size
        sized = back.sized ∙ busy.sounding.sized

        low : c < 4
        low = omega (arith, busy.core, busy.sounding.sound.sized.most)

        pub leaving : Leaving ys c t
        unfolding meaning
        leaving = record { sized = sized; core = low; number = busy.number; linked = linked-below j (meaning ys ws ms) ok t }

        -- a command that is too dear
        pub ends-short : left < weight → (more : ℕ) (r : Carried) (zs : List ℕ) → k ≤ more → r.again ≡ k
            → after r.log zs ws ms ≡ short_of c t waits (meaning ys ws ms) → Repeats j s₀ (Step c) more r (meaning zs ws ms)
        unfolding meaning
        ends-short dear more r zs l again f =
            ends_by back more r zs ws l again
            (f ∙ ap (short_of c t waits) (put back)
            ∙ short-is j (held p left ws ms) c t busy.going busy.core busy.on busy.number (moved_to p th₀) met place byte left _ at.there at.first
            (omega (arith, made.few)) refl dear)

        -- a command of another kind
        module _ (e : Effect) (is : Does ws place e) (enough : weight ≤ left) where
          pub resting : allowance < 2 ^ 32 → IsOther e → Carrying ys c t weight e
          unfolding meaning
          resting small other =
              let units : (meaning ys ws ms).units ≡ allowance - left = ap (λ (x : State). x.units) (put back) in
              let seated : Seated ys c t weight = record {
                sized = sized;
                core = low;
                number = busy.number;
                units = omega (arith, units, enough, made.few, small);
                base = rw same (based j (held p left ws ms) sound t (moved_to p th₀) met used);
              } in
              carrying (arguments_of image) (slot_of ws th₀.origin.base) (is_pending th₀.family.pending) th₀.family.window ys c t weight
              (sym (ap (λ (h : Thread). h.family.window) same)) seated (linked-below j (meaning ys ws ms) ok t)
              (rw same (not-own-parent j (held p left ws ms) sound t (moved_to p th₀) met used busy.number)) (rw same (few j (held p left ws ms) sound t (moved_to p th₀) met used))
              (free-first j (meaning ys ws ms) ok) (stacklet-first j (meaning ys ws ms) ok) e (guarded e is) other

          pub ends-rest : (more : ℕ) (r : Carried) (zs vs : List ℕ) → k ≤ more → r.again ≡ k
              → after r.log zs vs ms ≡ rest_given j (meaning ys ws ms) (turn_in ys c t weight ((p + bytes_by e) % 2 ^ 16) place) e waits
              → Repeats j s₀ (Step c) more r (meaning zs vs ms)
          unfolding meaning
          ends-rest more r zs vs l again f =
              ends_by back more r zs vs l again
              (f ∙ ap (λ (x : State). rest_given j x (turn_in ys c t weight ((p + bytes_by e) % 2 ^ 16) place) e waits) (put back)
              ∙ ap (λ (h : Thread). rest_given j (held p left ws ms) (turn_with c t h weight ((p + bytes_by e) % 2 ^ 16) place) e waits) same
              ∙ rest-is j (held p left ws ms) c t busy.going busy.core busy.on busy.number (moved_to p th₀) met place byte left e at.there at.first
              (omega (arith, made.few)) is (wider e is) next_fits enough)
