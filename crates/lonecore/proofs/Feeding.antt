-- A buffer of six bytes for each command never runs out: of a state after n commands, six bytes are left for each command ahead, two less for each
-- thread that waits, and two more for each that is ready (`Fed`). A wait and a take cost two bytes and no command; a step has two of its six, a
-- steal three; a return that wakes its parent pays for the wait and the take. So each core's try on the way is made, and accepted, or the core
-- is idle and finds nothing (`try`). Assumes what `Standing` does, and room for the threads.
use mathlib.Core.Bool.{Bool, true, false, cond, ◌||◌}
use mathlib.Core.List.{List, [], ◌∷◌, ◌++◌}
use mathlib.Core.Logic.{◌⊎◌, inl, inr, ⊎_elim}
use mathlib.Core.Path.{◌≡◌, refl, sym, ◌∙◌, ap, subst}
use Prim.Native.Nat.{ℕ, suc, ◌+◌, ◌-◌, ◌*◌, ◌≤◌, ◌<◌}
use native.Mathlib.Omega.{arith}
use lib.Dec.{eqb}
use lib.ListN.{length}
use Rattle.schedule.specs.declared.Entry.{Entry}
use Rattle.schedule.specs.declared.Entry.TheVariants.{Step, Take, Steal, Enable}
use Rattle.schedule.specs.Format.{bytes_of_entry}
use Rattle.thread.specs.Thread.{none}
use Rattle.rules.specs.State.{Job, State, finished, on_core}
use Rattle.rules.specs.Rules.{entry_of}
use Rattle.rules.specs.Sound.{GoodJob}
use Rattle.search.specs.Search.{choice_of}
use Rattle.rounds.specs.Rounds.{Progress, is_written, may_try, recorded, tried}
use Rattle.soundness.proofs.KeepSized.{keep-count}
use Rattle.lonecore.specs.LforksOnly.{LforksOnly}
use Rattle.lonecore.proofs.Followed.{Ending}
use Rattle.lonecore.proofs.Counts.{waiting-ahead, command-ahead}
use Rattle.lonecore.proofs.Balance.{ready_in, waiting_in, balanced, steal-even}
use Rattle.lonecore.proofs.Standing.{Stands, choice-taken, Goes, stays, further, over, goes}
use Rattle.lonecore.proofs.Rounds.{may-try}

-- an entry of two bytes, or a steal of three
pub data Width : Entry → Type 0 where
  two : {e : Entry} → length (bytes_of_entry e) ≡ 2 → Width e
  three : (c t : ℕ) → Width (Steal c t)

width : (e : Entry) → Width e
width (Step c) = two refl
width (Take c) = two refl
width (Steal c t) = three c t
width (Enable t) = two refl

or_right : (a b : Bool) → b ≡ true → (a || b) ≡ true
or_right true b h = refl
or_right false b h = h

module _ (j : Job) (good : GoodJob j) (arguments memory : List ℕ) (k : ℕ) (low : k ≤ 31) (only : LforksOnly j.image)
    (E : Ending j good arguments memory k low) (enough : E.end.units ≤ j.allowance) where
  abbrev pub Fed : ℕ → State → ℕ → Type 0
  Fed n s left = 6 * E.count + 2 * ready_in s ≤ left + 6 * n + 2 * waiting_in s

  -- an open state that is so, with so many cores, after n commands
  pub record Fares (n count : ℕ) (p : Progress) : Type 0 where
    pub stands : Stands j good arguments memory k low only E enough n p.state
    pub fed : Fed n p.state p.left
    pub cores : p.state.count ≡ count

  -- a try may be made
  pub three-left : (n count : ℕ) (p : Progress) → Fares n count p → 3 ≤ p.left
  three-left n count p f =
      let a = waiting-ahead j good arguments memory k low p.state f.stands.sound n f.stands.followed E in
      let b = command-ahead j good arguments memory k low p.state f.stands.sound n f.stands.followed f.stands.ongoing E in
      let c = f.fed in
      omega arith

  pub may : (n count : ℕ) (p : Progress) → Fares n count p → may_try p ≡ true
  may n count p f = may-try p f.stands.ongoing (three-left n count p f)

  -- what a core's try has led to: the end, one entry more, or nothing
  pub data Tried (count c : ℕ) (p q : Progress) : Type 0 where
    ended : (v : ℕ) → q.state.outcome ≡ finished v → Tried count c p q
    went : (n : ℕ) → Fares n count q → q.moved ≡ true → q.left < p.left → Tried count c p q
    nothing : q ≡ p → none ≤ on_core p.state c → p.state.queues.ready ≡ [] → Tried count c p q

  module _ (n count : ℕ) (p : Progress) (f : Fares n count p) (c : ℕ) where
    abbrev e : Entry
    e = choice_of j p.state c

    abbrev s' : State
    s' = (entry_of j p.state (choice_of j p.state c)).state

    -- behind it, if it is accepted
    abbrev q : Progress
    q = record {
      state = (entry_of j p.state (choice_of j p.state c)).state;
      written = p.written ++ (choice_of j p.state c ∷ []);
      left = p.left - length (bytes_of_entry (choice_of j p.state c));
      moved = p.moved || eqb (entry_of j p.state (choice_of j p.state c)).log 0;
    }

    shorter : {x : Entry} → Width x → p.left - length (bytes_of_entry x) < p.left
    shorter (two w) = let z = three-left n count p f in omega arith
    shorter (three d t) = let z = three-left n count p f in omega arith

    -- the bytes that are left are enough
    fed-after : (m : ℕ) (x : Entry) → Width x → (entry_of j p.state x).log ≡ 0
        → (stands : Stands j good arguments memory k low only E enough m (entry_of j p.state x).state)
        → ((m ≡ n) × ((entry_of j p.state x).state.units ≡ p.state.units)) ⊎ (m ≡ suc n)
        → Fed m (entry_of j p.state x).state (p.left - length (bytes_of_entry x))
    unfolding entry_of
    fed-after m x (two w) z stands (inl (same, units)) =
        let b = (balanced j p.state f.stands.sound only f.stands.few x z stands.ongoing).rest units in
        let three = three-left n count p f in
        let before = f.fed in
        omega (arith, b, three, before, w, same)
    fed-after m x (two w) z stands (inr more) =
        let b = (balanced j p.state f.stands.sound only f.stands.few x z stands.ongoing).any in
        let three = three-left n count p f in
        let before = f.fed in
        omega (arith, b, three, before, w, more)
    fed-after m x (three d t) z stands (inl (same, units)) =
        let b = steal-even j p.state f.stands.sound d t z in
        let rises = b.units in
        absurd (omega (arith, rises, units))
    fed-after m x (three d t) z stands (inr more) =
        let b = steal-even j p.state f.stands.sound d t z in
        let ready = b.ready in
        let waiting = b.waiting in
        let three = three-left n count p f in
        let before = f.fed in
        omega (arith, ready, waiting, three, before, more)

    went-by : Width (choice_of j p.state c) → (entry_of j p.state (choice_of j p.state c)).log ≡ 0
        → Goes j good arguments memory k low only E enough n p.state s' → Tried count c p q
    went-by w z (over v o x) = ended v o
    went-by w z (stays g u) = went n (record {
      stands = g;
      fed = fed-after n (choice_of j p.state c) w z g (inl (refl, u));
      cores = keep-count j p.state f.stands.sound (choice_of j p.state c) ∙ f.cores;
    }) (or_right p.moved (eqb (entry_of j p.state (choice_of j p.state c)).log 0) (ap (λ x. eqb x 0) z)) (shorter w)
    went-by w z (further g) = went (suc n) (record {
      stands = g;
      fed = fed-after (suc n) (choice_of j p.state c) w z g (inr refl);
      cores = keep-count j p.state f.stands.sound (choice_of j p.state c) ∙ f.cores;
    }) (or_right p.moved (eqb (entry_of j p.state (choice_of j p.state c)).log 0) (ap (λ x. eqb x 0) z)) (shorter w)

    pub try : c < count → count * (32 - k - 1) + 1 ≤ 16 → Tried count c p (tried j (choice_of j p.state c) p)
    unfolding tried recorded
    try core small =
        subst (λ b. Tried count c p (cond b (cond (is_written (entry_of j p.state (choice_of j p.state c)).log) q p) p)) (sym (may n count p f))
        (⊎_elim
        (λ z. subst (λ b. Tried count c p (cond b q p)) (sym (ap is_written z))
        (went-by (width (choice_of j p.state c)) z (goes j good arguments memory k low only E enough n p.state f.stands c z)))
        (λ z. subst (λ b. Tried count c p (cond b q p)) (sym (ap is_written z.0)) (nothing refl z.1 z.2))
        (choice-taken j good arguments memory k low only E enough n p.state f.stands
        (subst (λ m. m * (32 - k - 1) + 1 ≤ 16) (sym f.cores) small) c (subst (λ m. c < m) (sym f.cores) core)))
