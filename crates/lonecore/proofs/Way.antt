-- The scheduler's way on any number of cores: every open state behind entries that it has written stands (`rounds-way`), whatever its buffer.
-- Nothing is ever enabled, since no thread is suspended. Assumes an image without 09, 0B and 0C, and a run of the tree begun k levels down that
-- finishes within the allowance.
use mathlib.Core.Bool.{Bool, true, false, cond, ◌&&◌, ◌||◌, not}
use mathlib.Core.List.{List, [], ◌∷◌, ◌++◌, append-nil}
use mathlib.Core.Logic.{◌⊎◌, inl, inr, ⊎_elim}
use mathlib.Core.Path.{◌≡◌, refl, sym, ◌∙◌, ap, subst}
use Prim.Native.Nat.{ℕ, zero, suc, ◌-◌, ◌≤◌}
use native.Mathlib.Omega.{arith}
use borrow.Author.Tests.{eqb-true, leb-true, ltb-true}
use lib.Dec.{ltb, leb, eqb}
use lib.ListN.{get_or, length}
use Rattle.command.proofs.Bools.{both}
use Rattle.schedule.specs.declared.Entry.{Entry}
use Rattle.schedule.specs.declared.Entry.TheVariants.{Enable}
use Rattle.schedule.specs.Format.{bytes_of_entry}
use Rattle.thread.specs.declared.Status.TheVariants.{Suspended}
use Rattle.thread.specs.declared.Thread.{Thread}
use Rattle.thread.specs.Effect.{IsFault}
use Rattle.thread.specs.Thread.{blank_thread, none, status_number, ◌is◌}
use Rattle.rules.specs.State.{Job, State, going, is_over}
use Rattle.rules.specs.Rules.{entry_of}
use Rattle.rules.specs.Runs.{run_from}
use Rattle.rules.specs.Sound.{GoodJob}
use Rattle.rules.proofs.Laws.{run-next}
use Rattle.search.specs.Search.{choice_of, suspended_from, lowest_suspended}
use Rattle.rounds.specs.Rounds.{Progress, is_written, may_try, recorded, tried, turns, fresh, round, plays_on, wakened, rounds}
use Rattle.soundness.proofs.EntryCases.{not-over, or-true}
use Rattle.soundness.proofs.KeepSized.{keep-count}
use Rattle.simulation.proofs.EntryMoves.{entry-moves, faulted-moves}
use Rattle.lonecore.specs.LforksOnly.{LforksOnly}
use Rattle.lonecore.proofs.Followed.{Ending}
use Rattle.lonecore.proofs.Standing.{Stands, Goes, stays, further, over, goes}

-- NOBODY SUSPENDED: no thread is found
none_found : (n : ℕ) (threads : List Thread) (t : ℕ) → ((u : ℕ) → ¬ (status_number (get_or threads u blank_thread).status ≡ 3)) → none ≤ suspended_from n threads t
unfolding suspended_from
none_found zero threads t awake = omega arith
none_found (suc n) threads t awake = go ((get_or threads t blank_thread).status is Suspended) refl (none_found n threads (suc t) awake)
  where
    go : (b : Bool) → ((get_or threads t blank_thread).status is Suspended) ≡ b → none ≤ suspended_from n threads (suc t)
        → none ≤ cond b t (suspended_from n threads (suc t))
    go true e rest = absurd (awake t (eqb-true _ _ e))
    go false e rest = rest

-- FRONTS of a list with one more behind it: one of the list's, or the whole
front : (xs : List Entry) (e : Entry) (before after : List Entry) → xs ++ (e ∷ []) ≡ before ++ after
    → (before ≡ xs ++ (e ∷ [])) ⊎ ((rest : List Entry) × (xs ≡ before ++ rest))
front xs e [] after h = inr (xs, refl)
front [] e (b ∷ []) after h = inl (let z : b ≡ e = cc in ap (λ x. x ∷ []) z)
front [] e (b ∷ c ∷ before) after h = let z : ◌≡◌ {A = List Entry} [] (c ∷ (before ++ after)) = cc in let y : ◌≡◌ {A = ℕ} 0 1 = cc in absurd (omega arith)
front (x ∷ xs) e (b ∷ before) after h =
    let first : x ≡ b = cc in
    let rest : xs ++ (e ∷ []) ≡ before ++ after = cc in
    ⊎_elim (λ z. inl (λ ι. sym first ι ∷ z ι)) (λ z. inr (z.0, λ ι. first ι ∷ z.1 ι)) (front xs e before after rest)

open-try : (p : Progress) → may_try p ≡ true → p.state.outcome ≡ going
open-try p h = not-over p.state.outcome (negated (is_over p.state.outcome) (both (not (is_over p.state.outcome)) (leb 3 p.left) h).0)
  where
    negated : (b : Bool) → not b ≡ true → b ≡ false
    negated true e = let z : ◌≡◌ {A = ℕ} 0 1 = cc in absurd (omega arith)
    negated false e = refl

-- accepted, or a fault
written_as : (x : ℕ) → is_written x ≡ true → (x ≡ 0) ⊎ IsFault x
written_as x h = ⊎_elim (λ e. inl (eqb-true x 0 e)) (λ e. inr (⊎_elim
    (λ f. let (a, b) = both (leb 9 x) (leb x 12) f in inl (leb-true 9 x a, leb-true x 12 b)) (λ f. inr (eqb-true x 31 f))
    (or-true (leb 9 x && leb x 12) (eqb x 31) e))) (or-true (eqb x 0) ((leb 9 x && leb x 12) || eqb x 31) h)

module _ (j : Job) (good : GoodJob j) (arguments memory : List ℕ) (k : ℕ) (low : k ≤ 31) (only : LforksOnly j.image)
    (E : Ending j good arguments memory k low) (enough : E.end.units ≤ j.allowance) (start : State) (count : ℕ) where
  -- a state on the way: if it is open, it stands
  abbrev pub Visited : State → Type 0
  Visited s = s.outcome ≡ going → (n : ℕ) × Stands j good arguments memory k low only E enough n s × (s.count ≡ count)

  pub record OnWay (p : Progress) : Type 0 where
    pub state : p.state ≡ run_from j start p.written
    pub visits : (before after : List Entry) → p.written ≡ before ++ after → Visited (run_from j start before)

  pub here : (p : Progress) → OnWay p → Visited p.state
  here p w = subst Visited (sym w.state) (w.visits p.written [] (sym (append-nil p.written)))

  -- the state behind one entry more
  next : (s : State) → Visited s → s.outcome ≡ going → (c : ℕ) → is_written (entry_of j s (choice_of j s c)).log ≡ true
      → Visited (entry_of j s (choice_of j s c)).state
  next s visited Going-on c written ongoing = ⊎_elim accepted faulty (written_as (entry_of j s (choice_of j s c)).log written)
    where
      there : (n : ℕ) × Stands j good arguments memory k low only E enough n s × (s.count ≡ count)
      there = visited Going-on

      many : (entry_of j s (choice_of j s c)).state.count ≡ count
      many = keep-count j s there.1.sound (choice_of j s c) ∙ there.2

      by : Goes j good arguments memory k low only E enough there.0 s (entry_of j s (choice_of j s c)).state
          → (n : ℕ) × Stands j good arguments memory k low only E enough n (entry_of j s (choice_of j s c)).state
          × ((entry_of j s (choice_of j s c)).state.count ≡ count)
      by (stays f u) = (there.0, f, many)
      by (further f) = (suc there.0, f, many)
      by (over v o e) = let z : ◌≡◌ {A = ℕ} 0 1 = cc in absurd (omega arith)

      accepted : (entry_of j s (choice_of j s c)).log ≡ 0
          → (n : ℕ) × Stands j good arguments memory k low only E enough n (entry_of j s (choice_of j s c)).state
          × ((entry_of j s (choice_of j s c)).state.count ≡ count)
      accepted z = by (goes j good arguments memory k low only E enough there.0 s there.1 c z)

      faulty : IsFault (entry_of j s (choice_of j s c)).log
          → (n : ℕ) × Stands j good arguments memory k low only E enough n (entry_of j s (choice_of j s c)).state
          × ((entry_of j s (choice_of j s c)).state.count ≡ count)
      faulty z =
          let f = faulted-moves j good s (entry_of j s (choice_of j s c)) (entry-moves j good s there.1.sound (choice_of j s c)) z in
          let e = f.over in
          let y : ◌≡◌ {A = ℕ} 0 1 = cc in
          absurd (omega arith)

  -- a core's try
  try-way : (p : Progress) → OnWay p → (c : ℕ) → OnWay (tried j (choice_of j p.state c) p)
  unfolding tried recorded
  try-way p w c = go (may_try p) refl (is_written (entry_of j p.state (choice_of j p.state c)).log) refl
    where
      moved_to : Progress
      moved_to = record {
        state = (entry_of j p.state (choice_of j p.state c)).state;
        written = p.written ++ (choice_of j p.state c ∷ []);
        left = p.left - length (bytes_of_entry (choice_of j p.state c));
        moved = p.moved || eqb (entry_of j p.state (choice_of j p.state c)).log 0;
      }

      at-end : run_from j start (p.written ++ (choice_of j p.state c ∷ [])) ≡ (entry_of j p.state (choice_of j p.state c)).state
      at-end = run-next j start p.written (choice_of j p.state c) ∙ ap (λ s. (entry_of j s (choice_of j p.state c)).state) (sym w.state)

      go : (a : Bool) → may_try p ≡ a → (b : Bool) → is_written (entry_of j p.state (choice_of j p.state c)).log ≡ b
          → OnWay (cond a (cond b moved_to p) p)
      go false f b h = w
      go true f false h = w
      go true f true h = record {
        state = sym at-end;
        visits = λ before after z. ⊎_elim
            (λ x. subst Visited (sym (ap (run_from j start) x ∙ at-end)) (next p.state (here p w) (open-try p f) c h))
            (λ x. w.visits before x.0 x.1) (front p.written (choice_of j p.state c) before after z);
      }

  turns-way : (n c : ℕ) (p : Progress) → OnWay p → OnWay (turns n j c p)
  unfolding turns
  turns-way zero c p w = w
  turns-way (suc n) c p w = turns-way n (suc c) (tried j (choice_of j p.state c) p) (try-way p w c)

  round-way : (p : Progress) → OnWay p → OnWay (round j p)
  round-way p w = turns-way p.state.count 0 (fresh p) (record { state = w.state; visits = w.visits })

  -- a round that is followed by another has accepted something
  pub followed-moved : (p : Progress) → OnWay p → plays_on p ≡ true → p.moved ≡ true
  followed-moved p w h =
      let (may, more) = both (may_try p) (p.moved || ltb (lowest_suspended p.state) none) h in
      let (n, f, _) = here p w (open-try p may) in
      ⊎_elim (λ z. z) (λ z. let y = ltb-true (lowest_suspended p.state) none z in let x = none_found 32 p.state.threads 0 f.few.awake in absurd (omega arith))
      (or-true p.moved (ltb (lowest_suspended p.state) none) more)

  pub woken-same : (p : Progress) → OnWay p → plays_on p ≡ true → wakened j p ≡ p
  unfolding wakened
  woken-same p w h = ap (λ b. cond b p (tried j (Enable (lowest_suspended p.state)) p)) (followed-moved p w h)

  pub rounds-way : (n : ℕ) (p : Progress) → OnWay p → OnWay (rounds n j p)
  unfolding rounds
  rounds-way zero p w = w
  rounds-way (suc n) p w = go (plays_on (round j p)) refl (λ q v. rounds-way n q v)
    where
      go : (b : Bool) → plays_on (round j p) ≡ b → ((q : Progress) → OnWay q → OnWay (rounds n j q))
          → OnWay (cond b (rounds n j (wakened j (round j p))) (round j p))
      go true h rec = rec (wakened j (round j p)) (subst OnWay (sym (woken-same (round j p) (round-way p w) h)) (round-way p w))
      go false h rec = round-way p w
