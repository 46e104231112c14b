-- An only core's steps in a row: each accepted one is a round that another follows. Assumes nothing.
use borrow.Author.Tests.{eqb-true}
use mathlib.Core.Bool.{Bool, true, false, cond, ◌||◌}
use mathlib.Core.List.{List, [], ◌∷◌, ◌++◌, append-nil, append_assoc}
use mathlib.Core.Path.{◌≡◌, refl, sym, ◌∙◌, ap, subst}
use Prim.Native.Nat.{ℕ, zero, suc, ◌+◌, ◌-◌, ◌*◌, ◌/◌, ◌≤◌, ◌<◌}
use native.Mathlib.Omega.{arith}
use lib.Dec.{eqb, ltb}
use lib.ListN.{length, get_or, replicate}
use Rattle.schedule.specs.declared.Entry.{Entry}
use Rattle.schedule.specs.declared.Entry.TheVariants.{Step, Take, Steal, Enable}
use Rattle.schedule.specs.Format.{bytes_of_entry}
use Rattle.thread.specs.Thread.{none}
use Rattle.rules.specs.State.{Job, State, After, Outcome, is_over, is_busy}
use Rattle.rules.specs.Rules.{entry_of}
use Rattle.entries.specs.declared.Carried.{Carried}
use Rattle.entries.specs.Repeat.{is_step, repeated, Repeats}
use Rattle.search.specs.Search.{idle_choice, choice_of, first_seed}
use Rattle.turns.specs.Steps.{steps_behind, last_kept, kept}
use Rattle.turns.proofs.Keeping.{row-many, many-append}
use Rattle.turns.proofs.Rounding.{many, Rounding, turns-on, again-moved}

false-not : {A : Type 0} → false ≡ true → A
false-not e = let z : ◌≡◌ {A = ℕ} 0 1 = cc in absurd (omega arith)

-- steps follow only an only core's, and 3 bytes are left before each
pub behind : (count left n : ℕ) → n ≤ steps_behind count left → 0 < n → (count ≡ 1) × (3 + 2 * n ≤ left)
behind count left n l some = by (eqb count 1) refl l
  where
    by : (b : Bool) → eqb count 1 ≡ b → n ≤ cond b ((left - 3) / 2) 0 → (count ≡ 1) × (3 + 2 * n ≤ left)
    by true e h = (eqb-true count 1 e, omega (arith, h, some))
    by false e h = absurd (omega (arith, h, some))

module _ (j : Job) (s : State) (c : ℕ) where
  -- a core that steps is busy
  idle-not : is_step (idle_choice j s c) ≡ true → ⊥
  unfolding idle_choice
  idle-not h = by (ltb 0 (length s.queues.ready)) h
    where
      by : (b : Bool) → is_step (cond b (Take c) (Steal c (first_seed j s))) ≡ true → ⊥
      by true e = false-not e
      by false e = false-not e

  steps-busy : (e : Entry) → e ≡ choice_of j s c → is_step e ≡ true → (is_busy s c ≡ true) × (e ≡ Step c)
  unfolding choice_of
  steps-busy e choice h = by (is_busy s c) refl
    where
      by : (b : Bool) → is_busy s c ≡ b → (is_busy s c ≡ true) × (e ≡ Step c)
      by true k = (k, choice ∙ rw k)
      by false k =
          let is : e ≡ idle_choice j s c = choice ∙ rw k in
          absurd (idle-not (ap is_step (sym is) ∙ h))

  -- and it steps as long as the cores stay
  pub steps-still : (s' : State) → s'.cores ≡ s.cores → (e : Entry) → e ≡ choice_of j s c → is_step e ≡ true → e ≡ choice_of j s' c
  unfolding choice_of
  steps-still s' same e choice h =
      let b = steps-busy e choice h in
      let k : is_busy s' c ≡ true = ap (λ (l : List ℕ). ltb (get_or l c 0) none) same ∙ b.0 in
      b.1 ∙ rw k

step-two : (e : Entry) → is_step e ≡ true → length (bytes_of_entry e) ≡ 2
step-two (Step c) h = refl
step-two (Take c) h = false-not h
step-two (Steal c t) h = false-not h
step-two (Enable t) h = false-not h

snoc : (e : Entry) (n : ℕ) → replicate n e ++ (e ∷ []) ≡ replicate (suc n) e
snoc e zero = refl
snoc e (suc n) = ap {B = List Entry} (λ l. e ∷ l) (snoc e n)

module _ (j : Job) (count room : ℕ) (begin : State) (size : ℕ) (s : State) (es : List Entry) (m : Bool) (c : ℕ) (r : Rounding j count room begin size s es m c)
    (l : c < count) (e : Entry) (choice : e ≡ choice_of j s c) (ongoing : is_over s.outcome ≡ false) (three : 3 ≤ room - many es)
    (x : Carried) (end : State) (rep : Repeats j s e (steps_behind count (room - many es)) x end) where
  abbrev On : State → List Entry → Bool → ℕ → Type 0
  On s' es' m' c' = Rounding j count room begin size s' es' m' c'

  -- the state before step i
  abbrev at : ℕ → State
  at i = repeated j e s i

  goes : (i : ℕ) → i ≤ x.again → is_over (at i).outcome ≡ false
  goes i h = ap (λ (o : Outcome). is_over o) (rep.going i h) ∙ ongoing

  -- an accepted step of an only core is a round that another follows
  round-more : (s₁ : State) (ds : List Entry) → On s₁ ds m c → e ≡ choice_of j s₁ c → is_over s₁.outcome ≡ false → 3 ≤ room - many ds → (entry_of j s₁ e).log ≡ 0
      → (ds' : List Entry) → ds ++ (e ∷ []) ≡ ds' → is_over (entry_of j s₁ e).state.outcome ≡ false → 3 ≤ room - many ds' → m ≡ false → c ≡ 0 → count ≡ 1
      → On (entry_of j s₁ e).state ds' m c
  round-more s₁ ds before chosen going some log ds' grown still-going more none front one =
      let s₂ : State = (entry_of j s₁ e).state in
      let done : On s₂ (ds ++ last_kept e (entry_of j s₁ e).log) (m || eqb (entry_of j s₁ e).log 0) (c + 1) = turns-on j count room begin size s₁ ds m c before going some l e chosen in
      let next : On s₂ (ds ++ (e ∷ [])) (m || true) (c + 1) = subst (λ (n : ℕ). On s₂ (ds ++ last_kept e n) (m || eqb n 0) (c + 1)) log done in
      let grew : On s₂ ds' true (c + 1) =
      subst (λ (d : List Entry). On s₂ d true (c + 1)) grown (subst (λ (b : Bool). On s₂ (ds ++ (e ∷ [])) (b || true) (c + 1)) none next)
      in
      let again = again-moved j count room begin size s₂ ds' true (c + 1) grew still-going more (omega (arith, one)) refl in
      subst (λ (b : Bool). On s₂ ds' b c) (sym none) (subst (λ (n : ℕ). On s₂ ds' false n) (sym front) again)

  -- steps follow the first one
  module _ (some : 0 < x.again) where
    only : (count ≡ 1) × (3 + 2 * x.again ≤ room - many es)
    only = behind count (room - many es) x.again rep.few some

    still : (i : ℕ) → i ≤ x.again → e ≡ choice_of j (at i) c
    still i h = steps-still j s c (at i) (rep.stays i h) e choice (rep.steps some)

    left : (i : ℕ) → i ≤ x.again → 3 ≤ room - many (es ++ replicate i e)
    left i h = omega (arith, only.1, h, many-append es (replicate i e), row-many e i (step-two e (rep.steps some)))

    front : c ≡ 0
    front = omega (arith, l, only.0)

    -- the next one is a round
    one_more : (i : ℕ) → suc i ≤ x.again → On (at i) (es ++ replicate i e) m c → On (entry_of j (at i) e).state (es ++ replicate (suc i) e) m c
    unfolding repeated
    one_more i h before =
        let low : i ≤ x.again = omega (arith, h) in
        let going : is_over (entry_of j (at i) e).state.outcome ≡ false = goes (suc i) h in
        round-more (at i) (es ++ replicate i e) before (still i low) (goes i low) (left i low) (rep.accepts i (omega (arith, h)))
        (es ++ replicate (suc i) e) (append_assoc es (replicate i e) (e ∷ []) ∙ ap (λ (d : List Entry). es ++ d) (snoc e i)) going (left (suc i) h)
        (r.front front) front only.0

    row : (i : ℕ) → i ≤ x.again → On (at i) (es ++ replicate i e) m c
    unfolding repeated
    row zero h = subst (λ (d : List Entry). On s d m c) (sym (append-nil es)) r
    row (suc i) h = one_more i h (row i (omega (arith, h)))

  -- before the last step
  pub record Before : Type 0 where
    pub rounding : On (at x.again) (es ++ replicate x.again e) m c
    pub chosen : e ≡ choice_of j (at x.again) c
    pub three-left : 3 ≤ room - many (es ++ replicate x.again e)

  before : Before
  unfolding repeated
  before = by x.again refl
    where
      by : (n : ℕ) → x.again ≡ n → Before
      by zero z = record {
        rounding = rw (z, append-nil es) r;
        chosen = rw z choice;
        three-left = rw (z, append-nil es) three;
      }
      by (suc n) z =
          let some : 0 < x.again = omega (arith, z) in
          record {
            rounding = row some x.again (omega arith);
            chosen = still some x.again (omega arith);
            three-left = left some x.again (omega arith);
          }

  -- all of it
  pub carries-on : On end (es ++ kept e x.again x.log) (m || eqb x.log 0) (c + 1)
  carries-on =
      let b = before in
      let a : After = entry_of j (at x.again) e in
      let done : On a.state ((es ++ replicate x.again e) ++ last_kept e a.log) (m || eqb a.log 0) (c + 1) =
      turns-on j count room begin size (at x.again) (es ++ replicate x.again e) m c b.rounding (goes x.again (omega arith)) b.three-left l e b.chosen
      in
      let whole : On end ((es ++ replicate x.again e) ++ last_kept e x.log) (m || eqb x.log 0) (c + 1) =
      subst (λ (y : After). On y.state ((es ++ replicate x.again e) ++ last_kept e y.log) (m || eqb y.log 0) (c + 1)) (sym rep.last) done
      in
      subst (λ (d : List Entry). On end d (m || eqb x.log 0) (c + 1)) (append_assoc es (replicate x.again e) (last_kept e x.log)) whole
