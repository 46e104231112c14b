-- The commands of a run: where each command weighs 1, the same steps make a run of the tree whose units are their number (`steps-counted`). Assumes
-- a good job.
use mathlib.Core.Bool.{Bool, true, false, cond, ◌&&◌}
use mathlib.Core.List.{List, [], ◌∷◌}
use mathlib.Core.Option.{Option, none, some}
use mathlib.Core.Path.{◌≡◌, refl, sym, ◌∙◌, ap, subst, fun_ext}
use Prim.Native.Nat.{ℕ, zero, suc, ◌+◌, ◌≤◌}
use native.Mathlib.Omega.{arith}
use borrow.Author.Tests.{ltb-true, le-leb, eqb-true}
use lib.Dec.{ltb, leb, eqb}
use lib.ListN.{get_or, length}
use Rattle.command.specs.Command.{widths, width_of}
use Rattle.command.specs.Weight.{weight_of}
use Rattle.command.proofs.Bools.{both}
use Rattle.image.specs.Layout.{routine_count, code_of}
use Rattle.image.specs.Code.{commands_of, is_start}
use Rattle.forkjoin.proofs.Confluence.{Steps, stop, then}
use Rattle.forkjoin.proofs.Language.{Language}
use Rattle.forkjoin.proofs.TaskName.{TaskName}
use Rattle.forkjoin.proofs.TaskTree.{Enabled, State, Step, after, children-of, node-after, word_after}
use Rattle.forkjoin.proofs.TreeStart.{begin}
use Rattle.forkjoin.proofs.Units.{step-units}
use Rattle.forkjoin.proofs.Deeper.{deeper}
use Rattle.thread.specs.declared.Effect.{Effect}
use Rattle.thread.specs.declared.Effect.TheVariants.{Faults, Sets, Loads, Stores, Goes, Continues, Lforks, Forks, Joins, Suspends, Yields, Returns, Shares}
use Rattle.thread.proofs.Routines.{Code}
use Rattle.thread.proofs.ThreadState.{ThreadState, effect, by-join, split, act_of}
use Rattle.thread.proofs.LawfulThreads.{threads}
use Rattle.thread.proofs.MarkedWindows.{window-tests}
use Rattle.window.specs.declared.Window.{Window}
use Rattle.window.specs.Rights.{cut_at}
use Rattle.window.proofs.Instance.{windows, parts_of}
use Rattle.rules.specs.State.{Job}
use Rattle.rules.specs.Sound.{GoodJob}
use Rattle.simulation.proofs.ImageCode.{is_command, first_byte, weight_at, stood}
use Rattle.simulation.proofs.JobCode.{code_of as jobCode}
use Rattle.lonecore.specs.Commands.{one_each, counting_job}

-- a row that is no command, or weighs 1
abbrev is_one : ℕ → ℕ → Bool
is_one width weight = cond (leb 1 width) (eqb weight 1) true

abbrev are_ones : List ℕ → List ℕ → Bool
are_ones [] [] = true
are_ones [] (y ∷ ys) = false
are_ones (x ∷ xs) [] = false
are_ones (x ∷ xs) (y ∷ ys) = is_one x y && are_ones xs ys

one_at : (xs ys : List ℕ) → are_ones xs ys ≡ true → (i : ℕ) → 1 ≤ get_or xs i 0 → get_or ys i 0 ≡ 1
one_at [] [] h i l = absurd (omega arith)
one_at [] (y ∷ ys) h i l = let z : ◌≡◌ {A = ℕ} 0 1 = cc in absurd (omega arith)
one_at (x ∷ xs) [] h i l = let z : ◌≡◌ {A = ℕ} 0 1 = cc in absurd (omega arith)
one_at (x ∷ xs) (y ∷ ys) h zero l = eqb-true y 1 (ap (λ b. cond b (eqb y 1) true) (sym (le-leb 1 x l)) ∙ (both (is_one x y) (are_ones xs ys) h).0)
one_at (x ∷ xs) (y ∷ ys) h (suc i) l = one_at xs ys (both (is_one x y) (are_ones xs ys) h).1 i l

one-each : (byte : ℕ) → 1 ≤ width_of byte → weight_of one_each byte ≡ 1
one-each byte h = one_at widths one_each refl byte h

module _ (j : Job) (good : GoodJob j) where
  pub ones-weigh : (byte : ℕ) → 1 ≤ width_of byte → 1 ≤ weight_of one_each byte
  ones-weigh byte h = let z = one-each byte h in omega arith

  abbrev pub counting-good : GoodJob (counting_job j)
  counting-good = record { image = good.image; bytes = good.bytes; starts = good.starts; parameters = good.parameters; weighs = ones-weigh }

  abbrev code : Code
  code = jobCode j good

  abbrev code₁ : Code
  code₁ = jobCode (counting_job j) counting-good

  abbrev Local : Type 0
  Local = ThreadState Window

  weight-one : (r p : ℕ) → weight_at j.image one_each r p ≡ 1
  unfolding weight_at
  weight-one r p = go (is_command j.image r p) refl
    where
      go : (b : Bool) → is_command j.image r p ≡ b → cond b (weight_of one_each (first_byte j.image r p)) 1 ≡ 1
      go true h =
          let q = both (ltb r (routine_count j.image)) (is_start (commands_of (code_of j.image r)) p) h in
          one-each (first_byte j.image r p) (stood j.image good.image r p (ltb-true r (routine_count j.image) q.0) q.1).wide
      go false h = refl

  -- a command does the same whatever it weighs
  split-same : (n : ℕ) (l : Local) (r d a : ℕ) (x : Option (Window × Window))
      → split windows code₁ (by-join windows code₁) n l r d a x ≡ split windows code (by-join windows code) n l r d a x
  split-same n l r d a none = refl
  split-same n l r d a (some p) = refl

  act-same : (n : ℕ) (l : Local) (e : Effect) → act_of windows code₁ (by-join windows code₁) n l e ≡ act_of windows code (by-join windows code) n l e
  unfolding act_of
  act-same n l (Faults x) = refl
  act-same n l (Sets d v) = refl
  act-same n l (Loads d a) = refl
  act-same n l (Stores a v) = refl
  act-same n l (Goes t) = refl
  act-same n l Continues = refl
  act-same n l (Lforks r d a e) = split-same n l r d a (parts_of (cut_at l.window e))
  act-same n l (Forks r d a e) = split-same n l r d a (parts_of (cut_at l.window e))
  act-same n l Joins = refl
  act-same n l Suspends = refl
  act-same n l Yields = refl
  act-same n l (Returns v) = refl
  act-same n l (Shares x) = refl

  module _ (k : ℕ) where
    abbrev pub weighed : Language
    weighed = deeper k (threads windows window-tests code)

    abbrev pub counted : Language
    counted = deeper k (threads windows window-tests code₁)

    -- the same tasks and words
    pub record Same (s t : State Local) : Type 0 where
      pub at : t.at ≡ s.at
      pub memory : t.memory ≡ s.memory

    step-counted : (p : TaskName) (s t s₁ : State Local) → Same s s₁ → Step weighed p s t
        → (t₁ : State Local) × Step counted p s₁ t₁ × Same t t₁ × (t₁.units ≡ s₁.units + 1)
    step-counted p s t s₁ q m = (
      after p (Language.cost counted m.who) (Language.act counted (length p) m.who) s₁,
      record { who = m.who; there = ap (λ f. f p) q.at ∙ m.there; enabled = enabled; result = refl },
      record {
        at = (λ ι x. node-after p (e ι) (record { at = q.at ι; memory = q.memory ι; units = 0 }) x) ∙ sym (ap (λ z. z.at) m.result);
        memory = (λ ι x. word_after (e ι) x (q.memory ι x)) ∙ sym (ap (λ z. z.memory) m.result);
      },
      ap (λ w. s₁.units + w) (weight-one m.who.routine m.who.position),
    )
      where
        e : Language.act counted (length p) m.who ≡ Language.act weighed (length p) m.who
        e = act-same (length p + k) m.who (effect windows window-tests code m.who)

        enabled : Enabled (Language.act counted (length p) m.who) (children-of s₁ p)
        enabled = subst (λ z. z) (λ ι. Enabled (sym e ι) (λ d. sym q.at ι (d ∷ p))) m.enabled

    pub steps-counted : (n : ℕ) (s t s₁ : State Local) → Same s s₁ → Steps (Step weighed) n s t
        → (t₁ : State Local) × Steps (Step counted) n s₁ t₁ × Same t t₁ × (t₁.units ≡ s₁.units + n)
    steps-counted n s t s₁ q stop = (s₁, stop, q, omega arith)
    steps-counted n s t s₁ q (then {p = p} {t = x} {n = i} m r) =
        let (x₁, m₁, q₁, u₁) = step-counted p s x s₁ q m in
        let (t₁, r₁, q₂, u₂) = steps-counted i x t x₁ q₁ r in
        (t₁, then m₁ r₁, q₂, omega arith)

    -- every step costs something
    pub steps-cost : (n : ℕ) (s t : State Local) → Steps (Step weighed) n s t → s.units + n ≤ t.units
    steps-cost n s t stop = omega arith
    steps-cost n s t (then {p = p} {t = x} {n = i} m r) =
        let a = steps-cost i x t r in
        let b = step-units weighed p s x m in
        let c = code.weighs m.who.routine m.who.position in
        omega arith

    -- the starts
    pub begin-same : (l : Local) (m : ℕ → ℕ) → Same (begin weighed l m) (begin counted l m)
    unfolding begin
    begin-same l m = record { at = fun_ext go; memory = refl }
      where
        go : (x : TaskName) → (begin counted l m).at x ≡ (begin weighed l m).at x
        go [] = refl
        go (_ ∷ _) = refl
