-- Each whole-run number is given exactly under its condition, by a run by a schedule and by the built-in scheduler; and an answer has its
-- outcome's number. Assumes nothing.
use borrow.Author.Tests.{eqb-true, eqb-false, ltb-true, ltb-false, eq-eqb, ne_eqb, lt-ltb, le-ltb}
use mathlib.Core.Bool.{Bool, true, false, cond, ◌||◌, not}
use mathlib.Core.List.{List, []}
use mathlib.Core.Logic.{◌⊎◌, inl, inr}
use mathlib.Core.Path.{◌≡◌, refl, sym, ◌∙◌, ap, subst}
use Prim.Native.Nat.{ℕ, ◌≤◌, ◌<◌}
use native.Mathlib.Omega.{arith}
use lib.Dec.{ltb, eqb}
use lib.ListN.{length}
use Rattle.image.specs.Code.{Verdict}
use Rattle.image.specs.Layout.{arguments_of}
use Rattle.image.specs.Image.{image_verdict, number_in, number_of_refusal}
use Rattle.schedule.specs.declared.Entry.{Entry}
use Rattle.schedule.specs.Format.{bytes_of_entries}
use Rattle.schedule.specs.Meaning.{Schedule, schedule_of, number_of_schedule, IsSchedule, WellFormed}
use Rattle.schedule.proofs.Forming.{means as schedule-means, malforms as schedule-malforms}
use Rattle.rules.specs.State.{Outcome, going, finished, faulted}
use Rattle.demands.proofs.Tests.{refusal-range, given, by_numbers}
use Rattle.demands.specs.Input.{Input, bad_cores, entry_count, refusal_of, answer_of, Numbered}
use Rattle.demands.specs.WholeRun.{GoodCores, GoodImage, GoodArguments, RightWords, WrongWords, RunNumbers, SchedulerNumbers}
use Rattle.std.proofs.Common.{Ok, Err}

-- the empty schedule
no_bytes : bytes_of_entries [] ≡ []
unfolding bytes_of_entries
no_bytes = refl

nothing : IsSchedule [] []
nothing = record { bytes = sym no_bytes; short = omega arith }

-- A ROW OF TESTS. The last, 25's, of whether the words are as many as they must be, and of whether the log is short
abbrev last : Bool → Bool → Bool → ℕ
last p m l = cond ((not p || not m) || l) 25 0

last-memory : (p l : Bool) → last p false l ≡ 25
last-memory true l = refl
last-memory false l = refl

last-log : (p m : Bool) → last p m true ≡ 25
last-log true true = refl
last-log true false = refl
last-log false m = refl

module _ (i : Input) (schedule log : List ℕ) where
  abbrev image_number : ℕ
  image_number = number_in (image_verdict i.image)

  abbrev arguments_right : Bool
  arguments_right = eqb (length i.arguments) (arguments_of i.image 0)

  abbrev parameters_right : Bool
  parameters_right = eqb (length i.parameters) 32

  abbrev memory_right : Bool
  memory_right = eqb (length i.memory) 992

  -- what follows 24's test, the image's and 23's
  abbrev from_schedule : Schedule → Bool → Bool → ℕ
  from_schedule x p m = cond (not (eqb (number_of_schedule x) 0)) 13 (last p m (ltb (length log) (entry_count x)))

  abbrev from_arguments : Bool → Schedule → Bool → Bool → ℕ
  from_arguments a x p m = cond (not a) 24 (from_schedule x p m)

  abbrev from_image : ℕ → Bool → Schedule → Bool → Bool → ℕ
  from_image n a x p m = cond (not (eqb n 0)) n (from_arguments a x p m)

  abbrev from_cores : Bool → ℕ → Bool → Schedule → Bool → Bool → ℕ
  from_cores c n a x p m = cond c 23 (from_image n a x p m)

  is_row : refusal_of i schedule log ≡ from_cores (bad_cores i) image_number arguments_right (schedule_of schedule) parameters_right memory_right
  is_row = by_numbers i schedule log

  -- the row where its tests are known
  row : (c : Bool) (n : ℕ) (a : Bool) (x : Schedule) (p m : Bool) → bad_cores i ≡ c → image_number ≡ n → arguments_right ≡ a → schedule_of schedule ≡ x
      → parameters_right ≡ p → memory_right ≡ m → refusal_of i schedule log ≡ from_cores c n a x p m
  row c n a x p m e1 e2 e3 e4 e5 e6 = is_row ∙ (λ ι. from_cores (e1 ι) (e2 ι) (e3 ι) (e4 ι) (e5 ι) (e6 ι))

  -- WHAT IS GIVEN, and the condition that is met
  data Met (n : ℕ) : Type 0 where
    by23 : n ≡ 23 → ¬ (GoodCores i) → Met n
    by_image : 1 ≤ n → n ≤ 8 → GoodCores i → image_number ≡ n → Met n
    by24 : n ≡ 24 → GoodCores i → GoodImage i → ¬ (GoodArguments i) → Met n
    by13 : n ≡ 13 → GoodCores i → GoodImage i → GoodArguments i → ¬ (WellFormed schedule) → Met n
    by25 : n ≡ 25 → GoodCores i → GoodImage i → GoodArguments i → (es : List Entry) → IsSchedule schedule es → WrongWords i ⊎ (length log < length es) → Met n
    by_none : n ≡ 0 → GoodCores i → GoodImage i → GoodArguments i → (es : List Entry) → IsSchedule schedule es → RightWords i → length es ≤ length log → Met n

  met-last : GoodCores i → GoodImage i → GoodArguments i → (es : List Entry) → IsSchedule schedule es → (p : Bool) → parameters_right ≡ p
      → (m : Bool) → memory_right ≡ m → (l : Bool) → ltb (length log) (length es) ≡ l → Met (last p m l)
  met-last g a r es w false e m f l h = by25 refl g a r es w (inl (inl (eqb-false (length i.parameters) 32 e)))
  met-last g a r es w true e false f l h = by25 refl g a r es w (inl (inr (eqb-false (length i.memory) 992 f)))
  met-last g a r es w true e true f true h = by25 refl g a r es w (inr (ltb-true (length log) (length es) h))
  met-last g a r es w true e true f false h =
      by_none refl g a r es w (eqb-true (length i.parameters) 32 e, eqb-true (length i.memory) 992 f) (ltb-false (length log) (length es) h)

  met-schedule : GoodCores i → GoodImage i → GoodArguments i → (x : Schedule) → schedule_of schedule ≡ x → Met (from_schedule x parameters_right memory_right)
  met-schedule g a r (Ok es) h = met-last g a r es ((schedule-means schedule es).0 h) parameters_right refl memory_right refl (ltb (length log) (length es)) refl
  met-schedule g a r (Err _) h = by13 refl g a r ((schedule-malforms schedule).0 h)

  met-arguments : GoodCores i → GoodImage i → (b : Bool) → arguments_right ≡ b → Met (from_arguments b (schedule_of schedule) parameters_right memory_right)
  met-arguments g a true e = met-schedule g a (eqb-true (length i.arguments) (arguments_of i.image 0) e) (schedule_of schedule) refl
  met-arguments g a false e = by24 refl g a (eqb-false (length i.arguments) (arguments_of i.image 0) e)

  met-image : GoodCores i → (v : Verdict) → image_verdict i.image ≡ v
      → Met (from_image (number_in v) arguments_right (schedule_of schedule) parameters_right memory_right)
  met-image g (Ok tt) h = met-arguments g h arguments_right refl
  met-image g (Err r) h =
      let z = refusal-range r in
      subst Met (sym (given (number_of_refusal r) (from_arguments arguments_right (schedule_of schedule) parameters_right memory_right) z.0))
      (by_image z.0 z.1 g (ap number_in h))

  met-cores : (a : Bool) → eqb i.cores 0 ≡ a → (b : Bool) → ltb 4 i.cores ≡ b
      → Met (from_cores (a || b) image_number arguments_right (schedule_of schedule) parameters_right memory_right)
  met-cores true e b f = by23 refl (λ g. omega (arith, g.0, eqb-true i.cores 0 e))
  met-cores false e true f = by23 refl (λ g. omega (arith, g.1, ltb-true 4 i.cores f))
  met-cores false e false f =
      let some : i.cores ≡ 0 → ⊥ = eqb-false i.cores 0 e in
      met-image (omega (arith, some), ltb-false 4 i.cores f) (image_verdict i.image) refl

  met : Met (refusal_of i schedule log)
  met = subst Met (sym is_row) (met-cores (eqb i.cores 0) refl (ltb 4 i.cores) refl)

  -- so each number says its condition
  record Means (n : ℕ) : Type 0 where
    number23 : n ≡ 23 → ¬ (GoodCores i)
    image : (k : ℕ) → 1 ≤ k → k ≤ 8 → n ≡ k → GoodCores i × (image_number ≡ k)
    number24 : n ≡ 24 → GoodCores i × GoodImage i × (¬ (GoodArguments i))
    number13 : n ≡ 13 → GoodCores i × GoodImage i × GoodArguments i × (¬ (WellFormed schedule))
    number25 : n ≡ 25 → GoodCores i × GoodImage i × GoodArguments i × (es : List Entry) × IsSchedule schedule es × (WrongWords i ⊎ (length log < length es))
    runs : n ≡ 0 → GoodCores i × GoodImage i × GoodArguments i × (es : List Entry) × IsSchedule schedule es × RightWords i × (length es ≤ length log)
    others : (n ≡ 0) ⊎ (((1 ≤ n) × (n ≤ 8)) ⊎ ((n ≡ 13) ⊎ ((23 ≤ n) × (n ≤ 25))))

  means : {n : ℕ} → Met n → Means n
  means (by23 x h) = record {
    number23 = λ e. h;
    image = λ k l m e. absurd (omega arith);
    number24 = λ e. absurd (omega arith);
    number13 = λ e. absurd (omega arith);
    number25 = λ e. absurd (omega arith);
    runs = λ e. absurd (omega arith);
    others = inr (inr (inr (omega arith, omega arith)));
  }
  means (by_image low high g h) = record {
    number23 = λ e. absurd (omega arith);
    image = λ k l m e. (g, h ∙ e);
    number24 = λ e. absurd (omega arith);
    number13 = λ e. absurd (omega arith);
    number25 = λ e. absurd (omega arith);
    runs = λ e. absurd (omega arith);
    others = inr (inl (low, high));
  }
  means (by24 x g a h) = record {
    number23 = λ e. absurd (omega arith);
    image = λ k l m e. absurd (omega arith);
    number24 = λ e. (g, a, h);
    number13 = λ e. absurd (omega arith);
    number25 = λ e. absurd (omega arith);
    runs = λ e. absurd (omega arith);
    others = inr (inr (inr (omega arith, omega arith)));
  }
  means (by13 x g a r h) = record {
    number23 = λ e. absurd (omega arith);
    image = λ k l m e. absurd (omega arith);
    number24 = λ e. absurd (omega arith);
    number13 = λ e. (g, a, r, h);
    number25 = λ e. absurd (omega arith);
    runs = λ e. absurd (omega arith);
    others = inr (inr (inl x));
  }
  means (by25 x g a r es w h) = record {
    number23 = λ e. absurd (omega arith);
    image = λ k l m e. absurd (omega arith);
    number24 = λ e. absurd (omega arith);
    number13 = λ e. absurd (omega arith);
    number25 = λ e. (g, a, r, es, w, h);
    runs = λ e. absurd (omega arith);
    others = inr (inr (inr (omega arith, omega arith)));
  }
  means (by_none x g a r es w b l) = record {
    number23 = λ e. absurd (omega arith);
    image = λ k low high e. absurd (omega arith);
    number24 = λ e. absurd (omega arith);
    number13 = λ e. absurd (omega arith);
    number25 = λ e. absurd (omega arith);
    runs = λ e. (g, a, r, es, w, b, l);
    others = inl x;
  }

  known : Means (refusal_of i schedule log)
  known = means met

  -- AND EACH CONDITION ITS NUMBER
  good-cores : GoodCores i → bad_cores i ≡ false
  good-cores g = rw (ne_eqb i.cores 0 (λ e. omega (arith, g.0)), le-ltb 4 i.cores g.1)

  bad-cores : ¬ (GoodCores i) → bad_cores i ≡ true
  bad-cores n = go (eqb i.cores 0) refl (ltb 4 i.cores) refl
    where
      go : (a : Bool) → eqb i.cores 0 ≡ a → (b : Bool) → ltb 4 i.cores ≡ b → (a || b) ≡ true
      go true e b f = refl
      go false e true f = refl
      go false e false f =
          let some : i.cores ≡ 0 → ⊥ = eqb-false i.cores 0 e in
          absurd (n (omega (arith, some), ltb-false 4 i.cores f))

  gives-23 : ¬ (GoodCores i) → refusal_of i schedule log ≡ 23
  gives-23 n = row true image_number arguments_right (schedule_of schedule) parameters_right memory_right (bad-cores n) refl refl refl refl refl

  gives-image : (n : ℕ) → 1 ≤ n → GoodCores i → image_number ≡ n → refusal_of i schedule log ≡ n
  gives-image n low g h =
      row false n arguments_right (schedule_of schedule) parameters_right memory_right (good-cores g) h refl refl refl refl
      ∙ given n (from_arguments arguments_right (schedule_of schedule) parameters_right memory_right) low

  module _ (g : GoodCores i) (a : GoodImage i) where
    gives-24 : ¬ (GoodArguments i) → refusal_of i schedule log ≡ 24
    gives-24 n =
        row false 0 false (schedule_of schedule) parameters_right memory_right (good-cores g) (ap number_in a)
        (ne_eqb (length i.arguments) (arguments_of i.image 0) n) refl refl refl

    module _ (r : GoodArguments i) where
      same-arguments : arguments_right ≡ true
      same-arguments = eq-eqb (length i.arguments) (arguments_of i.image 0) r

      gives-13 : ¬ (WellFormed schedule) → refusal_of i schedule log ≡ 13
      gives-13 n =
          row false 0 true (Err (record {})) parameters_right memory_right (good-cores g) (ap number_in a) same-arguments ((schedule-malforms schedule).1 n) refl refl

      module _ (es : List Entry) (w : IsSchedule schedule es) where
        at_last : (p m : Bool) → parameters_right ≡ p → memory_right ≡ m → refusal_of i schedule log ≡ last p m (ltb (length log) (length es))
        at_last p m e f = row false 0 true (Ok es) p m (good-cores g) (ap number_in a) same-arguments ((schedule-means schedule es).1 w) e f

        gives-25 : WrongWords i ⊎ (length log < length es) → refusal_of i schedule log ≡ 25
        gives-25 (inl (inl n)) = at_last false memory_right (ne_eqb (length i.parameters) 32 n) refl
        gives-25 (inl (inr n)) =
            at_last parameters_right false refl (ne_eqb (length i.memory) 992 n) ∙ last-memory parameters_right (ltb (length log) (length es))
        gives-25 (inr l) =
            at_last parameters_right memory_right refl refl ∙ ap (last parameters_right memory_right) (lt-ltb (length log) (length es) l)
            ∙ last-log parameters_right memory_right

        gives_none : RightWords i → length es ≤ length log → refusal_of i schedule log ≡ 0
        gives_none b l =
            at_last true true (eq-eqb (length i.parameters) 32 b.0) (eq-eqb (length i.memory) 992 b.1)
            ∙ ap (last true true) (le-ltb (length log) (length es) l)

  pub run-numbers : RunNumbers i schedule log
  run-numbers = record {
    number23 = (known.number23, gives-23);
    image = λ n low high. (known.image n low high, λ (g, h). gives-image n low g h);
    number24 = (known.number24, λ (g, a, n). gives-24 g a n);
    number13 = (known.number13, λ (g, a, r, n). gives-13 g a r n);
    number25 = (known.number25, λ (g, a, r, es, w, h). gives-25 g a r es w h);
    runs = (known.runs, λ (g, a, r, es, w, b, l). gives_none g a r es w b l);
    others = known.others;
    means = schedule-means schedule;
    malforms = schedule-malforms schedule;
    taken = λ k es w l. gives_none (k.some, k.most) k.image k.arguments es w (k.parameters, k.memory) l;
  }

-- THE BUILT-IN SCHEDULER. The empty schedule is that of no entries
module _ (i : Input) where
  empty : RunNumbers i [] []
  empty = run-numbers i [] []

  none_left : (es : List Entry) → IsSchedule [] es → length es ≡ 0
  none_left es w = ap entry_count (sym ((schedule-means [] es).1 w) ∙ (schedule-means [] []).1 nothing)

  only-words : (es : List Entry) → IsSchedule [] es → WrongWords i ⊎ (0 < length es) → WrongWords i
  only-words es w (inl h) = h
  only-words es w (inr h) = absurd (omega (arith, none_left es w))

  never-13 : refusal_of i [] [] ≡ 13 → ⊥
  never-13 e = (empty.number13.0 e).3 ([], nothing)

  few : (n : ℕ) → (n ≡ 13 → ⊥) → (n ≡ 0) ⊎ (((1 ≤ n) × (n ≤ 8)) ⊎ ((n ≡ 13) ⊎ ((23 ≤ n) × (n ≤ 25))))
      → (n ≡ 0) ⊎ (((1 ≤ n) × (n ≤ 8)) ⊎ ((23 ≤ n) × (n ≤ 25)))
  few n h (inl x) = inl x
  few n h (inr (inl x)) = inr (inl x)
  few n h (inr (inr (inl x))) = absurd (h x)
  few n h (inr (inr (inr x))) = inr (inr x)

  pub scheduler-numbers : SchedulerNumbers i
  scheduler-numbers = record {
    number23 = empty.number23;
    image = empty.image;
    number24 = empty.number24;
    number25 = (
      λ e. let (g, a, r, es, w, h) = empty.number25.0 e in (g, a, r, only-words es w h),
      λ (g, a, r, h). empty.number25.1 (g, a, r, [], nothing, inl h),
    );
    runs = (
      λ e. let (g, a, r, es, w, b, l) = empty.runs.0 e in (g, a, r, b),
      λ (g, a, r, b). empty.runs.1 (g, a, r, [], nothing, b, omega arith),
    );
    others = few (refusal_of i [] []) never-13 empty.others;
    taken = λ k. empty.taken k [] nothing (omega arith);
  }

-- ANSWERS. What a machine answers has its outcome's number
pub number-told : (o : Outcome) (u : ℕ) → Numbered o (answer_of o u)
number-told going u = record { fault = λ n t o e. (let y : ◌≡◌ {A = ℕ} 0 1 = cc in absurd (omega arith)); none = λ no. refl }
number-told (finished v) u = record { fault = λ n t o e. (let y : ◌≡◌ {A = ℕ} 0 1 = cc in absurd (omega arith)); none = λ no. refl }
number-told (faulted n t o) u = record { fault = λ m t' o' e. cc; none = λ no. absurd (no n t o refl) }
