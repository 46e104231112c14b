-- The serial run ends by the image's number, 24 or 25 exactly under its condition, and else only by a command's number. Assumes nothing.
use mathlib.Core.Bool.{Bool, true, false, cond}
use mathlib.Core.List.{List}
use mathlib.Core.Logic.{◌⊎◌, inl, inr}
use mathlib.Core.Path.{◌≡◌, refl, sym, ◌∙◌, ap, subst}
use Prim.Native.Nat.{ℕ, zero, suc, ◌+◌, ◌-◌, ◌≤◌}
use native.Mathlib.Decide.{ℕ_discrete}
use native.Mathlib.Omega.{arith}
use lib.Dec.{ltb, leb, eqb}
use lib.ListN.{length, set}
use Rattle.std.specs.Prelude.{Ok, Err}
use Rattle.command.specs.Command.{decoded_at}
use Rattle.command.specs.declared.Command.{Command}
use Rattle.command.specs.declared.Command.TheVariants.{Set, Add, Subtract, Load, Store, JumpIfZero, Jump, Lfork, Fork, Join, Suspend, Yield, Return, Share}
use Rattle.image.specs.Code.{Verdict}
use Rattle.image.specs.Layout.{arguments_of}
use Rattle.image.specs.Image.{image_verdict, number_in, number_of_refusal}
use Rattle.window.specs.Rights.{root_window, child_of}
use Rattle.stacklets.specs.Frames.{slot_of}
use Rattle.thread.specs.declared.Effect.{Effect}
use Rattle.thread.specs.declared.Fault.{Fault}
use Rattle.thread.specs.declared.Effect.TheVariants.{Faults, Sets, Loads, Stores, Goes, Continues, Lforks, Forks, Joins, Suspends, Yields, Returns, Shares}
use Rattle.thread.specs.Effect.{IsFault, number_of_fault, Context, any_pending, unless_pending, provided, forking, effect_of, asked}
use Rattle.thread.specs.Thread.{is_pending}
use Rattle.thread.proofs.FaultNumbers.{is_fault}
use Rattle.thread.specs.View.{context_of}
use Rattle.thread.specs.Job.{Job, offset_at, word_at}
use Rattle.serial.specs.declared.Routine.{Routine}
use Rattle.serial.specs.Serial.{Ended, done, stopped, and_then, Call, jumped_to, assigned, advanced, joined, shared, forked, started_on, arguments_from, weight_at, next_effect, fork_called, carried, call_within, call_from, serial_from}
use Rattle.serial.proofs.Whole.{refused, wrong-count, wrong-parameters, wrong-memory, all_right}
use Rattle.demands.proofs.Tests.{refusal-range}
use Rattle.demands.specs.Input.{Input, job_in}
use Rattle.demands.specs.Demands.{serial_in}
use Rattle.demands.specs.WholeRun.{GoodImage, GoodArguments, RightWords, WrongWords, SerialNumbers}

-- A COMMAND'S FAULT is 9 to 12, or 31
abbrev Low : Effect → Type 0
Low (Faults f) = IsFault (number_of_fault f)
Low (Sets d v) = Unit {0}
Low (Loads d a) = Unit {0}
Low (Stores a v) = Unit {0}
Low (Goes t) = Unit {0}
Low Continues = Unit {0}
Low (Lforks r d a e) = Unit {0}
Low (Forks r d a e) = Unit {0}
Low Joins = Unit {0}
Low Suspends = Unit {0}
Low Yields = Unit {0}
Low (Returns v) = Unit {0}
Low (Shares x) = Unit {0}

-- a record, so that the effect can be read off it
record FaultLow (e : Effect) : Type 0 where
  low : Low e

fault-unless : (n : Fault) (p : ℕ → Bool) (ks : List ℕ) (e : Effect) → FaultLow e → FaultLow (unless_pending n p ks e)
unfolding unless_pending
fault-unless n p ks e f = go (any_pending p ks)
  where
    go : (t : Bool) → FaultLow (cond t (Faults n) e)
    go true = record { low = is_fault n }
    go false = f

fault-provided : (t : Bool) (n : Fault) (e : Effect) → FaultLow e → FaultLow (provided t n e)
unfolding provided
fault-provided true n e f = f
fault-provided false n e f = record { low = is_fault n }

fault-choice : (t : Bool) (x y : Effect) → FaultLow x → FaultLow y → FaultLow (cond t x y)
fault-choice true x y f g = f
fault-choice false x y f g = g

module _ (arguments : ℕ → ℕ) (own : Context) where
  fault-fork : (r d a w : ℕ) (e : Effect) → FaultLow e → FaultLow (forking arguments own r d a w e)
  unfolding forking
  fault-fork r d a w e f = fault-unless _ _ _ _ (fault-provided _ _ _ f)

  fault-low : (c : Command) → FaultLow (effect_of arguments own c)
  unfolding effect_of
  fault-low (Set d v) = fault-unless _ _ _ _ (record { low = tt })
  fault-low (Add d a b) = fault-unless _ _ _ _ (record { low = tt })
  fault-low (Subtract d a b) = fault-unless _ _ _ _ (record { low = tt })
  fault-low (Load d a) = fault-unless _ _ _ _ (fault-provided _ _ _ (record { low = tt }))
  fault-low (Store a b) = fault-unless _ _ _ _ (fault-provided _ _ _ (record { low = tt }))
  fault-low (JumpIfZero a t) =
      fault-unless _ _ _ _ (fault-choice (eqb (own.slot a) 0) (Goes t) Continues (record { low = tt }) (record { low = tt }))
  fault-low (Jump t) = record { low = tt }
  fault-low (Lfork r d a w) = fault-fork r d a w _ (record { low = tt })
  fault-low (Fork r d a w) = fault-fork r d a w _ (record { low = tt })
  fault-low Join = record { low = tt }
  fault-low Suspend = record { low = tt }
  fault-low Yield = record { low = tt }
  fault-low (Return a) = fault-unless _ _ _ _ (record { low = tt })
  fault-low (Share a) = fault-unless _ _ _ _ (fault-provided _ _ _ (record { low = tt }))

-- A ROUTINE ends by a command's number: "22, 12, 9, 10 or 11, 26", or 31
abbrev OfCommand : ℕ → Type 0
OfCommand n = IsFault n ⊎ ((n ≡ 22) ⊎ (n ≡ 26))

data Ends : Ended → Type 0 where
  returns : {v : ℕ} {m : List ℕ} {u : ℕ} → Ends (done v m u)
  ends : {n : ℕ} {m : List ℕ} {u : ℕ} → OfCommand n → Ends (stopped n m u)

then-ends : {o : Ended} (f : ℕ → List ℕ → ℕ → Ended) → Ends o → ((v : ℕ) (m : List ℕ) (u : ℕ) → Ends (f v m u)) → Ends (and_then o f)
then-ends f returns g = g _ _ _
then-ends f (ends h) g = ends h

module _ (j : Job) where
  -- at most f commands in a row
  abbrev within : ℕ → Call
  within f n l m u = call_within j f n l m u

  Called : ℕ → Type 0
  Called f = (n : ℕ) (l : Routine) (m : List ℕ) (u : ℕ) → Ends (call_within j f n l m u)

  fork_ends : (f : ℕ) → Called f → (n : ℕ) (l : Routine) (r d a e : ℕ) (m : List ℕ) (u : ℕ) → Ends (fork_called j (within f) n l (asked r d a e) m u)
  unfolding Called
  fork_ends f ih n l r d a e m u = go (leb 32 n)
    where
      go : (b : Bool) → Ends (cond b (stopped 26 m u)
          (and_then (within f (suc n) (started_on r (arguments_from j l r a) (child_of l.window e)) m (u + weight_at j l))
          (λ v m' u'. within f n (assigned d v (advanced j (forked d e l))) m' u')))
      go true = ends (inr (inr refl))
      go false = then-ends _ (ih (suc n) (started_on r (arguments_from j l r a) (child_of l.window e)) m (u + weight_at j l))
          (λ v m' u'. ih n (assigned d v (advanced j (forked d e l))) m' u')

  carried-ends : (f : ℕ) → Called f → (n : ℕ) (l : Routine) (m : List ℕ) (u : ℕ) (e : Effect) → FaultLow e → Ends (carried j (within f) n l m u e)
  unfolding carried Called
  carried-ends f ih n l m u (Faults x) k = ends (inl k.low)
  carried-ends f ih n l m u (Sets d v) k = ih n (advanced j (assigned d v l)) m (u + weight_at j l)
  carried-ends f ih n l m u (Loads d a) k = ih n (advanced j (assigned d (word_at j m a) l)) m (u + weight_at j l)
  carried-ends f ih n l m u (Stores a v) k = ih n (advanced j l) (set m (a - 32) v) (u + weight_at j l)
  carried-ends f ih n l m u (Goes t) k = ih n (jumped_to t l) m (u + weight_at j l)
  carried-ends f ih n l m u Continues k = ih n (advanced j l) m (u + weight_at j l)
  carried-ends f ih n l m u (Lforks r d a e) k = fork_ends f ih n l r d a e m u
  carried-ends f ih n l m u (Forks r d a e) k = fork_ends f ih n l r d a e m u
  carried-ends f ih n l m u Joins k = ih n (advanced j (joined l)) m (u + weight_at j l)
  carried-ends f ih n l m u Suspends k = ih n (advanced j l) m (u + weight_at j l)
  carried-ends f ih n l m u Yields k = ih n (advanced j l) m (u + weight_at j l)
  carried-ends f ih n l m u (Returns v) k = returns
  carried-ends f ih n l m u (Shares x) k = ih n (advanced j (shared x l)) m (u + weight_at j l)

  next_low : (l : Routine) → FaultLow (next_effect j l)
  unfolding next_effect
  next_low l =
      fault-low (arguments_of j.image) (context_of (slot_of l.slots 0) (is_pending l.pending) l.window)
      (decoded_at j.image (offset_at j l.routine l.position))

  test-ends : (f : ℕ) → Called f → (n : ℕ) (l : Routine) (m : List ℕ) (u : ℕ) (b : Bool)
      → Ends (cond b (stopped 22 m u) (carried j (within f) n l m u (next_effect j l)))
  test-ends f ih n l m u true = ends (inr (inl refl))
  test-ends f ih n l m u false = carried-ends f ih n l m u (next_effect j l) (next_low l)

  called : (f : ℕ) → Called f
  unfolding call_within Called
  called zero n l m u = ends (inr (inl refl))
  called (suc f) n l m u = test-ends f (λ n l m u. called f n l m u) n l m u (ltb (j.allowance - u) (weight_at j l))

  from_start : (arguments memory : List ℕ) → Ends (serial_from j arguments memory)
  unfolding serial_from call_from Called
  from_start arguments memory = called (suc j.allowance) 1 (started_on 0 arguments root_window) memory 0

by-command : {n : ℕ} {m : List ℕ} {u : ℕ} → Ends (stopped n m u) → OfCommand n
by-command (ends h) = h

-- one number ends a run
one_number : (o : Ended) (k n u v : ℕ) (m w : List ℕ) → o ≡ stopped k m u → o ≡ stopped n w v → k ≡ n
one_number o k n u v m w p q = cc

-- THE WHOLE SERIAL RUN
module _ (i : Input) where
  abbrev image_number : ℕ
  image_number = number_in (image_verdict i.image)

  stops-image : (n : ℕ) → 1 ≤ n → image_number ≡ n → serial_in i ≡ stopped n i.memory 0
  stops-image n low h = go (image_verdict i.image) refl
    where
      go : (v : Verdict) → image_verdict i.image ≡ v → serial_in i ≡ stopped n i.memory 0
      go (Ok tt) e = let z : n ≡ 0 = sym h ∙ ap number_in e in absurd (omega arith)
      go (Err x) e =
          sym (refused i.image i.parameters i.arguments i.memory i.allowance x e)
          ∙ ap (λ (k : ℕ). stopped k i.memory 0) (sym (ap number_in e) ∙ h)

  module _ (a : GoodImage i) where
    stops-24 : ¬ (GoodArguments i) → serial_in i ≡ stopped 24 i.memory 0
    stops-24 n = sym (wrong-count i.image i.parameters i.arguments i.memory i.allowance a n)

    module _ (r : GoodArguments i) where
      stops-25 : WrongWords i → serial_in i ≡ stopped 25 i.memory 0
      stops-25 (inl n) = sym (wrong-parameters i.image i.parameters i.arguments i.memory i.allowance a r n)
      stops-25 (inr n) = go (ℕ_discrete (length i.parameters) 32)
        where
          go : Dec (length i.parameters ≡ 32) → serial_in i ≡ stopped 25 i.memory 0
          go (yes p) = sym (wrong-memory i.image i.parameters i.arguments i.memory i.allowance a r p n)
          go (no p) = sym (wrong-parameters i.image i.parameters i.arguments i.memory i.allowance a r p)

      goes : RightWords i → serial_in i ≡ serial_from (job_in i) i.arguments i.memory
      goes b = all_right i.image i.parameters i.arguments i.memory i.allowance a r b.0 b.1

  -- a number that it ended by, and the condition that is met
  data Met (n : ℕ) : Type 0 where
    by_image : 1 ≤ n → n ≤ 8 → image_number ≡ n → Met n
    by24 : n ≡ 24 → GoodImage i → ¬ (GoodArguments i) → Met n
    by25 : n ≡ 25 → GoodImage i → GoodArguments i → WrongWords i → Met n
    by_command : OfCommand n → Met n

  module _ (n : ℕ) (m : List ℕ) (u : ℕ) (e : serial_in i ≡ stopped n m u) where
    is : (k : ℕ) → serial_in i ≡ stopped k i.memory 0 → n ≡ k
    is k h = one_number (serial_in i) n k u 0 m i.memory e h

    met-words : GoodImage i → GoodArguments i → Dec (length i.parameters ≡ 32) → Dec (length i.memory ≡ 992) → Met n
    met-words a r (yes p) (yes q) = by_command (by-command (subst Ends (sym (goes a r (p, q)) ∙ e) (from_start (job_in i) i.arguments i.memory)))
    met-words a r (yes p) (no q) = by25 (is 25 (stops-25 a r (inr q))) a r (inr q)
    met-words a r (no p) d = by25 (is 25 (stops-25 a r (inl p))) a r (inl p)

    met-arguments : GoodImage i → Dec (length i.arguments ≡ arguments_of i.image 0) → Met n
    met-arguments a (yes r) = met-words a r (ℕ_discrete (length i.parameters) 32) (ℕ_discrete (length i.memory) 992)
    met-arguments a (no q) = by24 (is 24 (stops-24 a q)) a q

    met-image : (v : Verdict) → image_verdict i.image ≡ v → Met n
    met-image (Ok tt) h = met-arguments h (ℕ_discrete (length i.arguments) (arguments_of i.image 0))
    met-image (Err x) h =
        let z = refusal-range x in
        let k : n ≡ number_of_refusal x = is (number_of_refusal x) (stops-image (number_of_refusal x) z.0 (ap number_in h)) in
        by_image (omega (arith, z.0)) (omega (arith, z.1)) (ap number_in h ∙ sym k)

    met : Met n
    met = met-image (image_verdict i.image) refl

  -- so each number says its condition
  record Means (n : ℕ) : Type 0 where
    image : (k : ℕ) → 1 ≤ k → k ≤ 8 → n ≡ k → image_number ≡ k
    number24 : n ≡ 24 → GoodImage i × (¬ (GoodArguments i))
    number25 : n ≡ 25 → GoodImage i × GoodArguments i × WrongWords i
    others : ((1 ≤ n) × (n ≤ 8)) ⊎ (IsFault n ⊎ ((n ≡ 22) ⊎ ((24 ≤ n) × (n ≤ 26))))

  means : {n : ℕ} → Met n → Means n
  means (by_image low high h) = record {
    image = λ k l m e. h ∙ e;
    number24 = λ e. absurd (omega arith);
    number25 = λ e. absurd (omega arith);
    others = inl (low, high);
  }
  means (by24 x a h) = record {
    image = λ k l m e. absurd (omega arith);
    number24 = λ e. (a, h);
    number25 = λ e. absurd (omega arith);
    others = inr (inr (inr (omega arith, omega arith)));
  }
  means (by25 x a r h) = record {
    image = λ k l m e. absurd (omega arith);
    number24 = λ e. absurd (omega arith);
    number25 = λ e. (a, r, h);
    others = inr (inr (inr (omega arith, omega arith)));
  }
  means (by_command (inl (inl x))) = record {
    image = λ k l m e. absurd (omega (arith, x.0));
    number24 = λ e. absurd (omega (arith, x.1));
    number25 = λ e. absurd (omega (arith, x.1));
    others = inr (inl (inl x));
  }
  means (by_command (inl (inr x))) = record {
    image = λ k l m e. absurd (omega arith);
    number24 = λ e. absurd (omega arith);
    number25 = λ e. absurd (omega arith);
    others = inr (inl (inr x));
  }
  means (by_command (inr (inl x))) = record {
    image = λ k l m e. absurd (omega arith);
    number24 = λ e. absurd (omega arith);
    number25 = λ e. absurd (omega arith);
    others = inr (inr (inl x));
  }
  means (by_command (inr (inr x))) = record {
    image = λ k l m e. absurd (omega arith);
    number24 = λ e. absurd (omega arith);
    number25 = λ e. absurd (omega arith);
    others = inr (inr (inr (omega arith, omega arith)));
  }

  known : (n : ℕ) (m : List ℕ) (u : ℕ) → serial_in i ≡ stopped n m u → Means n
  known n m u e = means (met n m u e)

  pub serial-numbers : SerialNumbers i
  serial-numbers = record {
    image = λ n low high. (λ m u e. (known n m u e).image n low high refl, λ h. stops-image n low h);
    number24 = (λ m u e. (known 24 m u e).number24 refl, λ (a, n). stops-24 a n);
    number25 = (λ m u e. (known 25 m u e).number25 refl, λ (a, r, n). stops-25 a r n);
    runs = goes;
    others = λ n m u e. (known n m u e).others;
  }
