-- Document 01's worked case, computed: result 10 and 20 units, at the case's allowance of 100 and at the greatest one; an allowance of 7
-- ends it by 22. Positions count commands here, not bytes.
use mathlib.Core.Path.{◌≡◌, refl}
use Prim.Native.Nat.{ℕ, zero, suc, ◌+◌, ◌≤◌}
use native.Mathlib.Decide.{ℕ_discrete}
use native.Mathlib.Omega.{arith}
use Rattle.forkjoin.proofs.SerialRun.{Outcome, done, stopped, out-of-fuel, zeros, serial-act, serial-call, serial-run}
use Rattle.forkjoin.proofs.DeliveredRun.{delivered-act, delivered-call, delivered-from}
use Rattle.forkjoin.proofs.ScheduleIndependence.{job-serial}
use Rattle.command.specs.declared.Command.{Command}
use Rattle.command.specs.declared.Command.TheVariants.{Set, Add, Subtract, Load, Store, JumpIfZero, Jump, Lfork, Fork, Join, Suspend, Yield, Return, Share}
use Rattle.window.specs.Rights.{may_load, may_store, cut_at}
use Rattle.thread.specs.Effect.{run, any_pending, unless_pending, provided, forking, effect_of}
use Rattle.thread.proofs.Routines.{Code, InRange}
use Rattle.thread.proofs.ThreadState.{act_of}
use Rattle.thread.proofs.MarkedWindows.{root-job}

-- "The weights": of each command
unfoldable pub weigh : Command → ℕ
weigh (Set d v) = 1
weigh (Add d a b) = 1
weigh (Subtract d a b) = 1
weigh (Load d a) = 2
weigh (Store a b) = 2
weigh (JumpIfZero a t) = 1
weigh (Jump t) = 1
weigh (Lfork r d a w) = 6
weigh (Fork r d a w) = 12
weigh Join = 1
weigh Suspend = 3
weigh Yield = 3
weigh (Return a) = 1
weigh (Share a) = 1

pub weigh-some : (c : Command) → 1 ≤ weigh c
unfolding weigh
weigh-some (Set d v) = omega arith
weigh-some (Add d a b) = omega arith
weigh-some (Subtract d a b) = omega arith
weigh-some (Load d a) = omega arith
weigh-some (Store a b) = omega arith
weigh-some (JumpIfZero a t) = omega arith
weigh-some (Jump t) = omega arith
weigh-some (Lfork r d a w) = omega arith
weigh-some (Fork r d a w) = omega arith
weigh-some Join = omega arith
weigh-some Suspend = omega arith
weigh-some Yield = omega arith
weigh-some (Return a) = omega arith
weigh-some (Share a) = omega arith

-- codes `01 02 20 00 08 01 00 00 02 08 01 01 01 02 0A 02 00 00 01 0D 00` and `01 00 05 00 0D 00`
unfoldable pub fetched : ℕ → ℕ → Command
fetched zero zero = Set 2 32
fetched zero (suc zero) = Lfork 1 0 0 2
fetched zero (suc (suc zero)) = Lfork 1 1 1 2
fetched zero (suc (suc (suc zero))) = Join
fetched zero (suc (suc (suc (suc zero)))) = Add 0 0 1
fetched zero (suc (suc (suc (suc (suc n))))) = Return 0
fetched (suc r) zero = Set 0 5
fetched (suc r) (suc n) = Return 0

pub all-in-range : (r n : ℕ) → InRange (fetched r n)
unfolding fetched
all-in-range zero zero = tt
all-in-range zero (suc zero) = omega arith
all-in-range zero (suc (suc zero)) = omega arith
all-in-range zero (suc (suc (suc zero))) = tt
all-in-range zero (suc (suc (suc (suc zero)))) = tt
all-in-range zero (suc (suc (suc (suc (suc n))))) = omega arith
all-in-range (suc r) zero = tt
all-in-range (suc r) (suc n) = omega arith

abbrev pub worked : Code
worked = record {
  fetch = fetched;
  next = λ r n. suc n;
  weight = λ r n. weigh (fetched r n);
  arguments = λ _. 0;
  params = λ _. 0;
  in-range = all-in-range;
  weighs = λ r n. weigh-some (fetched r n);
}

result : Outcome → ℕ
result (done v m u) = v
result (stopped x m u) = 1000 + x
result out-of-fuel = 2000

units : Outcome → ℕ
units (done v m u) = u
units (stopped x m u) = u
units out-of-fuel = 0

worked-case : (result (job-serial (root-job worked zeros) 100 zeros) ≡ 10) × (units (job-serial (root-job worked zeros) 100 zeros) ≡ 20)
unfolding result units delivered-from delivered-call delivered-act act_of effect_of forking unless_pending provided any_pending run fetched weigh may_load may_store cut_at ℕ_discrete
worked-case = (refl, refl)

-- the greatest allowance
worked-case-most : (result (job-serial (root-job worked zeros) 4294967295 zeros) ≡ 10) ×
    (units (job-serial (root-job worked zeros) 4294967295 zeros) ≡ 20)
unfolding result units delivered-from delivered-call delivered-act act_of effect_of forking unless_pending provided any_pending run fetched weigh may_load may_store cut_at ℕ_discrete
worked-case-most = (refl, refl)

-- one command and a fork's weight are 7 units: the child's first command finds none left
worked-case-short : (result (job-serial (root-job worked zeros) 7 zeros) ≡ 1022) × (units (job-serial (root-job worked zeros) 7 zeros) ≡ 7)
unfolding result units delivered-from delivered-call delivered-act act_of effect_of forking unless_pending provided any_pending run fetched weigh may_load may_store cut_at ℕ_discrete
worked-case-short = (refl, refl)

-- the serial run of the tree's language, in which values stay at the children's nodes, gives the same
worked-case-tree : result (serial-run (root-job worked zeros).language 4294967295 (root-job worked zeros).root-thread zeros) ≡ 10
unfolding result serial-run serial-call serial-act act_of effect_of forking unless_pending provided any_pending run fetched weigh may_load may_store cut_at ℕ_discrete
worked-case-tree = refl
