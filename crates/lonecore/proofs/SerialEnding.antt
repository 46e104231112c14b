-- A plain run that finishes begun k levels down is a run of the tree begun there that finishes, within the allowance. Assumes a good job, as many
-- arguments as routine 0 takes and 992 memory words.
use mathlib.Core.List.{List, []}
use mathlib.Core.Path.{◌≡◌, sym, ◌∙◌, ap, subst}
use Prim.Native.Nat.{ℕ, suc, ◌+◌, ◌≤◌}
use native.Mathlib.Omega.{arith}
use lib.ListN.{length}
use Rattle.forkjoin.proofs.Arrays.{words-from}
use Rattle.forkjoin.proofs.SerialRun.{done as t-done, serial-run, serial-call, zeros}
use Rattle.forkjoin.proofs.SerialIsRun.{Returned, RunsTo}
use Rattle.forkjoin.proofs.SerialAgrees.{serial-run-runs}
use Rattle.forkjoin.proofs.DeliveredRun.{Agree, agree, delivered-from}
use Rattle.forkjoin.proofs.Language.{Language}
use Rattle.forkjoin.proofs.Carried.{Carried}
use Rattle.forkjoin.proofs.ScheduleIndependence.{Job as TheoryJob}
use Rattle.forkjoin.proofs.Deeper.{serial-deeper}
use Rattle.forkjoin.proofs.Follow.{beginning}
use Rattle.image.specs.Layout.{arguments_of}
use Rattle.window.specs.Rights.{root_window}
use Rattle.rules.specs.State.{Job}
use Rattle.rules.specs.Sound.{GoodJob}
use Rattle.serial.specs.Serial.{done, started_on, call_from}
use Rattle.serial.proofs.Unrolled.{Between, between, between_done}
use Rattle.simulation.proofs.EntriesRun.{theory_job}
use Rattle.demands.proofs.SerialTheory.{as_outcome, theory, is-theory-below}
use Rattle.lonecore.proofs.Followed.{deep_job, Ending}

module _ (j : Job) (good : GoodJob j) (arguments memory : List ℕ) where
  abbrev pub the_job : TheoryJob
  the_job = theory_job j good arguments memory

  abbrev pub first_local : Language.Local the_job.language
  first_local = Carried.abstraction the_job.carried the_job.root-thread

  -- the serial run from depth n, with values delivered or not
  pub depth_same : (n : ℕ)
      → theory j good n the_job.root-thread (words-from 32 memory) 0
      ≡ serial-call the_job.language j.allowance (suc j.allowance) n first_local zeros (words-from 32 memory) 0
  unfolding delivered-from Agree
  depth_same n = agree the_job.language the_job.carried j.allowance (suc j.allowance) n the_job.root-thread zeros (words-from 32 memory) 0
      (λ k p. let b = the_job.bare k in let y : ◌≡◌ {A = ℕ} 0 1 = cc in absurd (omega arith))

  module _ (k : ℕ) (low : k ≤ 31) (few : length arguments ≡ arguments_of j.image 0) (all : length memory ≡ 992) (v u : ℕ) (m : List ℕ)
      (ended : call_from j (suc k) (started_on 0 arguments root_window) memory 0 ≡ done v m u) where
    deep-run : serial-run (deep_job j good arguments memory k low).language j.allowance first_local (words-from 32 memory) ≡ t-done v (words-from 32 m) u
    unfolding serial-run
    deep-run = serial-deeper k the_job.language j.allowance (suc j.allowance) 0 first_local zeros (words-from 32 memory) 0
        ∙ ap (λ n. serial-call the_job.language j.allowance (suc j.allowance) n first_local zeros (words-from 32 memory) 0)
        (let z : 0 + k ≡ k = omega arith in z)
        ∙ sym (depth_same k) ∙ sym (is-theory-below j good arguments memory few all k) ∙ ap as_outcome ended

    pub returned : Returned (deep_job j good arguments memory k low).language j.allowance []
        (beginning (deep_job j good arguments memory k low) (words-from 32 memory)) v (words-from 32 m) u
    returned = subst (RunsTo (deep_job j good arguments memory k low).language j.allowance []
        (beginning (deep_job j good arguments memory k low) (words-from 32 memory))) deep-run
        (serial-run-runs (deep_job j good arguments memory k low).language j.allowance the_job.costs first_local (words-from 32 memory)
        the_job.valid the_job.own)

    abbrev pub ends : Ending j good arguments memory k low
    ends = record { count = returned.count; end = returned.end; run = returned.steps; over = record { result = v; root = returned.node } }

    pub enough : returned.end.units ≤ j.allowance
    unfolding call_from
    enough =
        let b = between_done (subst (Between 0 j.allowance (length memory)) ended
        (between j (suc k) (started_on 0 arguments root_window) memory 0 (omega arith))) in
        let e = returned.same_units in
        let c = b.1 in
        omega arith
