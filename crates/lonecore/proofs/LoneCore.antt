-- A lone core never runs dry (`never-dry`): Start stands, so each step up to the last command is accepted, and the scheduler's rounds are these
-- steps; demand 3 gives the end. Assumes an input that a run takes, and what T-12 does.
use mathlib.Core.List.{List}
use mathlib.Core.Path.{◌≡◌, refl, sym, ◌∙◌, ap, subst}
use Prim.Native.Nat.{ℕ, ◌+◌, ◌≤◌, ◌<◌}
use native.Mathlib.Omega.{arith}
use lib.ListN.{replicate}
use Rattle.forkjoin.proofs.Arrays.{words-from}
use Rattle.forkjoin.proofs.Follow.{Follows, follows-start}
use Rattle.schedule.specs.declared.Entry.TheVariants.{Step}
use Rattle.rules.specs.State.{Job, finished}
use Rattle.rules.specs.Start.{start_state}
use Rattle.rules.specs.Sound.{GoodJob}
use Rattle.soundness.proofs.StartSound.{start-sound}
use Rattle.simulation.proofs.StartPool.{start-pool}
use Rattle.rounds.specs.Rounds.{usable, beginning, scheduled_from}
use Rattle.demands.specs.Input.{Input, job_in, start_in}
use Rattle.demands.specs.Demands.{Takes}
use Rattle.demands.proofs.Passing.{good}
use Rattle.demands.proofs.Demands.{demand-3}
use Rattle.lonecore.specs.Depth.{depth_in}
use Rattle.lonecore.specs.Commands.{commands_in}
use Rattle.lonecore.specs.NeverDry.{LoneCore, after_steps, NeverDry}
use Rattle.lonecore.proofs.Followed.{Ending, Followed, deep_job}
use Rattle.lonecore.proofs.FewKept.{start-few}
use Rattle.lonecore.proofs.Chain.{core-steps, start-alone}
use Rattle.lonecore.proofs.PlainRun.{ending, enough, commands-are-steps}
use Rattle.lonecore.proofs.Steps.{Lone, each, accepted}
use Rattle.lonecore.proofs.Rounds.{Ran, lone}

-- Start, followed
pub start-followed : (i : Input) (t : Takes i) (k : ℕ) (low : k ≤ 31) → Followed (job_in i) (good i t) i.arguments i.memory k low 0 (start_in i)
start-followed i t k low = subst (Follows (deep_job (job_in i) (good i t) i.arguments i.memory k low) (words-from 32 i.memory) 0)
    (start-pool (job_in i) (good i t) i.cores i.arguments i.memory t.arguments)
    (follows-start (deep_job (job_in i) (good i t) i.arguments i.memory k low) (words-from 32 i.memory))

-- 16 levels are left to a run begun 16 levels down
below : 16 ≤ 31
below = omega arith

half : 16 ≤ 16
half = omega arith

module _ (i : Input) (t : Takes i) (size v u : ℕ) (m : List ℕ) (h : LoneCore i size v u m) where
  abbrev j : Job
  j = job_in i

  abbrev g : GoodJob (job_in i)
  g = good i t

  shallow : depth_in i + 16 ≤ 32
  shallow = let z = h.shallow in omega arith

  E : Ending (job_in i) (good i t) i.arguments i.memory 16 below
  E = ending i t 16 below v u m h.finishes shallow

  within : E.end.units ≤ i.allowance
  unfolding E
  within = enough i t 16 below v u m h.finishes shallow

  counted : commands_in i ≡ E.count
  unfolding E
  counted = commands-are-steps i t 16 below v u m h.finishes shallow

  start-alone-there : Lone j g i.arguments i.memory 16 below half h.image E within 0 (start_in i)
  unfolding start_state
  start-alone-there = record {
    stands = record {
      sound = start-sound j i.cores i.arguments i.memory g t.some t.most t.memory;
      followed = start-followed i t 16 below;
      few = start-few j i.cores i.arguments i.memory;
      ongoing = refl;
    };
    one = omega (arith, h.cores);
    alone = start-alone j i.cores i.arguments i.memory;
  }

  lone-at : (k : ℕ) → k < commands_in i → Lone j g i.arguments i.memory 16 below half h.image E within k (after_steps i k)
  lone-at k l =
      let e = counted in
      let z = each j g i.arguments i.memory 16 below half h.image E within k 0 (start_in i) start-alone-there (omega arith) in
      subst (λ n. Lone j g i.arguments i.memory 16 below half h.image E within n (after_steps i k)) (omega arith) z

  ran : Ran j g i.arguments i.memory 16 below half h.image E within (beginning (start_in i) size) (scheduled_from j (start_in i) size) E.count
  ran =
      let e = counted in
      let a = h.buffer in
      let b = h.most in
      lone j g i.arguments i.memory 16 below half h.image E within E.count (usable size) 0 (beginning (start_in i) size) start-alone-there
      (omega arith) (omega arith) (omega arith)

  pub never-dry : NeverDry i v u m (scheduled_from (job_in i) (start_in i) size)
  never-dry =
      let r = ran in
      let over = ap (λ s. s.outcome) (sym r.state) ∙ r.over in
      let a = sym ((demand-3 i t (replicate E.count (Step 0))).agrees r.result over) ∙ h.finishes in
      let same : r.result ≡ v = cc in
      record {
        outcome = r.over ∙ ap finished same;
        memory = ap (λ s. s.store.memory) r.state ∙ cc;
        units = ap (λ s. s.units) r.state ∙ cc;
        entries = r.written ∙ ap (λ n. replicate n (Step 0)) (sym counted);
        tries = λ k l. core-steps j (after_steps i k) (lone-at k l).alone;
        accepted = λ k l. accepted j g i.arguments i.memory 16 below half h.image E within k (after_steps i k) (lone-at k l);
      }
