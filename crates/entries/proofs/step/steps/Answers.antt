-- `entries::step::steps` meets its contract. Assumes nothing.
use Rattle.entries.proofs.Bursting.{once-repeats}
use Rattle.entries.proofs.Stepping.{step-over, step-no-core, step-idle}
use Rattle.tables.proofs.Changes.{core-seen}
use Rattle.tables.specs.Meaning.{meaning}
use Rattle.schedule.specs.declared.Entry.TheVariants.{Step}
use Rattle.rules.specs.State.{job_of}
use Rattle.rules.specs.Update.{refused}
use Rattle.rules.specs.Rules.{entry_of}
use Rattle.std.proofs.Common.{ℕ, ◌<◌, sym, ap, ◌∙◌, arith}
use Rattle.entries.proofs.step.steps.Goals as goal

pub returns-then-is_over : goal.returns-then-is_over
unfolding entry_of
returns-then-is_over c =
    let is-over' = c.is_over in
    let args' = c.args in
    let r = c.once.result in
    once-repeats (job_of args'.job.now.image.now args'.job.now.starts.now args'.job.now.parameters.now args'.job.now.allowance) (meaning args'.tables.now args'.words.now args'.memory.now) (Step args'.c) args'.more r (meaning args'.tables.now args'.words.now args'.memory.now) c.once.ensures.0 (ap (λ (n : ℕ). refused n (meaning args'.tables.now args'.words.now args'.memory.now)) c.once.ensures.1 ∙ step-over (job_of args'.job.now.image.now args'.job.now.starts.now args'.job.now.parameters.now args'.job.now.allowance) (meaning args'.tables.now args'.words.now args'.memory.now) args'.c is-over'.result (is-over'.ensures.means c.requires.sized args'.words.now args'.memory.now) c.if-is_over.true)

pub returns-then-count-c : goal.returns-then-count-c
unfolding entry_of
returns-then-count-c c =
    let count' = c.count in
    let is-over' = c.is_over in
    let pre' = c.requires in
    let args' = c.args in
    let r = c.once-then-count-c.result in
    once-repeats (job_of args'.job.now.image.now args'.job.now.starts.now args'.job.now.parameters.now args'.job.now.allowance) (meaning args'.tables.now args'.words.now args'.memory.now) (Step args'.c) args'.more r (meaning args'.tables.now args'.words.now args'.memory.now) c.once-then-count-c.ensures.0 (ap (λ (n : ℕ). refused n (meaning args'.tables.now args'.words.now args'.memory.now)) c.once-then-count-c.ensures.1 ∙ step-no-core (job_of args'.job.now.image.now args'.job.now.starts.now args'.job.now.parameters.now args'.job.now.allowance) (meaning args'.tables.now args'.words.now args'.memory.now) args'.c is-over'.result (is-over'.ensures.means pre'.sized args'.words.now args'.memory.now) count'.result c.if-is_over.false (count'.ensures.means pre'.sized args'.words.now args'.memory.now) c.if-count-c.true)

pub returns-then-t-ge32 : goal.returns-then-t-ge32
unfolding entry_of
returns-then-t-ge32 c =
    let core-at' = c.core_at-t in
    let if2' = c.if-count-c in
    let count' = c.count in
    let is-over' = c.is_over in
    let pre' = c.requires in
    let args' = c.args in
    let r = c.once-then-t-ge32.result in
    let low : args'.c < 4 = omega (arith, if2'.false, (count'.ensures.means pre'.sized args'.words.now args'.memory.now), pre'.sound.sized.most) in
    once-repeats (job_of args'.job.now.image.now args'.job.now.starts.now args'.job.now.parameters.now args'.job.now.allowance) (meaning args'.tables.now args'.words.now args'.memory.now) (Step args'.c) args'.more r (meaning args'.tables.now args'.words.now args'.memory.now) c.once-then-t-ge32.ensures.0 (ap (λ (n : ℕ). refused n (meaning args'.tables.now args'.words.now args'.memory.now)) c.once-then-t-ge32.ensures.1 ∙ step-idle (job_of args'.job.now.image.now args'.job.now.starts.now args'.job.now.parameters.now args'.job.now.allowance) (meaning args'.tables.now args'.words.now args'.memory.now) args'.c is-over'.result (is-over'.ensures.means pre'.sized args'.words.now args'.memory.now) count'.result c.if-is_over.false (count'.ensures.means pre'.sized args'.words.now args'.memory.now) core-at'.result if2'.false (core-seen pre'.sized args'.words.now args'.memory.now args'.c core-at'.result low core-at'.ensures) c.if-t-ge32.true)

pub burst-requires : goal.burst-requires
burst-requires c =
    let core-at' = c.core_at-t in
    let if2' = c.if-count-c in
    let count' = c.count in
    let pre' = c.requires in
    let args' = c.args in
    let low : args'.c < 4 = omega (arith, if2'.false, (count'.ensures.means pre'.sized args'.words.now args'.memory.now), pre'.sound.sized.most) in
    record {
      sounding = pre';
      going = sym (c.is_over.ensures.means pre'.sized args'.words.now args'.memory.now) ∙ c.if-is_over.false;
      core = omega (arith, if2'.false, (count'.ensures.means pre'.sized args'.words.now args'.memory.now));
      on = core-seen pre'.sized args'.words.now args'.memory.now args'.c core-at'.result low core-at'.ensures;
      number = c.if-t-ge32.false;
    }
