-- `entries::entry` meets its contract. Assumes nothing.
use Rattle.entries.proofs.Bursting.{once-repeats}
use Rattle.tables.specs.Meaning.{meaning}
use Rattle.rules.specs.State.{job_of}
use Rattle.rules.specs.Rules.{entry_of}
use Rattle.dispatch.specs.Orderly.{after}
use Rattle.std.proofs.Common.{ℕ, ap, ◌∙◌}
use Rattle.entries.proofs.entry.Goals as goal

pub returns-in-Step : goal.returns-in-Step
returns-in-Step c = rw c.in-Step.is c.steps.ensures

pub returns-in-Take : goal.returns-in-Take
unfolding entry_of
returns-in-Take c =
    let take' = c.take in
    let args' = c.args in
    once-repeats (job_of args'.job.now.image.now args'.job.now.starts.now args'.job.now.parameters.now args'.job.now.allowance) (meaning args'.tables.now args'.words.now args'.memory.now) args'.e args'.more c.once.result _ c.once.ensures.0 (ap (λ (n : ℕ). after n take'.new.tables args'.words.now args'.memory.now) c.once.ensures.1 ∙ rw c.in-Take.is (take'.ensures args'.words.now args'.memory.now))

pub returns-in-Steal : goal.returns-in-Steal
unfolding entry_of
returns-in-Steal c =
    let steal' = c.steal in
    let args' = c.args in
    once-repeats (job_of args'.job.now.image.now args'.job.now.starts.now args'.job.now.parameters.now args'.job.now.allowance) (meaning args'.tables.now args'.words.now args'.memory.now) args'.e args'.more c.once-in-Steal.result _ c.once-in-Steal.ensures.0 (ap (λ (n : ℕ). after n steal'.new.tables steal'.new.words args'.memory.now) c.once-in-Steal.ensures.1 ∙ rw c.in-Steal.is (steal'.ensures args'.job.now.parameters.now args'.memory.now))

pub returns-in-Enable : goal.returns-in-Enable
unfolding entry_of
returns-in-Enable c =
    let enable' = c.enable in
    let args' = c.args in
    once-repeats (job_of args'.job.now.image.now args'.job.now.starts.now args'.job.now.parameters.now args'.job.now.allowance) (meaning args'.tables.now args'.words.now args'.memory.now) args'.e args'.more c.once-in-Enable.result _ c.once-in-Enable.ensures.0 (ap (λ (n : ℕ). after n enable'.new.tables args'.words.now args'.memory.now) c.once-in-Enable.ensures.1 ∙ rw c.in-Enable.is (enable'.ensures args'.words.now args'.memory.now))
