-- `entries::steal::steal` meets its contract. Assumes nothing.
use Rattle.entries.specs.Given.{record_in, turn_with}
use Rattle.rules.specs.Rules.{stolen_of}
use Rattle.thread.specs.declared.Status.TheVariants.{Lent}
use Rattle.thread.specs.declared.Thread.{Thread}
use Rattle.thread.specs.Thread.{◌is◌}
use Rattle.std.proofs.Common.{rules, true, false, ◌≡◌, ℕ, ◌+◌, ◌<◌, List, [], get_or, sym, refl, ap, ◌∙◌, arith}
use Rattle.entries.proofs.Meeting.{place-low, next_low, range, few, based}
use Rattle.entries.proofs.Stealing.{either-byte, fork-wide, steal-over, steal-no-core, steal-busy, steal-no-thread, steal-not-lent, steal-no-fork, steal-dear, stolen, fork-small, seed-ready, seed-carried, lent-used}
use Rattle.dispatch.proofs.Able.{free-first, stacklet-first}
use Rattle.met.proofs.CommandMet.{cut_inside}
use Rattle.tables.proofs.Changes.{thread-seen, core-seen}
use Rattle.tables.specs.Meaning.{meaning}
use Rattle.rules.specs.State.{job_of}
use Rattle.entries.proofs.steal.steal.Goals as goal

pub returns-then-is_over : goal.returns-then-is_over
returns-then-is_over c =
    let args' = c.args in
    λ parameters memory. steal-over (job_of args'.job.now.image.now args'.job.now.starts.now parameters args'.job.now.allowance) (meaning args'.tables.now args'.words.now memory) args'.c args'.t c.is_over.result (c.is_over.ensures.means c.requires.sized args'.words.now memory) c.if-is_over.true

pub returns-then-count-c : goal.returns-then-count-c
returns-then-count-c c =
    let args' = c.args in
    let pre' = c.requires in
    let is-over' = c.is_over in
    λ parameters memory. steal-no-core (job_of args'.job.now.image.now args'.job.now.starts.now parameters args'.job.now.allowance) (meaning args'.tables.now args'.words.now memory) args'.c args'.t is-over'.result (is-over'.ensures.means pre'.sized args'.words.now memory) c.count.result c.if-is_over.false (c.count.ensures.means pre'.sized args'.words.now memory) c.if-count-c.true

pub returns-then-core_at-lt32 : goal.returns-then-core_at-lt32
returns-then-core_at-lt32 c =
    let args' = c.args in
    let pre' = c.requires in
    let is-over' = c.is_over in
    let count' = c.count in
    let if2' = c.if-count-c in
    let low : args'.c < 4 = omega (arith, if2'.false, count'.ensures.means pre'.sized args'.words.now pre'.memory, pre'.sound.sized.most) in
    λ parameters memory. steal-busy (job_of args'.job.now.image.now args'.job.now.starts.now parameters args'.job.now.allowance) (meaning args'.tables.now args'.words.now memory) args'.c args'.t is-over'.result (is-over'.ensures.means pre'.sized args'.words.now memory) count'.result c.if-is_over.false (count'.ensures.means pre'.sized args'.words.now memory) c.core_at.result if2'.false (core-seen pre'.sized args'.words.now memory args'.c c.core_at.result low c.core_at.ensures) c.if-core_at-lt32.true

pub returns-then-t-ge32 : goal.returns-then-t-ge32
returns-then-t-ge32 c =
    let args' = c.args in
    let pre' = c.requires in
    let is-over' = c.is_over in
    let count' = c.count in
    let if2' = c.if-count-c in
    let low : args'.c < 4 = omega (arith, if2'.false, count'.ensures.means pre'.sized args'.words.now pre'.memory, pre'.sound.sized.most) in
    λ parameters memory. steal-no-thread (job_of args'.job.now.image.now args'.job.now.starts.now parameters args'.job.now.allowance) (meaning args'.tables.now args'.words.now memory) args'.c args'.t is-over'.result (is-over'.ensures.means pre'.sized args'.words.now memory) count'.result c.if-is_over.false (count'.ensures.means pre'.sized args'.words.now memory) c.core_at.result if2'.false (core-seen pre'.sized args'.words.now memory args'.c c.core_at.result low c.core_at.ensures) c.if-core_at-lt32.false c.if-t-ge32.true

pub returns-then-ne : goal.returns-then-ne
returns-then-ne c =
    let args' = c.args in
    let other : (c.thread_at-th.result.status is Lent) ≡ false = search rules in
    let pre' = c.requires in
    let is-over' = c.is_over in
    let count' = c.count in
    let if2' = c.if-count-c in
    let core-at' = c.core_at in
    let if4' = c.if-t-ge32 in
    let low : args'.c < 4 = omega (arith, if2'.false, count'.ensures.means pre'.sized args'.words.now pre'.memory, pre'.sound.sized.most) in
    λ parameters memory. steal-not-lent (job_of args'.job.now.image.now args'.job.now.starts.now parameters args'.job.now.allowance) (meaning args'.tables.now args'.words.now memory) args'.c args'.t is-over'.result (is-over'.ensures.means pre'.sized args'.words.now memory) count'.result c.if-is_over.false (count'.ensures.means pre'.sized args'.words.now memory) core-at'.result if2'.false (core-seen pre'.sized args'.words.now memory args'.c core-at'.result low core-at'.ensures) c.if-core_at-lt32.false if4'.false c.thread_at-th.result (thread-seen pre'.sized args'.words.now memory args'.t c.thread_at-th.result if4'.false c.thread_at-th.ensures) _ refl other

pub returns-then-not-is_fork : goal.returns-then-not-is_fork
returns-then-not-is_fork c =
    let args' = c.args in
    let lent : (c.thread_at-th.result.status is Lent) ≡ true = search rules in
    let pre' = c.requires in
    let is-over' = c.is_over in
    let count' = c.count in
    let if2' = c.if-count-c in
    let core-at' = c.core_at in
    let if4' = c.if-t-ge32 in
    let thread-at' = c.thread_at-th in
    let low : args'.c < 4 = omega (arith, if2'.false, count'.ensures.means pre'.sized args'.words.now pre'.memory, pre'.sound.sized.most) in
    λ parameters memory. steal-no-fork (job_of args'.job.now.image.now args'.job.now.starts.now parameters args'.job.now.allowance) (meaning args'.tables.now args'.words.now memory) args'.c args'.t is-over'.result (is-over'.ensures.means pre'.sized args'.words.now memory) count'.result c.if-is_over.false (count'.ensures.means pre'.sized args'.words.now memory) core-at'.result if2'.false (core-seen pre'.sized args'.words.now memory args'.c core-at'.result low core-at'.ensures) c.if-core_at-lt32.false if4'.false thread-at'.result (thread-seen pre'.sized args'.words.now memory args'.t thread-at'.result if4'.false thread-at'.ensures) _ refl lent (get_or c.five_at-five.result 0 0) (ap (λ (l : List ℕ). get_or l 0 0) c.five_at-five.ensures ∙ ap (λ (k : ℕ). get_or args'.job.now.image.now k 0) c.place_of-place.ensures.0) c.is_fork.result c.is_fork.ensures c.if-not-is_fork.true

pub overflow_sub-job : goal.overflow_sub-job
overflow_sub-job c =
    let pre' = c.requires in
    omega (arith, c.units.ensures.means pre'.sized c.args.words.now pre'.memory, pre'.sound.sized.units)

pub returns-then-job-units : goal.returns-then-job-units
returns-then-job-units c =
    let args' = c.args in
    let lent : (c.thread_at-th.result.status is Lent) ≡ true = search rules in
    let pre' = c.requires in
    let is-over' = c.is_over in
    let count' = c.count in
    let if2' = c.if-count-c in
    let core-at' = c.core_at in
    let if4' = c.if-t-ge32 in
    let thread-at' = c.thread_at-th in
    let five-at' = c.five_at-five in
    let is-fork' = c.is_fork in
    let weight' = c.weight-cost in
    let low : args'.c < 4 = omega (arith, if2'.false, count'.ensures.means pre'.sized args'.words.now pre'.memory, pre'.sound.sized.most) in
    λ parameters memory. steal-dear (job_of args'.job.now.image.now args'.job.now.starts.now parameters args'.job.now.allowance) (meaning args'.tables.now args'.words.now memory) args'.c args'.t is-over'.result (is-over'.ensures.means pre'.sized args'.words.now memory) count'.result c.if-is_over.false (count'.ensures.means pre'.sized args'.words.now memory) core-at'.result if2'.false (core-seen pre'.sized args'.words.now memory args'.c core-at'.result low core-at'.ensures) c.if-core_at-lt32.false if4'.false thread-at'.result (thread-seen pre'.sized args'.words.now memory args'.t thread-at'.result if4'.false thread-at'.ensures) _ refl lent (get_or five-at'.result 0 0) (ap (λ (l : List ℕ). get_or l 0 0) five-at'.ensures ∙ ap (λ (k : ℕ). get_or args'.job.now.image.now k 0) c.place_of-place.ensures.0) is-fork'.result is-fork'.ensures c.if-not-is_fork.false weight'.result c.units.result weight'.ensures (c.units.ensures.means pre'.sized args'.words.now memory) c.if-job-units.true

pub overflow_add-th : goal.overflow_add-th
overflow_add-th c =
    let args' = c.args in
    let lent : (c.thread_at-th.result.status is Lent) ≡ true = search rules in
    let pre' = c.requires in
    let thread-at' = c.thread_at-th in
    let five-at' = c.five_at-five in
    let is-fork' = c.is_fork in
    let th = thread-at'.result in
    let met = thread-seen pre'.sized args'.words.now pre'.memory args'.t th c.if-t-ge32.false thread-at'.ensures in
    let used = lent-used (meaning args'.tables.now args'.words.now pre'.memory) args'.t th met lent in
    let sound = pre'.sound in
    let wide = fork-wide (get_or five-at'.result 0 0) (either-byte (get_or five-at'.result 0 0) is-fork'.result is-fork'.ensures c.if-not-is_fork.false) in
    let next = next_low _ _ sound args'.t th met used in
    record { fits = omega (arith, rw (← (ap (λ (l : List ℕ). get_or l 0 0) five-at'.ensures ∙ ap (λ (k : ℕ). get_or args'.job.now.image.now k 0) c.place_of-place.ensures.0), wide) at next) }

pub overflow_cast-place : goal.overflow_cast-place
overflow_cast-place c =
    let args' = c.args in
    let lent : (c.thread_at-th.result.status is Lent) ≡ true = search rules in
    let pre' = c.requires in
    let thread-at' = c.thread_at-th in
    let th = thread-at'.result in
    let met = thread-seen pre'.sized args'.words.now pre'.memory args'.t th c.if-t-ge32.false thread-at'.ensures in
    let used = lent-used (meaning args'.tables.now args'.words.now pre'.memory) args'.t th met lent in
    let sound = pre'.sound in
    record { fits = rw c.place_of-place.ensures.0 (place-low _ _ sound args'.t th met used) }

pub carry_seed-requires : goal.carry_seed-requires
unfolding meaning
carry_seed-requires c =
    let args' = c.args in
    let lent : (c.thread_at-th.result.status is Lent) ≡ true = search rules in
    let pre' = c.requires in
    let if4' = c.if-t-ge32 in
    let thread-at' = c.thread_at-th in
    let place-in-image' = c.place_of-place in
    let five-at' = c.five_at-five in
    let is-fork' = c.is_fork in
    let low : args'.c < 4 = omega (arith, c.if-count-c.false, c.count.ensures.means pre'.sized args'.words.now pre'.memory, pre'.sound.sized.most) in
    let th = thread-at'.result in
    let met = thread-seen pre'.sized args'.words.now pre'.memory args'.t th if4'.false thread-at'.ensures in
    let used = lent-used (meaning args'.tables.now args'.words.now pre'.memory) args'.t th met lent in
    let sound = pre'.sound in
    let same : th ≡ record_in args'.tables.now args'.t = thread-seen pre'.sized [] [] args'.t th if4'.false thread-at'.ensures in
    rw c.seed_of-seed.ensures (seed-ready args'.tables.now args'.job.now.image.now args'.words.now args'.c args'.t c.weight-cost.result _ _ _ _ th pre'.sized
    (λ allowed. let inside = cut_inside th.family.window _ allowed in record {
      seated = record { sized = pre'.sized; core = low; number = if4'.false; units = omega (arith, c.if-job-units.false, c.units.ensures.means pre'.sized args'.words.now pre'.memory, sound.sized.units); base = rw (← same) (based _ _ sound args'.t th met used) };
      children = rw (← same) (few _ _ sound args'.t th met used);
      numbers = free-first _ _ sound;
      stacklets = stacklet-first _ _ sound;
      result = rw ((ap (λ (l : List ℕ). get_or l 2 0) five-at'.ensures), place-in-image'.ensures.0) (fork-small _ _ _ _ _ (rw (ap (λ (l : List ℕ). get_or l 0 0) five-at'.ensures ∙ ap (λ (k : ℕ). get_or args'.job.now.image.now k 0) place-in-image'.ensures.0) at (either-byte (get_or five-at'.result 0 0) is-fork'.result is-fork'.ensures c.if-not-is_fork.false)) (range _ _ sound args'.t th met used));
      low = rw (← same) inside.0;
      high = rw (← same) inside.1;
    }))

pub returns : goal.returns
unfolding meaning
returns c =
    let args' = c.args in
    let lent : (c.thread_at-th.result.status is Lent) ≡ true = search rules in
    let pre' = c.requires in
    let is-over' = c.is_over in
    let count' = c.count in
    let if2' = c.if-count-c in
    let core-at' = c.core_at in
    let if4' = c.if-t-ge32 in
    let thread-at' = c.thread_at-th in
    let place-in-image' = c.place_of-place in
    let five-at' = c.five_at-five in
    let is-fork' = c.is_fork in
    let if6' = c.if-not-is_fork in
    let weight' = c.weight-cost in
    let units' = c.units in
    let seed-of' = c.seed_of-seed in
    let low : args'.c < 4 = omega (arith, if2'.false, count'.ensures.means pre'.sized args'.words.now pre'.memory, pre'.sound.sized.most) in
    λ parameters memory.
    let same : thread-at'.result ≡ record_in args'.tables.now args'.t = thread-seen pre'.sized [] [] args'.t thread-at'.result if4'.false thread-at'.ensures in
    stolen (job_of args'.job.now.image.now args'.job.now.starts.now parameters args'.job.now.allowance) (meaning args'.tables.now args'.words.now memory) args'.c args'.t is-over'.result (is-over'.ensures.means pre'.sized args'.words.now memory) count'.result c.if-is_over.false (count'.ensures.means pre'.sized args'.words.now memory) core-at'.result if2'.false (core-seen pre'.sized args'.words.now memory args'.c core-at'.result low core-at'.ensures) c.if-core_at-lt32.false if4'.false thread-at'.result (thread-seen pre'.sized args'.words.now memory args'.t thread-at'.result if4'.false thread-at'.ensures) _ refl lent (get_or five-at'.result 0 0) (ap (λ (l : List ℕ). get_or l 0 0) five-at'.ensures ∙ ap (λ (k : ℕ). get_or args'.job.now.image.now k 0) place-in-image'.ensures.0) is-fork'.result is-fork'.ensures if6'.false weight'.result units'.result weight'.ensures (units'.ensures.means pre'.sized args'.words.now memory) c.if-job-units.false _
    (seed-carried (job_of args'.job.now.image.now args'.job.now.starts.now parameters args'.job.now.allowance) (meaning args'.tables.now args'.words.now memory) args'.c args'.t weight'.result place-in-image'.result (thread-at'.result.position + 5) (get_or five-at'.result 0 0) _ _ _ _ thread-at'.result seed-of'.result _
    (thread-seen pre'.sized args'.words.now memory args'.t thread-at'.result if4'.false thread-at'.ensures) place-in-image'.ensures.0
    (ap (λ (l : List ℕ). get_or l 0 0) five-at'.ensures) (ap (λ (l : List ℕ). get_or l 1 0) five-at'.ensures) (ap (λ (l : List ℕ). get_or l 2 0) five-at'.ensures) (ap (λ (l : List ℕ). get_or l 3 0) five-at'.ensures) (ap (λ (l : List ℕ). get_or l 4 0) five-at'.ensures)
    (either-byte (get_or five-at'.result 0 0) is-fork'.result is-fork'.ensures if6'.false) weight'.ensures refl seed-of'.ensures
    (c.carry_seed.ensures args'.job.now.starts.now parameters memory args'.job.now.allowance
    ∙ ap (λ (h : Thread). stolen_of (job_of args'.job.now.image.now args'.job.now.starts.now parameters args'.job.now.allowance) (meaning args'.tables.now args'.words.now memory) (turn_with args'.c args'.t h weight'.result (thread-at'.result.position + 5) place-in-image'.result) seed-of'.result) (sym same)))
