-- `turns::play_rounds` meets its contract. Assumes nothing.
use Rattle.turns.proofs.Staging.{bonus, Stage, test-met, begun, within, stops, stops-idle, passes, room_for, carries, less, moves, enable-fits, wakes, woke}
use Rattle.tables.specs.Meaning.{size, meaning}
use Rattle.rules.specs.State.{job_of}
use lib.ListN.{length}
use native.Mathlib.Omega.{arith}
use Prim.Native.Nat.{ℕ, ◌+◌}
use Rattle.dispatch.specs.Orderly.{after}
use Rattle.rules.specs.Rules.{entry_of}
use mathlib.Core.Path.{subst, ◌≡◌, refl, sym, ◌∙◌, ap}
use mathlib.Core.Bool.{Bool}
use Rattle.turns.proofs.play_rounds.Goals as goal

pub loop-tables-init : goal.loop-tables-init
loop-tables-init c =
    let args' = c.args in
    let pre' = c.requires in
    let job = job_of args'.job.now.image.now args'.job.now.starts.now args'.job.now.parameters.now args'.job.now.allowance in (
      refl,
      refl,
      refl,
      refl,
      begun job c.count-cores.result c.usable_of-room.result (meaning args'.tables.now args'.words.now args'.memory.now) args'.buffer.now pre'.sound (sym (c.count-cores.ensures.means pre'.sized args'.words.now args'.memory.now)) c.usable_of-room.ensures,
    )

pub overflow_sub-room : goal.overflow_sub-room
overflow_sub-room c = let stage = c.loop-tables.invariant.4 in
    omega (arith, within _ _ _ _ _ _ _ _ _ _ stage)

pub overflow_add-c : goal.overflow_add-c
overflow_add-c c =
    let loop' = c.loop-tables in
    omega (arith, c.if-c-cores.true, loop'.invariant.4.rounding.sound.sized.most, loop'.invariant.4.rounding.cores)

pub loop-tables-smaller-then-is_nothing : goal.loop-tables-smaller-then-is_nothing
loop-tables-smaller-then-is_nothing c = omega (arith, c.if-c-cores.true)

pub loop-tables-preserved-then-is_nothing : goal.loop-tables-preserved-then-is_nothing
loop-tables-preserved-then-is_nothing c =
    let choice' = c.choice-e in
    let loop' = c.loop-tables in
    let args' = c.args in
    let pre' = c.requires in
    let stage = loop'.invariant.4 in
    let sized : length loop'.tables ≡ size = loop'.invariant.0 ∙ pre'.sized in
    let chosen = (choice'.ensures args'.job.now.parameters.now args'.job.now.allowance).means sized loop'.words loop'.memory in
    (loop'.invariant.0, loop'.invariant.1, loop'.invariant.2, loop'.invariant.3, passes _ _ _ _ _ _ _ _ _ _ stage c.if-c-cores.true choice'.result chosen (sym c.is_nothing.ensures ∙ c.if-is_nothing.true))

pub overflow_sub-room-then-c-cores : goal.overflow_sub-room-then-c-cores
overflow_sub-room-then-c-cores c = let stage = c.loop-tables.invariant.4 in
    omega (arith, within _ _ _ _ _ _ _ _ _ _ stage)

pub entry-done-requires : goal.entry-done-requires
entry-done-requires c =
    let loop' = c.loop-tables in
    let pre' = c.requires in
    let stage = loop'.invariant.4 in
    let sized : length loop'.tables ≡ size = loop'.invariant.0 ∙ pre'.sized in
    record { sized = sized; sound = stage.rounding.sound }

pub keep-at-requires : goal.keep-at-requires
keep-at-requires c =
    let entry' = c.entry-done in
    let steps-behind' = c.steps_behind in
    let choice' = c.choice-e in
    let if2' = c.if-c-cores in
    let if1' = c.loop-tables-test in
    let may-try' = c.may_try in
    let is-over' = c.is_over in
    let loop' = c.loop-tables in
    let args' = c.args in
    let pre' = c.requires in
    let s = meaning loop'.tables loop'.words loop'.memory in
    let stage = loop'.invariant.4 in
    let sized : length loop'.tables ≡ size = loop'.invariant.0 ∙ pre'.sized in
    let over = is-over'.ensures.means sized loop'.words loop'.memory in
    let met = test-met s _ _ _ over may-try'.ensures if1'.true in
    let chosen = (choice'.ensures args'.job.now.parameters.now args'.job.now.allowance).means sized loop'.words loop'.memory in
    room_for _ _ _ _ _ _ _ _ _ _ stage met.0 met.1 if2'.true choice'.result chosen steps-behind'.result steps-behind'.ensures entry'.result (meaning entry'.new.tables entry'.new.words entry'.new.memory) entry'.ensures

pub loop-tables-smaller-then-c-cores : goal.loop-tables-smaller-then-c-cores
loop-tables-smaller-then-c-cores c =
    let keep' = c.keep-at in
    let entry' = c.entry-done in
    let steps-behind' = c.steps_behind in
    let choice' = c.choice-e in
    let if2' = c.if-c-cores in
    let if1' = c.loop-tables-test in
    let may-try' = c.may_try in
    let is-over' = c.is_over in
    let loop' = c.loop-tables in
    let args' = c.args in
    let pre' = c.requires in
    let s = meaning loop'.tables loop'.words loop'.memory in
    let stage = loop'.invariant.4 in
    let sized : length loop'.tables ≡ size = loop'.invariant.0 ∙ pre'.sized in
    let over = is-over'.ensures.means sized loop'.words loop'.memory in
    let met = test-met s _ _ _ over may-try'.ensures if1'.true in
    let chosen = (choice'.ensures args'.job.now.parameters.now args'.job.now.allowance).means sized loop'.words loop'.memory in
    omega (arith, less _ _ _ _ _ _ _ _ _ _ stage met.0 met.1 if2'.true choice'.result chosen steps-behind'.result steps-behind'.ensures entry'.result (meaning entry'.new.tables entry'.new.words entry'.new.memory) entry'.ensures keep'.result keep'.new.buffer keep'.ensures, ap bonus c.is_moved-moved.ensures, if2'.true)

pub loop-tables-preserved-then-c-cores : goal.loop-tables-preserved-then-c-cores
loop-tables-preserved-then-c-cores c =
    let keep' = c.keep-at in
    let entry' = c.entry-done in
    let steps-behind' = c.steps_behind in
    let choice' = c.choice-e in
    let if2' = c.if-c-cores in
    let if1' = c.loop-tables-test in
    let may-try' = c.may_try in
    let is-over' = c.is_over in
    let loop' = c.loop-tables in
    let usable-of' = c.usable_of-room in
    let count' = c.count-cores in
    let args' = c.args in
    let pre' = c.requires in
    let job = job_of args'.job.now.image.now args'.job.now.starts.now args'.job.now.parameters.now args'.job.now.allowance in
    let s = meaning loop'.tables loop'.words loop'.memory in
    let stage = loop'.invariant.4 in
    let sized : length loop'.tables ≡ size = loop'.invariant.0 ∙ pre'.sized in
    let over = is-over'.ensures.means sized loop'.words loop'.memory in
    let met = test-met s _ _ _ over may-try'.ensures if1'.true in
    let chosen = (choice'.ensures args'.job.now.parameters.now args'.job.now.allowance).means sized loop'.words loop'.memory in
    (entry'.auto.tables ∙ loop'.invariant.0, entry'.auto.words ∙ loop'.invariant.1, entry'.auto.memory ∙ loop'.invariant.2, keep'.auto.buffer ∙ loop'.invariant.3, subst (λ (b : Bool). Stage job count'.result usable-of'.result (meaning args'.tables.now args'.words.now args'.memory.now) args'.buffer.now (meaning entry'.new.tables entry'.new.words entry'.new.memory) keep'.result keep'.new.buffer b (loop'.c + 1)) (sym c.is_moved-moved.ensures) (carries _ _ _ _ _ _ _ _ _ _ stage met.0 met.1 if2'.true choice'.result chosen steps-behind'.result steps-behind'.ensures entry'.result (meaning entry'.new.tables entry'.new.words entry'.new.memory) entry'.ensures keep'.result keep'.new.buffer keep'.ensures))

pub loop-tables-smaller-then-moved : goal.loop-tables-smaller-then-moved
loop-tables-smaller-then-moved c = let stage = c.loop-tables.invariant.4 in
    omega (arith, ap bonus c.if-moved.true, stage.rounding.sound.sized.most, stage.rounding.cores)

pub loop-tables-preserved-then-moved : goal.loop-tables-preserved-then-moved
loop-tables-preserved-then-moved c =
    let loop' = c.loop-tables in
    let pre' = c.requires in
    let s = meaning loop'.tables loop'.words loop'.memory in
    let stage = loop'.invariant.4 in
    let sized : length loop'.tables ≡ size = loop'.invariant.0 ∙ pre'.sized in
    let over = c.is_over.ensures.means sized loop'.words loop'.memory in
    let met = test-met s _ _ _ over c.may_try.ensures c.loop-tables-test.true in
    (loop'.invariant.0, loop'.invariant.1, loop'.invariant.2, loop'.invariant.3, moves _ _ _ _ _ _ _ _ _ _ stage met.0 met.1 c.if-c-cores.false c.if-moved.true)

pub returns-then-t-ge32 : goal.returns-then-t-ge32
returns-then-t-ge32 c =
    let loop' = c.loop-tables in
    let pre' = c.requires in
    let stage = loop'.invariant.4 in
    let sized : length loop'.tables ≡ size = loop'.invariant.0 ∙ pre'.sized in
    let low = c.lowest_suspended-t.ensures.means sized loop'.words loop'.memory in
    stops-idle _ _ _ _ _ _ _ _ _ _ stage c.if-c-cores.false c.if-moved.false (rw low at c.if-t-ge32.true)

pub enable-requires : goal.enable-requires
enable-requires c =
    let loop' = c.loop-tables in
    let pre' = c.requires in
    loop'.invariant.0 ∙ pre'.sized

pub keep-at-requires-in-loop-tables : goal.keep-at-requires-in-loop-tables
unfolding entry_of
keep-at-requires-in-loop-tables c =
    let enable' = c.enable in
    let lowest-suspended' = c.lowest_suspended-t in
    let if1' = c.loop-tables-test in
    let may-try' = c.may_try in
    let is-over' = c.is_over in
    let loop' = c.loop-tables in
    let pre' = c.requires in
    let s = meaning loop'.tables loop'.words loop'.memory in
    let stage = loop'.invariant.4 in
    let sized : length loop'.tables ≡ size = loop'.invariant.0 ∙ pre'.sized in
    let over = is-over'.ensures.means sized loop'.words loop'.memory in
    let met = test-met s _ _ _ over may-try'.ensures if1'.true in
    let low = lowest-suspended'.ensures.means sized loop'.words loop'.memory in
    enable-fits _ _ _ _ _ _ _ _ _ _ stage met.0 met.1 c.if-c-cores.false c.if-moved.false lowest-suspended'.result low c.if-t-ge32.false c.log_byte.result (meaning enable'.new.tables loop'.words loop'.memory) (ap (λ (n : ℕ). after n enable'.new.tables loop'.words loop'.memory) c.log_byte.ensures ∙ enable'.ensures loop'.words loop'.memory)

pub loop-tables-smaller : goal.loop-tables-smaller
unfolding entry_of
loop-tables-smaller c =
    let keep2' = c.keep-at-in-loop-tables in
    let enable' = c.enable in
    let lowest-suspended' = c.lowest_suspended-t in
    let if4' = c.if-moved in
    let if2' = c.if-c-cores in
    let if1' = c.loop-tables-test in
    let may-try' = c.may_try in
    let is-over' = c.is_over in
    let loop' = c.loop-tables in
    let pre' = c.requires in
    let s = meaning loop'.tables loop'.words loop'.memory in
    let stage = loop'.invariant.4 in
    let sized : length loop'.tables ≡ size = loop'.invariant.0 ∙ pre'.sized in
    let over = is-over'.ensures.means sized loop'.words loop'.memory in
    let met = test-met s _ _ _ over may-try'.ensures if1'.true in
    let low = lowest-suspended'.ensures.means sized loop'.words loop'.memory in
    omega (arith, woke _ _ _ _ _ _ _ _ _ _ stage met.0 met.1 if2'.false if4'.false lowest-suspended'.result low c.if-t-ge32.false c.log_byte.result (meaning enable'.new.tables loop'.words loop'.memory) (ap (λ (n : ℕ). after n enable'.new.tables loop'.words loop'.memory) c.log_byte.ensures ∙ enable'.ensures loop'.words loop'.memory) keep2'.result keep2'.new.buffer keep2'.ensures, stage.rounding.sound.sized.most, stage.rounding.cores)

pub loop-tables-preserved : goal.loop-tables-preserved
unfolding entry_of
loop-tables-preserved c =
    let keep2' = c.keep-at-in-loop-tables in
    let enable' = c.enable in
    let lowest-suspended' = c.lowest_suspended-t in
    let if4' = c.if-moved in
    let if2' = c.if-c-cores in
    let if1' = c.loop-tables-test in
    let may-try' = c.may_try in
    let is-over' = c.is_over in
    let loop' = c.loop-tables in
    let usable-of' = c.usable_of-room in
    let count' = c.count-cores in
    let args' = c.args in
    let pre' = c.requires in
    let job = job_of args'.job.now.image.now args'.job.now.starts.now args'.job.now.parameters.now args'.job.now.allowance in
    let s = meaning loop'.tables loop'.words loop'.memory in
    let stage = loop'.invariant.4 in
    let sized : length loop'.tables ≡ size = loop'.invariant.0 ∙ pre'.sized in
    let over = is-over'.ensures.means sized loop'.words loop'.memory in
    let met = test-met s _ _ _ over may-try'.ensures if1'.true in
    let low = lowest-suspended'.ensures.means sized loop'.words loop'.memory in
    (enable'.auto.tables ∙ loop'.invariant.0, loop'.invariant.1, loop'.invariant.2, keep2'.auto.buffer ∙ loop'.invariant.3, subst (λ (b : Bool). Stage job count'.result usable-of'.result (meaning args'.tables.now args'.words.now args'.memory.now) args'.buffer.now (meaning enable'.new.tables loop'.words loop'.memory) keep2'.result keep2'.new.buffer b 0) (sym if4'.false) (wakes _ _ _ _ _ _ _ _ _ _ stage met.0 met.1 if2'.false if4'.false lowest-suspended'.result low c.if-t-ge32.false c.log_byte.result (meaning enable'.new.tables loop'.words loop'.memory) (ap (λ (n : ℕ). after n enable'.new.tables loop'.words loop'.memory) c.log_byte.ensures ∙ enable'.ensures loop'.words loop'.memory) keep2'.result keep2'.new.buffer keep2'.ensures))

pub returns : goal.returns
returns c =
    let loop' = c.loop-tables in
    let pre' = c.requires in
    let stage = loop'.invariant.4 in
    let sized : length loop'.tables ≡ size = loop'.invariant.0 ∙ pre'.sized in
    let over = c.is_over.ensures.means sized loop'.words loop'.memory in
    stops _ _ _ _ _ _ _ _ _ _ stage _ _ over c.may_try.ensures c.loop-tables-test.false
