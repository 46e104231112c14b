-- `entries::step::burst` meets its contract. The invariant: so many steps were made as are no longer left, with position and units held apart.
use Rattle.std.proofs.Common.{◌≡◌, ℕ, suc, ◌+◌, ◌-◌, ◌%◌, ◌^◌, ◌<◌, ◌≤◌, Bool, ◌&&◌, eqb, ltb, List, get_or, sym, refl, ap, ◌∙◌, subst, arith, rules, ltb-false, ltb-true}
use Rattle.entries.proofs.Bursting.{Made, Stands, Does, begins, stands, does, byte_low, place-fits, guarded, goes-own, ends-full, leaving, ends-short, resting, ends-rest}
use Rattle.entries.proofs.Meeting.{stored}
use Rattle.entries.specs.Burst.{stands_at, short_of, rest_given}
use Rattle.entries.specs.Own.{OwnAs}
use Rattle.tables.specs.Change.{Becomes}
use Rattle.dispatch.specs.Orderly.{after}
use Rattle.entries.specs.Given.{Carrying, turn_in}
use Rattle.command.specs.Weight.{weight_of, standard_weights}
use Rattle.thread.specs.Bytes.{bytes_by}
use Rattle.rules.specs.State.{job_of}
use Rattle.thread.specs.declared.Thread.{Thread}
use Rattle.std.specs.Prelude.{Some}
use Rattle.tables.proofs.Changes.{thread-seen}
use Rattle.tables.specs.Meaning.{meaning}
use Rattle.entries.specs.Repeat.{Repeats}
use Rattle.schedule.specs.declared.Entry.TheVariants.{Step}
use Rattle.entries.proofs.step.burst.Goals as goal

pub overflow_sub-left : goal.overflow_sub-left
overflow_sub-left c =
    let args' = c.args in
    let pre' = c.requires in
    let a = args' in
    omega (arith, c.units.ensures.means pre'.sounding.sized a.words.now a.memory.now, pre'.sounding.sound.sized.units)

pub loop-h-init : goal.loop-h-init
loop-h-init c =
    let thread-at' = c.thread_at-h in
    let args' = c.args in
    let pre' = c.requires in
    let a = args' in
    let th = thread-at'.result in
    let seen = thread-seen pre'.sounding.sized a.words.now a.memory.now a.t th pre'.number thread-at'.ensures in
    let low : th.position < 65536 = search rules in
    let used = c.units.ensures.means pre'.sounding.sized a.words.now a.memory.now in
    (refl, refl, refl, omega arith, low, λ busy. subst (λ (k : ℕ). Made busy k th.position (a.job.now.allowance - c.units.result) a.words.now a.memory.now) (omega arith) (begins busy th c.units.result seen used))

pub overflow_add-place : goal.overflow_add-place
overflow_add-place c = omega (arith, c.loop-h.invariant.4, c.place_of-start.ensures.1)

pub bounds-weights-five : goal.bounds-weights-five
bounds-weights-five c =
    let place-in-image' = c.place_of-start in
    let thread-at' = c.thread_at-h in
    let args' = c.args in
    let pre' = c.requires in
    let busy = pre' in
    let a = args' in
    let th = thread-at'.result in
    let seen = thread-seen busy.sounding.sized a.words.now a.memory.now a.t th busy.number thread-at'.ensures in
    let made = c.loop-h.invariant.5 busy in
    let byte = get_or c.five_at-five.result 0 0 in
    let at : Stands busy c.loop-h.position (place-in-image'.result + c.loop-h.position) byte = stands busy th place-in-image'.result c.loop-h.position c.five_at-five.result seen place-in-image'.ensures.0 c.five_at-five.ensures in
    byte_low busy made at

pub overflow_sub-job : goal.overflow_sub-job
overflow_sub-job c =
    let pre' = c.requires in
    omega (arith, (c.loop-h.invariant.5 pre').few)

pub overflow_sub-more : goal.overflow_sub-more
overflow_sub-more c = omega (arith, c.loop-h.invariant.3)

pub fall_short-requires : goal.fall_short-requires
fall_short-requires c =
    let put-back' = c.put_back in
    let five-at' = c.five_at-five in
    let loop' = c.loop-h in
    let place-in-image' = c.place_of-start in
    let thread-at' = c.thread_at-h in
    let args' = c.args in
    let pre' = c.requires in
    let busy = pre' in
    let a = args' in
    let th = thread-at'.result in
    let seen = thread-seen busy.sounding.sized a.words.now a.memory.now a.t th busy.number thread-at'.ensures in
    let made = loop'.invariant.5 busy in
    let byte = get_or five-at'.result 0 0 in
    let at : Stands busy loop'.position (place-in-image'.result + loop'.position) byte = stands busy th place-in-image'.result loop'.position five-at'.result seen place-in-image'.ensures.0 five-at'.ensures in
    let ys = put-back'.new.tables in
    let used = a.job.now.allowance - loop'.left in
    let back : Becomes a.tables.now ys (stands_at (a.t % 32) loop'.position used) = subst (λ (l : List ℕ). Becomes l ys (stands_at (a.t % 32) loop'.position used)) loop'.invariant.0 put-back'.ensures in
    leaving busy made at back

pub returns-then-falls_short : goal.returns-then-falls_short
returns-then-falls_short c =
    let fall-short' = c.fall_short in
    let put-back' = c.put_back in
    let falls-short' = c.falls_short in
    let must-wait' = c.must_wait-waits in
    let five-at' = c.five_at-five in
    let loop' = c.loop-h in
    let weights' = c.weights-weights in
    let place-in-image' = c.place_of-start in
    let thread-at' = c.thread_at-h in
    let args' = c.args in
    let pre' = c.requires in
    let busy = pre' in
    let a = args' in
    let th = thread-at'.result in
    let seen = thread-seen busy.sounding.sized a.words.now a.memory.now a.t th busy.number thread-at'.ensures in
    let made = loop'.invariant.5 busy in
    let byte = get_or five-at'.result 0 0 in
    let at : Stands busy loop'.position (place-in-image'.result + loop'.position) byte = stands busy th place-in-image'.result loop'.position five-at'.result seen place-in-image'.ensures.0 five-at'.ensures in
    let ys = put-back'.new.tables in
    let used = a.job.now.allowance - loop'.left in
    let back : Becomes a.tables.now ys (stands_at (a.t % 32) loop'.position used) = subst (λ (l : List ℕ). Becomes l ys (stands_at (a.t % 32) loop'.position used)) loop'.invariant.0 put-back'.ensures in
    let paid = ap (λ (l : List ℕ). get_or l byte 0) weights'.ensures in
    let weight = weight_of standard_weights byte in
    let dear : loop'.left < weight = omega (arith, paid, ltb-true loop'.left (get_or weights'.result byte 0) (sym falls-short'.ensures ∙ c.if-falls_short.true)) in
    let zs = fall-short'.new.tables in
    let waits = must-wait'.ensures ∙ ap (λ (h : Thread). eqb byte 10 && ltb 0 h.family.children) seen in
    ends-short busy made at back dear a.more c.told.result zs (omega arith) c.told.ensures.0
    (ap (λ (n : ℕ). after n zs loop'.words loop'.memory) c.told.ensures.1 ∙ fall-short'.ensures loop'.words loop'.memory
    ∙ ap (λ (b : Bool). short_of a.c a.t b (meaning ys loop'.words loop'.memory)) waits)

pub carry_own-requires : goal.carry_own-requires
carry_own-requires c =
    let effect' = c.effect-done in
    let command-of' = c.command_of in
    let five-at' = c.five_at-five in
    let loop' = c.loop-h in
    let place-in-image' = c.place_of-start in
    let thread-at' = c.thread_at-h in
    let args' = c.args in
    let pre' = c.requires in
    let busy = pre' in
    let a = args' in
    let th = thread-at'.result in
    let seen = thread-seen busy.sounding.sized a.words.now a.memory.now a.t th busy.number thread-at'.ensures in
    let made = loop'.invariant.5 busy in
    let byte = get_or five-at'.result 0 0 in
    let at : Stands busy loop'.position (place-in-image'.result + loop'.position) byte = stands busy th place-in-image'.result loop'.position five-at'.result seen place-in-image'.ensures.0 five-at'.ensures in
    let e = effect'.result in
    let is : Does busy loop'.words (place-in-image'.result + loop'.position) e = does busy th (place-in-image'.result + loop'.position) loop'.words five-at'.result command-of'.result e seen five-at'.ensures command-of'.ensures (rw c.of.ensures at effect'.ensures) in
    stored _ _ _ _ e (guarded busy made at e is)

pub overflow_sub-left-in-Some : goal.overflow_sub-left-in-Some
overflow_sub-left-in-Some c =
    let if1' = c.if-falls_short in
    let falls-short' = c.falls_short in
    let five-at' = c.five_at-five in
    let loop' = c.loop-h in
    let weights' = c.weights-weights in
    omega (arith, c.from-left.ensures, ltb-false loop'.left (get_or weights'.result (get_or five-at'.result 0 0) 0) (sym falls-short'.ensures ∙ if1'.false))

pub overflow_sub-job-then-rest-eq0 : goal.overflow_sub-job-then-rest-eq0
overflow_sub-job-then-rest-eq0 c =
    let loop' = c.loop-h in
    let pre' = c.requires in
    omega (arith, (loop'.invariant.5 pre').few)

pub returns-then-rest-eq0 : goal.returns-then-rest-eq0
returns-then-rest-eq0 c =
    let put-back2' = c.put_back-then-rest-eq0 in
    let wide' = c.from-left in
    let own' = c.in-Some in
    let carry-own' = c.carry_own in
    let effect' = c.effect-done in
    let command-of' = c.command_of in
    let if1' = c.if-falls_short in
    let falls-short' = c.falls_short in
    let five-at' = c.five_at-five in
    let loop' = c.loop-h in
    let weights' = c.weights-weights in
    let place-in-image' = c.place_of-start in
    let thread-at' = c.thread_at-h in
    let args' = c.args in
    let pre' = c.requires in
    let busy = pre' in
    let a = args' in
    let th = thread-at'.result in
    let seen = thread-seen busy.sounding.sized a.words.now a.memory.now a.t th busy.number thread-at'.ensures in
    let made = loop'.invariant.5 busy in
    let byte = get_or five-at'.result 0 0 in
    let at : Stands busy loop'.position (place-in-image'.result + loop'.position) byte = stands busy th place-in-image'.result loop'.position five-at'.result seen place-in-image'.ensures.0 five-at'.ensures in
    let e = effect'.result in
    let is : Does busy loop'.words (place-in-image'.result + loop'.position) e = does busy th (place-in-image'.result + loop'.position) loop'.words five-at'.result command-of'.result e seen five-at'.ensures command-of'.ensures (rw c.of.ensures at effect'.ensures) in
    let paid = ap (λ (l : List ℕ). get_or l byte 0) weights'.ensures in
    let enough : weight_of standard_weights byte ≤ loop'.left = omega (arith, paid, ltb-false loop'.left (get_or weights'.result byte 0) (sym falls-short'.ensures ∙ if1'.false)) in
    let ws = carry-own'.new.words in
    let ms = carry-own'.new.memory in
    let p = own'.next in
    let less = loop'.left - wide'.result in
    let told = subst (λ (h : Thread). OwnAs e loop'.position h.origin.base a.job.now.parameters.now loop'.words loop'.memory ws ms (Some p)) seen (rw own'.is at carry-own'.ensures) in
    let made' : Made busy (suc (a.more - loop'.rest)) p less ws ms = subst (λ (n : ℕ). Made busy (suc (a.more - loop'.rest)) p n ws ms) (omega (arith, wide'.ensures, paid)) (goes-own busy made at e is enough p ws ms told) in
    let full : suc (a.more - loop'.rest) ≡ suc a.more = omega (arith, c.if-rest-eq0.true) in
    let ys = put-back2'.new.tables in
    let used = a.job.now.allowance - less in
    let back : Becomes a.tables.now ys (stands_at (a.t % 32) p used) = subst (λ (l : List ℕ). Becomes l ys (stands_at (a.t % 32) p used)) loop'.invariant.0 put-back2'.ensures in
    ends-full busy made' back a.more c.told-then-rest-eq0.result full c.told-then-rest-eq0.ensures.0 c.told-then-rest-eq0.ensures.1

pub loop-h-smaller : goal.loop-h-smaller
loop-h-smaller c = omega (arith, c.if-rest-eq0.false)

pub loop-h-preserved : goal.loop-h-preserved
loop-h-preserved c =
    let low : c.in-Some.next < 65536 = search rules in
    let own' = c.in-Some in
    let carry-own' = c.carry_own in
    let effect' = c.effect-done in
    let command-of' = c.command_of in
    let if1' = c.if-falls_short in
    let falls-short' = c.falls_short in
    let five-at' = c.five_at-five in
    let loop' = c.loop-h in
    let weights' = c.weights-weights in
    let place-in-image' = c.place_of-start in
    let thread-at' = c.thread_at-h in
    let args' = c.args in
    let p = own'.next in (
      loop'.invariant.0,
      carry-own'.auto.words ∙ loop'.invariant.1,
      carry-own'.auto.memory ∙ loop'.invariant.2,
      omega (arith, loop'.invariant.3),
      low,
      λ busy.
          let a = args' in
          let th = thread-at'.result in
          let seen = thread-seen busy.sounding.sized a.words.now a.memory.now a.t th busy.number thread-at'.ensures in
          let made = loop'.invariant.5 busy in
          let byte = get_or five-at'.result 0 0 in
          let at : Stands busy loop'.position (place-in-image'.result + loop'.position) byte = stands busy th place-in-image'.result loop'.position five-at'.result seen place-in-image'.ensures.0 five-at'.ensures in
          let e = effect'.result in
          let is : Does busy loop'.words (place-in-image'.result + loop'.position) e = does busy th (place-in-image'.result + loop'.position) loop'.words five-at'.result command-of'.result e seen five-at'.ensures command-of'.ensures (rw c.of.ensures at effect'.ensures) in
          let paid = ap (λ (l : List ℕ). get_or l byte 0) weights'.ensures in
          let enough : weight_of standard_weights byte ≤ loop'.left = omega (arith, paid, ltb-false loop'.left (get_or weights'.result byte 0) (sym falls-short'.ensures ∙ if1'.false)) in
          let ws = carry-own'.new.words in
          let ms = carry-own'.new.memory in
          let p = own'.next in
          let less = loop'.left - c.from-left.result in
          let told = subst (λ (h : Thread). OwnAs e loop'.position h.origin.base a.job.now.parameters.now loop'.words loop'.memory ws ms (Some p)) seen (rw own'.is at carry-own'.ensures) in
          let made' : Made busy (suc (a.more - loop'.rest)) p less ws ms = subst (λ (n : ℕ). Made busy (suc (a.more - loop'.rest)) p n ws ms) (omega (arith, c.from-left.ensures, paid)) (goes-own busy made at e is enough p ws ms told) in
          subst (λ (k : ℕ). Made busy k p less ws ms) (omega (arith, loop'.invariant.3, c.if-rest-eq0.false)) made',
    )

pub overflow_sub-job-in-None : goal.overflow_sub-job-in-None
overflow_sub-job-in-None c =
    let loop' = c.loop-h in
    let pre' = c.requires in
    omega (arith, (loop'.invariant.5 pre').few)

pub overflow_cast-first : goal.overflow_cast-first
overflow_cast-first c =
    let five-at' = c.five_at-five in
    let loop' = c.loop-h in
    let place-in-image' = c.place_of-start in
    let thread-at' = c.thread_at-h in
    let args' = c.args in
    let pre' = c.requires in
    let busy = pre' in
    let a = args' in
    let th = thread-at'.result in
    let seen = thread-seen busy.sounding.sized a.words.now a.memory.now a.t th busy.number thread-at'.ensures in
    let made = loop'.invariant.5 busy in
    let byte = get_or five-at'.result 0 0 in
    let at : Stands busy loop'.position (place-in-image'.result + loop'.position) byte = stands busy th place-in-image'.result loop'.position five-at'.result seen place-in-image'.ensures.0 five-at'.ensures in
    omega (arith, place-fits busy made at)

pub carry_rest-met-requires : goal.carry_rest-met-requires
carry_rest-met-requires c =
    let put-back3' = c.put_back-in-None in
    let carry-own' = c.carry_own in
    let effect' = c.effect-done in
    let command-of' = c.command_of in
    let if1' = c.if-falls_short in
    let falls-short' = c.falls_short in
    let five-at' = c.five_at-five in
    let loop' = c.loop-h in
    let weights' = c.weights-weights in
    let place-in-image' = c.place_of-start in
    let thread-at' = c.thread_at-h in
    let args' = c.args in
    let fits' = c.ranges in
    let pre' = c.requires in
    let busy = pre' in
    let a = args' in
    let th = thread-at'.result in
    let seen = thread-seen busy.sounding.sized a.words.now a.memory.now a.t th busy.number thread-at'.ensures in
    let made = loop'.invariant.5 busy in
    let byte = get_or five-at'.result 0 0 in
    let at : Stands busy loop'.position (place-in-image'.result + loop'.position) byte = stands busy th place-in-image'.result loop'.position five-at'.result seen place-in-image'.ensures.0 five-at'.ensures in
    let e = effect'.result in
    let is : Does busy loop'.words (place-in-image'.result + loop'.position) e = does busy th (place-in-image'.result + loop'.position) loop'.words five-at'.result command-of'.result e seen five-at'.ensures command-of'.ensures (rw c.of.ensures at effect'.ensures) in
    let paid = ap (λ (l : List ℕ). get_or l byte 0) weights'.ensures in
    let enough : weight_of standard_weights byte ≤ loop'.left = omega (arith, paid, ltb-false loop'.left (get_or weights'.result byte 0) (sym falls-short'.ensures ∙ if1'.false)) in
    let ys = put-back3'.new.tables in
    let used = a.job.now.allowance - loop'.left in
    let back : Becomes a.tables.now ys (stands_at (a.t % 32) loop'.position used) = subst (λ (l : List ℕ). Becomes l ys (stands_at (a.t % 32) loop'.position used)) loop'.invariant.0 put-back3'.ensures in
    let told = rw c.in-None.is at carry-own'.ensures in
    (leaving busy made at back, subst (λ (w : ℕ). Carrying ys a.c a.t w e) (sym paid) (resting busy made at back e is enough (omega arith) told.2))

pub overflow_sub-more-in-None : goal.overflow_sub-more-in-None
overflow_sub-more-in-None c =
    let loop' = c.loop-h in
    omega (arith, loop'.invariant.3)

pub returns-in-None : goal.returns-in-None
returns-in-None c =
    let carry-rest' = c.carry_rest-met in
    let put-back3' = c.put_back-in-None in
    let enum-told' = c.in-None in
    let carry-own' = c.carry_own in
    let effect' = c.effect-done in
    let command-of' = c.command_of in
    let if1' = c.if-falls_short in
    let falls-short' = c.falls_short in
    let must-wait' = c.must_wait-waits in
    let five-at' = c.five_at-five in
    let loop' = c.loop-h in
    let weights' = c.weights-weights in
    let place-in-image' = c.place_of-start in
    let thread-at' = c.thread_at-h in
    let args' = c.args in
    let pre' = c.requires in
    let busy = pre' in
    let a = args' in
    let th = thread-at'.result in
    let seen = thread-seen busy.sounding.sized a.words.now a.memory.now a.t th busy.number thread-at'.ensures in
    let made = loop'.invariant.5 busy in
    let byte = get_or five-at'.result 0 0 in
    let at : Stands busy loop'.position (place-in-image'.result + loop'.position) byte = stands busy th place-in-image'.result loop'.position five-at'.result seen place-in-image'.ensures.0 five-at'.ensures in
    let e = effect'.result in
    let is : Does busy loop'.words (place-in-image'.result + loop'.position) e = does busy th (place-in-image'.result + loop'.position) loop'.words five-at'.result command-of'.result e seen five-at'.ensures command-of'.ensures (rw c.of.ensures at effect'.ensures) in
    let paid = ap (λ (l : List ℕ). get_or l byte 0) weights'.ensures in
    let enough : weight_of standard_weights byte ≤ loop'.left = omega (arith, paid, ltb-false loop'.left (get_or weights'.result byte 0) (sym falls-short'.ensures ∙ if1'.false)) in
    let ys = put-back3'.new.tables in
    let used = a.job.now.allowance - loop'.left in
    let back : Becomes a.tables.now ys (stands_at (a.t % 32) loop'.position used) = subst (λ (l : List ℕ). Becomes l ys (stands_at (a.t % 32) loop'.position used)) loop'.invariant.0 put-back3'.ensures in
    let told = rw enum-told'.is at carry-own'.ensures in
    let waits = must-wait'.ensures ∙ ap (λ (h : Thread). eqb byte 10 && ltb 0 h.family.children) seen in
    let job = job_of a.job.now.image.now a.job.now.starts.now a.job.now.parameters.now a.job.now.allowance in
    let next = (loop'.position + bytes_by e) % 2 ^ 16 in
    let place = place-in-image'.result + loop'.position in
    let zs = carry-rest'.new.tables in
    let vs = carry-rest'.new.words in
    subst (λ (ms : List ℕ). Repeats job (meaning a.tables.now a.words.now a.memory.now) (Step a.c) a.more c.told-in-None.result (meaning zs vs ms)) (sym told.1)
    (ends-rest busy made at back e is enough a.more c.told-in-None.result zs vs (omega arith) c.told-in-None.ensures.0
    (ap (λ (n : ℕ). after n zs vs loop'.memory) c.told-in-None.ensures.1 ∙ carry-rest'.ensures a.job.now.starts.now a.job.now.parameters.now loop'.memory a.job.now.allowance
    ∙ ap (λ (ws : List ℕ). rest_given job (meaning ys ws loop'.memory) (turn_in ys a.c a.t (get_or weights'.result byte 0) next place) e must-wait'.result) told.0
    ∙ ap (λ (w : ℕ). rest_given job (meaning ys loop'.words loop'.memory) (turn_in ys a.c a.t w next place) e must-wait'.result) paid
    ∙ ap (λ (b : Bool). rest_given job (meaning ys loop'.words loop'.memory) (turn_in ys a.c a.t (weight_of standard_weights byte) next place) e b) waits))
