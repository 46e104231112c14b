-- A fork that is carried out: its child, what the child's run leads to, and the parent behind it. Assumes nothing.
use mathlib.Core.Bool.{Bool, true, false, cond}
use mathlib.Core.List.{List}
use mathlib.Core.Path.{◌≡◌, refl, sym, ◌∙◌, ap}
use Prim.Native.Nat.{ℕ, suc, ◌+◌, ◌-◌, ◌≤◌, ◌<◌}
use native.Mathlib.Omega.{arith}
use borrow.Author.Tests.{le-leb, lt-leb}
use lib.Dec.{leb}
use lib.ListN.{length, set, take, drop, length-take, length-drop}
use Rattle.image.specs.Layout.{arguments_of}
use Rattle.window.specs.declared.Window.{Window}
use Rattle.window.specs.declared.Cut.{Cut}
use Rattle.std.specs.Prelude.{Option, Some, None}
use Rattle.window.specs.Rights.{child_of, rest_of, cut_at}
use Rattle.window.proofs.Laws.{Cutting, cut-means, cut-made}
use Rattle.thread.specs.Thread.{with_pending}
use Rattle.thread.specs.Job.{Job}
use Rattle.thread.specs.Effect.{asked}
use Rattle.serial.specs.declared.Routine.{Routine}
use Rattle.serial.specs.declared.row.Fork.{Fork}
use Rattle.serial.specs.declared.Returned.{Returned}
use Rattle.serial.specs.declared.Halted.{Halted}
use Rattle.serial.specs.Serial.{Ended, stopped, and_then, assigned, advanced, forked, started_on, arguments_from, weight_at, next_effect, fork_called, call_from}
use Rattle.serial.specs.Steps.{open_at, Far, IsFork, HaltsAs, ReturnsAs}
use Rattle.serial.proofs.CommandMet.{weighs, slots-few, next_small, next_of}
use Rattle.serial.proofs.Turns.{Calls, turn-calls}

module _ {j : Job} {n : ℕ} {whole : Ended} {l : Routine} {m : List ℕ} {left : ℕ} {f : Fork} (far : Far j n whole l m left)
    (fork : IsFork j l left f) where
  -- the units so far
  abbrev u : ℕ
  u = j.allowance - left

  called : (call_from j n l m u ≡ fork_called j (call_from j) n l (asked f.routine f.result f.first f.cut) m u)
      × Calls j n l m u f.cut f.routine f.result f.first (next_effect j l)
  called =
      turn-calls j n l m u far.job far.routine (omega (arith, fork.weight, fork.paid, far.most)) (next_effect j l) refl f.cut f.routine f.result f.first fork.asked

  pub fork-slot : f.result < 16
  fork-slot = omega (arith, called.1.asks.result, slots-few j far.job l far.routine)

  pub fork-fits : l.position + 5 < 65536
  fork-fits = omega (arith, called.1.five, next_small j far.job l far.routine)

  -- the cut is in range
  pub fork-cuts : cut_at l.window f.cut ≡ None → ⊥
  fork-cuts q =
      let x = cut-made l.window f.cut called.1.asks.low called.1.asks.high in
      let z : ◌≡◌ {A = ℕ} 0 1 = cc in
      omega arith

  -- its child's arguments are there
  pub fork-end : {count : ℕ} → count ≡ arguments_of j.image f.routine → f.first + count ≤ 16
  fork-end q = omega (arith, q, called.1.asks.arguments, slots-few j far.job l far.routine)

  -- the child, as the definition has it, and the parent behind it
  abbrev young : Routine
  young = started_on f.routine (arguments_from j l f.routine f.first) (child_of l.window f.cut)

  abbrev onward : ℕ → List ℕ → ℕ → Ended
  onward v m' u' = call_from j n (assigned f.result v (advanced j (forked f.result f.cut l))) m' u'

  led : (b : Bool) → leb 32 n ≡ b → cond b (stopped 26 m u) (and_then (call_from j (suc n) young m (u + weight_at j l)) onward) ≡ whole
  led b h = sym (called.0 ∙ ap (λ z. cond z (stopped 26 m u) (and_then (call_from j (suc n) young m (u + weight_at j l)) onward)) h) ∙ far.is

  -- "A fork from 32 deep, the root being 1, meets 26"
  pub fork-deep : 32 ≤ n → stopped 26 m u ≡ whole
  fork-deep h = led true (le-leb 32 n h)

  -- where it is carried out: the parts of the cut, and the child's arguments
  module _ {o : Option Cut} (made : o ≡ cut_at l.window f.cut) {child rest : Window} (cut : o ≡ Some (record { child = child; rest = rest })) {count : ℕ}
      (given : count ≡ arguments_of j.image f.routine) {arguments : List ℕ} (arguments-are : arguments ≡ take (f.first + count - f.first) (drop f.first l.slots))
      (shallow : n < 32) {deeper : ℕ} (deeper-is : deeper ≡ suc n) where
    parts : Cutting l.window f.cut (record { child = child; rest = rest })
    parts = cut-means l.window f.cut _ (sym made ∙ cut)

    is-child : child ≡ child_of l.window f.cut
    is-child = ap (λ (c : Cut). c.child) parts.is

    is-rest : rest ≡ rest_of l.window f.cut
    is-rest = ap (λ (c : Cut). c.rest) parts.is

    same-arguments : arguments ≡ arguments_from j l f.routine f.first
    same-arguments = let z : f.first + count - f.first ≡ arguments_of j.image f.routine = omega (arith, given) in arguments-are ∙ ap (λ i. take i (drop f.first l.slots)) z

    same-child : started_on f.routine arguments child ≡ young
    same-child = rw (same-arguments, is-child)

    paid-units : j.allowance - (left - f.weight) ≡ u + weight_at j l
    paid-units = omega (arith, fork.weight, fork.paid, far.most)

    -- what the child's run gives
    abbrev pub ran : Ended
    ran = call_from j deeper (started_on f.routine arguments child) m (j.allowance - (left - f.weight))

    pub child-few : length arguments ≤ 16
    child-few = rw same-arguments (simp (length-take, length-drop) (omega (arith, fork-end given)))

    pub child-far : Far j deeper ran (started_on f.routine arguments child) m (left - f.weight)
    child-far = record {
      job = far.job;
      routine = rw same-child called.1.child;
      memory = far.memory;
      most = omega (arith, far.most);
      is = refl;
    }

    -- the run behind the child's
    resumed : (ended : Ended) → ended ≡ ran → and_then ended onward ≡ whole
    resumed ended is =
        ap (λ x. and_then x onward) (is ∙ ap (λ x. call_from j deeper x m (j.allowance - (left - f.weight))) same-child
        ∙ ap (λ x. call_from j x young m (j.allowance - (left - f.weight))) deeper-is ∙ ap (λ x. call_from j (suc n) young m x) paid-units)
        ∙ led false (lt-leb 32 n shallow)

    -- the child's run ended by a number, and so does this one
    pub fork-halts : {m' : List ℕ} {h : Halted} → HaltsAs j ran (left - f.weight) m' h → HaltsAs j whole left m' h
    fork-halts ends = record { less = omega (arith, ends.less); is = resumed _ ends.is }

    -- the child has returned
    pub fork-returns : {m' slots : List ℕ} {r : Returned} → ReturnsAs j ran (left - f.weight) m' r → length m' ≡ 992 → slots ≡ set l.slots f.result r.value
        → (r.left < left) × Far j n whole (open_at l.routine (l.position + 5) (with_pending l.pending f.result) rest slots) m' r.left
    fork-returns {r = r} ends same is =
        let some = weighs j far.job l far.routine in
        let next : l.position + 5 ≡ next_of j l = omega (arith, called.1.five) in (
          omega (arith, ends.less, some, fork.weight, fork.paid),
          rw (is, is-rest, next) (record {
            job = far.job;
            routine = called.1.parent r.value;
            memory = same;
            most = omega (arith, ends.less, far.most);
            is = resumed _ ends.is;
          }),
        )
