-- The balance of waits and wakes of the rules that take a thread off its core: a join that waits, which charges nothing and adds a waiting
-- thread (`waited`), and a return, which charges something and makes its parent ready at most (`returned`). Assumes a sound state.
use mathlib.Core.Bool.{Bool, true, false, cond}
use mathlib.Core.Logic.{⊎_elim}
use mathlib.Core.Path.{◌≡◌, refl, ap}
use Prim.Native.Nat.{ℕ, ◌+◌}
use native.Mathlib.Omega.{arith}
use lib.ListN.{length-set}
use lib.Seq.{get_or-set_other}
use Rattle.thread.specs.declared.Status.TheVariants.{Running, Waiting}
use Rattle.thread.specs.declared.Thread.{Thread}
use Rattle.thread.specs.Thread.{blank_thread, with_status, disconnected, without_child, is_root, none}
use Rattle.census.specs.Counted.{is_in}
use Rattle.rules.specs.State.{Job, State, finished, thread_at}
use Rattle.rules.specs.Turn.{turn_at}
use Rattle.rules.specs.Update.{set_thread, set_core, set_outcome, accepted}
use Rattle.rules.specs.Leave.{runs, leaves}
use Rattle.rules.specs.Return.{freed, status_after, return_to_parent, return_of}
use Rattle.rules.specs.Sound.{Sound, Used, status_at, parent_at}
use Rattle.soundness.proofs.Changes.{standing, used-below}
use Rattle.soundness.proofs.EntryCases.{Stepped, Waits}
use Rattle.soundness.proofs.Parts.{runs as running}
use Rattle.soundness.proofs.ThreadsMet.{runner, parent-used, child-not-first}
use Rattle.lonecore.proofs.FewChanges.{ready-most}
use Rattle.lonecore.proofs.Records.{in-set}
use Rattle.lonecore.proofs.WaitingRecords.{moving, one-most, one-moving, two-waiting}
use Rattle.lonecore.proofs.BalanceChanges.{Balanced, Shown, waiting_in, charged, runs_on}

module _ (j : Job) (s : State) (ok : Sound j s) where
  -- thread t waits
  left : ℕ → State
  left t = set_thread t (disconnected Waiting (thread_at s t)) s

  -- one more, where it ran
  one-waits : (t : ℕ) → status_at s t ≡ 1 → waiting_in (left t) ≡ waiting_in s + 1
  unfolding left
  one-waits t run =
      let all = in-set Waiting s.threads t (disconnected Waiting (thread_at s t)) (used-below s t (omega arith)) in
      let before = moving (thread_at s t) (λ q. omega arith) in
      omega arith

  -- the parent of a connected one was lent, and runs now
  parent-runs : (c t : ℕ) → status_at s t ≡ 1 → (thread_at s t).connected ≡ true → waiting_in (runs c (parent_at s t) (left t)) ≡ waiting_in (left t)
  unfolding left
  parent-runs c t run e =
      one-moving (left t).threads p (with_status Running (thread_at (left t) p)) (rw length-set (used-below s p (omega (arith, lent)))) not-waiting (λ q. omega arith)
    where
      p : ℕ
      p = parent_at s t

      lent : status_at s p ≡ 5
      lent = (ok.links.linked t e).1

      other : ¬ (p ≡ t)
      other q = let z : status_at s p ≡ status_at s t = ap (status_at s) q in let y = lent in let x = run in omega arith

      not-waiting : ¬ (status_at (left t) p ≡ 4)
      not-waiting q =
          let z : status_at (left t) p ≡ status_at s p
          = ap standing (get_or-set_other s.threads t p (disconnected Waiting (thread_at s t)) blank_thread other) in
          let y = lent in
          omega arith

  -- a join that waits
  pub waited : (c t : ℕ) → Waits j s c t → Balanced s (leaves c t Waiting s)
  unfolding leaves left
  waited c t k = go (thread_at s t).connected refl
    where
      run : status_at s t ≡ 1
      run = running j s ok c t k.core k.seat k.low

      go : (b : Bool) → (thread_at s t).connected ≡ b → Balanced s (cond b (runs c (parent_at s t) (left t)) (set_core c none (left t)))
      go false e = let z = one-waits t run in record { any = omega arith; rest = λ _. omega arith }
      go true e = let z = one-waits t run in let y = parent-runs c t run e in record { any = omega arith; rest = λ _. omega arith }

  -- a return to the parent: the ready queue gains one thread at most, and the parent alone may stop waiting
  to-parent : (c t v : ℕ) → Stepped j s c t → is_root (thread_at s t) ≡ false
      → Balanced s (return_to_parent j s (turn_at j s c t) (parent_at s t) (thread_at s (parent_at s t)) v)
  unfolding return_to_parent
  to-parent c t v k root = record {
    any = omega (arith, counts, gone, ready-most (thread_at s t).connected (thread_at s p) p s.queues.ready, one-most (thread_at s p));
    rest = λ e. absurd (let z = charged j s ok c t used s' refl in omega arith);
  }
    where
      p : ℕ
      p = parent_at s t

      s' : State
      s' = return_to_parent j s (turn_at j s c t) (parent_at s t) (thread_at s (parent_at s t)) v

      used : Used s t
      used = runner j s ok c t k

      parent : Used s p
      parent = parent-used j s ok t used root

      other : ¬ (t ≡ p)
      other q = ⊎_elim (λ z. absurd (child-not-first j s ok t used root z.0))
          (λ z. let y = ap ok.tree.rank q in let x = z.2 in omega arith) (ok.tree.tree t used)

      after : Thread
      after = without_child (status_after (thread_at s t).connected (thread_at s p)) (thread_at s p)

      counts : waiting_in s' + is_in Waiting (thread_at s t) + is_in Waiting (thread_at s p) ≡ waiting_in s + 0 + is_in Waiting after
      counts = two-waiting s.threads t blank_thread (used-below s t used) p after (used-below s p parent) other

      gone : is_in Waiting (thread_at s t) ≡ 0
      gone = moving (thread_at s t) (λ q. let z = runs_on j s ok c t k in omega arith)

  -- a return: to the parent, or the machine has finished
  pub returned : (c t v : ℕ) → Stepped j s c t → Shown s (accepted (return_of j s (turn_at j s c t) v))
  unfolding return_of
  returned c t v k = go (is_root (thread_at s t)) refl
    where
      go : (b : Bool) → is_root (thread_at s t) ≡ b → Shown s (accepted (cond b (set_outcome (finished v) (set_core c none (freed j (turn_at j s c t) s)))
          (return_to_parent j s (turn_at j s c t) (parent_at s t) (thread_at s (parent_at s t)) v)))
      go true r z e = absurd (let y : ◌≡◌ {A = ℕ} 0 1 = cc in omega arith)
      go false r z e = to-parent c t v k r
