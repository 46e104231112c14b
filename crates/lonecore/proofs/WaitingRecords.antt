-- What one changed record, or two, do to the number of waiting threads: it changes by those that wait before and after (`two-waiting`), and
-- stays where none of them does (`one-moving`, `two-moving`). Assumes nothing.
use mathlib.Core.Bool.{Bool, true, false}
use mathlib.Core.List.{List}
use mathlib.Core.Path.{◌≡◌, sym, ap}
use Prim.Native.Nat.{ℕ, ◌+◌, ◌≤◌, ◌<◌}
use native.Mathlib.Omega.{arith}
use lib.ListN.{get_or, set, length, length-set}
use lib.Seq.{get_or-set_other}
use borrow.Author.Tests.{ne_eqb}
use Rattle.thread.specs.declared.Status.TheVariants.{Waiting}
use Rattle.thread.specs.declared.Thread.{Thread}
use Rattle.thread.specs.Thread.{blank_thread, ◌is◌}
use Rattle.census.specs.Counted.{one_if, is_in, records_in}
use Rattle.soundness.proofs.Changes.{standing}
use Rattle.lonecore.proofs.Records.{in-set}

-- a record that does not wait, and any
pub moving : (h : Thread) → ¬ (standing h ≡ 4) → is_in Waiting h ≡ 0
moving h n = ap one_if (ne_eqb (standing h) 4 n)

pub one-most : (h : Thread) → is_in Waiting h ≤ 1
one-most h = go (h.status is Waiting)
  where
    go : (b : Bool) → one_if b ≤ 1
    go true = omega arith
    go false = omega arith

module _ (threads : List Thread) (t : ℕ) (g : Thread) (low : t < length threads) where
  -- one record becomes g
  pub one-moving : ¬ (standing (get_or threads t blank_thread) ≡ 4) → ¬ (standing g ≡ 4) → records_in Waiting (set threads t g) ≡ records_in Waiting threads
  one-moving n m =
      let all = in-set Waiting threads t g low in
      let before = moving (get_or threads t blank_thread) n in
      let after = moving g m in
      omega arith

  -- and another one becomes h
  module _ (p : ℕ) (h : Thread) (low' : p < length threads) (other : ¬ (t ≡ p)) where
    pub two-waiting : records_in Waiting (set (set threads t g) p h) + is_in Waiting (get_or threads t blank_thread) + is_in Waiting (get_or threads p blank_thread)
        ≡ records_in Waiting threads + is_in Waiting g + is_in Waiting h
    two-waiting =
        let first = in-set Waiting threads t g low in
        let second = in-set Waiting (set threads t g) p h (rw length-set low') in
        let same : is_in Waiting (get_or (set threads t g) p blank_thread) ≡ is_in Waiting (get_or threads p blank_thread)
        = ap (is_in Waiting) (get_or-set_other threads t p g blank_thread (λ e. other (sym e))) in
        omega arith

    pub two-moving : ¬ (standing (get_or threads t blank_thread) ≡ 4) → ¬ (standing (get_or threads p blank_thread) ≡ 4) → ¬ (standing g ≡ 4)
        → ¬ (standing h ≡ 4) → records_in Waiting (set (set threads t g) p h) ≡ records_in Waiting threads
    two-moving n n' m m' =
        let all = two-waiting in
        let a = moving (get_or threads t blank_thread) n in
        let b = moving (get_or threads p blank_thread) n' in
        let c = moving g m in
        let d = moving h m' in
        omega arith
