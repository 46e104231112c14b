-- `run::tell::statuses` meets its contract. The loop's invariant: the first records are told. Assumes nothing.
use Rattle.std.proofs.Common.{ℕ, ◌+◌, ◌<◌, List, length, get_or, set, refl, arith, length-set, get_or-set_other, get_or-set_same, below_more}
use Rattle.run.proofs.Telling.{Told, told-status, told-all}
use Rattle.run.proofs.tell.statuses.Goals as goal

-- what holds of each cell below i, and of v, holds of each below i + 1 once v is stored at i
set_below : {A : Type 0} (P : ℕ → A → Type 0) (cells : List A) (i : ℕ) (v d : A) → i < length cells → P i v → ((k : ℕ) → k < i → P k (get_or cells k d))
    → (k : ℕ) → k < i + 1 → P k (get_or (set cells i v) k d)
set_below P cells i v d l e f =
    below_more (λ k. P k (get_or (set cells i v) k d)) i (λ k h. rw (get_or-set_other cells i k v d (λ z. omega arith)) (f k h)) (rw (get_or-set_same cells i v d l) e)

pub loop-t-init : goal.loop-t-init
loop-t-init c = (refl, λ k h. absurd (omega arith))

pub loop-t-preserved : goal.loop-t-preserved
loop-t-preserved c =
    let tables' = c.args.tables.now in
    let loop' = c.loop-t in (
      simp length-set loop'.invariant.0,
      set_below (Told tables') loop'.status-items loop'.t c.number.result 0 (omega arith)
          (told-status tables' loop'.t _ _ c.thread_at.ensures c.number.ensures) loop'.invariant.1,
    )

pub returns : goal.returns
returns c = told-all _ c.loop-t.status-items c.loop-t.invariant.0 (λ t h. c.loop-t.invariant.1 t (omega arith))
