-- A sound machine does not jam: where every core's step and take are refused, the machine is over, or a thread is suspended (which an
-- enable would make ready), or a step lacks a thread number, a stacklet or units (`jam`). Assumes nothing but that the state is sound.
use mathlib.Core.Bool.{Bool, true, false}
use mathlib.Core.List.{[]}
use mathlib.Core.Logic.{◌⊎◌, inl, inr, ⊎_elim}
use mathlib.Core.Path.{◌≡◌, refl, ap}
use Prim.Native.Nat.{ℕ, zero, suc, ◌+◌, ◌<◌, ◌≤◌}
use native.Mathlib.Decide.{ℕ_discrete, dec_lt}
use native.Mathlib.Omega.{arith}
use Rattle.thread.specs.Thread.{none}
use Rattle.rules.specs.State.{Job, State, going, is_over, thread_at, on_core}
use Rattle.rules.specs.Rules.{step_of, take_of}
use Rattle.rules.specs.Sound.{status_at, Used, Sound, parent_at}
use Rattle.soundness.proofs.Entries.{not-over}
use Rattle.soundness.proofs.Changes.{status-most, connected_at, used_low}
use Rattle.soundness.proofs.LentThreads.{not-both}
use Rattle.soundness.proofs.ForkTree.{Unfinished, child-some, among-some}
use Rattle.soundness.proofs.Tested.{fault-tested, no-fault}
use Rattle.soundness.proofs.Parts.{going-unfinished}
pub use Rattle.soundness.proofs.Lacks.{Lacks}
use Rattle.soundness.proofs.Logs.{StepLog, step_over, step_no_core, step_idle, step_dear, step_faults, step_few_threads, step_few_stacklets, step_accepted, step-log, TakeLog, take_over, take_no_core, take_busy, take_empty, take_accepted, take-log}

-- Where no core runs anything, nothing is ready and nothing is suspended, each thread in use waits or is lent, so it has a child in use,
-- of a higher rank; ranks are bounded
module _ (j : Job) (s : State) (ok : Sound j s) (idle : (c : ℕ) → c < s.count → none ≤ on_core s c) (empty : s.queues.ready ≡ [])
    (awake : (t : ℕ) → ¬ (status_at s t ≡ 3)) where
  number : (t : ℕ) → Used s t → t < 32
  number = used_low s ok.sized.threads

  -- a child has a higher rank
  deeper : (t u : ℕ) → Used s t → Used s u → parent_at s u ≡ t → ok.tree.rank t < ok.tree.rank u
  deeper t u h k e = ⊎_elim (λ z. let l = number t h in let q = z.1 in absurd (omega arith)) (λ z. rw e at z.2) (ok.tree.tree u k)

  below : (t : ℕ) → Used s t → (u : ℕ) × Used s u × (ok.tree.rank t < ok.tree.rank u)
  below t h = go (ℕ_discrete (status_at s t) 4) (ℕ_discrete (status_at s t) 5)
    where
      not-running : ¬ (status_at s t ≡ 1)
      not-running e = let z = ok.seats.seated t e in let l = number t h in let i = idle z.0 z.1 in let q = z.2 in omega arith

      not-ready : ¬ (status_at s t ≡ 2)
      not-ready e = rw empty at (ok.turns.stands t e)

      used : (u : ℕ) → connected_at s u ≡ true → Used s u
      used u e = ⊎_elim (λ z. omega arith) (λ z. omega arith) (ok.links.linked u e).0

      go : Dec (status_at s t ≡ 4) → Dec (status_at s t ≡ 5) → (u : ℕ) × Used s u × (ok.tree.rank t < ok.tree.rank u)
      go (yes e) _ =
          let z = among-some s t 32 (rw (ok.tree.counted t h) at (ok.tree.waits t e)) in
          let m = child-some s t z.0 z.2 in
          (z.0, m.0, deeper t z.0 h m.0 m.1)
      go (no a) (yes e) = let z = ok.links.lent t e in let k = used z.0 z.1 in (z.0, k, deeper t z.0 h k z.2)
      go (no a) (no b) =
          let x = not-running in
          let y = not-ready in
          let w = awake t in
          let v = status-most (thread_at s t).status in
          absurd (omega arith)

  endless : (f t : ℕ) → ok.tree.deep < f + ok.tree.rank t → Used s t → ⊥
  endless zero t l h = let k = ok.tree.low t in omega arith
  endless (suc f) t l h = let z = below t h in endless f z.0 (let k = z.2 in omega arith) z.1

  -- so there is none in use: the machine has finished
  pub no-jam : Unfinished s → ⊥
  no-jam o = endless (suc ok.tree.deep) 0 (omega arith) (ok.tree.root o)

-- the first number below n that has a property, or none has
pub search : (P : ℕ → Type 0) → ((i : ℕ) → Dec (P i)) → (n : ℕ) → ((i : ℕ) × (i < n) × P i) ⊎ ((i : ℕ) → i < n → ¬ (P i))
search P d zero = inr (λ i l. absurd (omega arith))
search P d (suc n) = go (d n) (search P d n)
  where
    go : Dec (P n) → ((i : ℕ) × (i < n) × P i) ⊎ ((i : ℕ) → i < n → ¬ (P i)) → ((i : ℕ) × (i < suc n) × P i) ⊎ ((i : ℕ) → i < suc n → ¬ (P i))
    go (yes p) _ = inl (n, omega arith, p)
    go (no q) (inl z) = inl (z.0, (let l = z.1 in omega arith), z.2)
    go (no q) (inr f) = inr (λ i l. none-there i l (ℕ_discrete i n))
      where
        none-there : (i : ℕ) → i < suc n → Dec (i ≡ n) → ¬ (P i)
        none-there i l (yes e) p = q (rw e at p)
        none-there i l (no m) p = f i (omega arith) p

-- a log byte that is a refusal, neither 0 nor a fault's number
abbrev pub Refused : ℕ → Type 0
Refused n = (14 ≤ n) × (n ≤ 22)

-- a busy core's step is refused for lack of something only
busy-lacks : (j : Job) (s : State) (c : ℕ) → s.outcome ≡ going → c < s.count → on_core s c < none → (n : ℕ) → StepLog j s c n → Refused n → Lacks n
busy-lacks j s c o l b n (step_over e f) k = absurd (not-both (is_over s.outcome) f (ap is_over o))
busy-lacks j s c o l b n (step_no_core e f g) k = absurd (omega arith)
busy-lacks j s c o l b n (step_idle e f g h) k = absurd (omega arith)
busy-lacks j s c o l b n (step_dear e d) k = inr (inr e)
busy-lacks j s c o l b n (step_faults d f q e) k = absurd (let y = k.0 in let z = k.1 in no-fault n (rw e (fault-tested j s (on_core s c) f q)) (inr (omega arith, omega arith)))
busy-lacks j s c o l b n (step_few_threads e d x y z w) k = inl e
busy-lacks j s c o l b n (step_few_stacklets e d x y z w v u) k = inr (inl e)
busy-lacks j s c o l b n (step_accepted e) k = absurd (let y = k.0 in omega arith)

-- an idle core's take is refused where the ready queue is empty only
idle-empty : (s : State) (c : ℕ) → s.outcome ≡ going → c < s.count → none ≤ on_core s c → (n : ℕ) → TakeLog s c n → Refused n → s.queues.ready ≡ []
idle-empty s c o l i n (take_over e f) k = absurd (not-both (is_over s.outcome) f (ap is_over o))
idle-empty s c o l i n (take_no_core e f g) k = absurd (omega arith)
idle-empty s c o l i n (take_busy e f g h) k = absurd (omega arith)
idle-empty s c o l i n (take_empty e f g h r) k = r
idle-empty s c o l i n (take_accepted e) k = absurd (let y = k.0 in omega arith)

-- THE JAM CLAUSE
pub jam : (j : Job) (s : State) → Sound j s → ((c : ℕ) → c < s.count → Refused (step_of j s c).log × Refused (take_of s c).log)
    → (is_over s.outcome ≡ true) ⊎ (((t : ℕ) × (t < 32) × (status_at s t ≡ 3)) ⊎ ((c : ℕ) × (c < s.count) × Lacks (step_of j s c).log))
jam j s ok bad = go (is_over s.outcome) refl (search (λ t. status_at s t ≡ 3) (λ t. ℕ_discrete (status_at s t) 3) 32)
    (search (λ c. on_core s c < none) (λ c. dec_lt (on_core s c) none) s.count)
  where
    go : (b : Bool) → is_over s.outcome ≡ b → ((t : ℕ) × (t < 32) × (status_at s t ≡ 3)) ⊎ ((t : ℕ) → t < 32 → ¬ (status_at s t ≡ 3))
        → ((c : ℕ) × (c < s.count) × (on_core s c < none)) ⊎ ((c : ℕ) → c < s.count → ¬ (on_core s c < none))
        → (is_over s.outcome ≡ true) ⊎ (((t : ℕ) × (t < 32) × (status_at s t ≡ 3)) ⊎ ((c : ℕ) × (c < s.count) × Lacks (step_of j s c).log))
    go true e _ _ = inl e
    go false e (inl z) _ = inr (inl z)
    go false e (inr f) (inl (c, l, b)) = inr (inr (c, l, busy-lacks j s c (not-over _ e) l b _ (step-log j s ok c) (bad c l).0))
    go false e (inr f) (inr idle) = absurd (no-jam j s ok (λ c l. let z = idle c l in omega arith) empty awake (going-unfinished s (not-over _ e)))
      where
        first : 0 < s.count
        first = ok.sized.some

        empty : s.queues.ready ≡ []
        empty = idle-empty s 0 (not-over _ e) first (let z = idle 0 first in omega arith) _ (take-log s 0) (bad 0 first).1

        awake : (t : ℕ) → ¬ (status_at s t ≡ 3)
        awake t q = f t (used_low s ok.sized.threads t (omega arith)) q
