-- What a rule does to the thread table: it changes no record, one, or two. A relation between each thread's records before and after
-- is shown at the changed threads, and of the other threads' records and themselves (`one-changed`, `two-changed`). Assumes nothing.
use mathlib.Core.Bool.{Bool}
use mathlib.Core.Path.{◌≡◌, sym, ◌∙◌, ap, subst}
use Prim.Native.Nat.{ℕ, ◌<◌, ◌≤◌}
use native.Mathlib.Decide.{ℕ_discrete, dec_lt}
use native.Mathlib.Omega.{arith}
use lib.ListN.{get_or, set, length, length-set, get_or-eq_default}
use lib.Seq.{get_or-set_same, get_or-set_other}
use Rattle.thread.specs.declared.Thread.{Thread}
use Rattle.thread.specs.declared.Status.{Status}
use Rattle.thread.specs.declared.Status.TheVariants.{Free, Running, Ready, Suspended, Waiting, Lent}
use Rattle.thread.specs.Thread.{blank_thread, status_number}
use Rattle.rules.specs.State.{State, thread_at}
use Rattle.rules.specs.Sound.{Used}

-- fields of thread t's record
abbrev pub connected_at : State → ℕ → Bool
connected_at s t = (thread_at s t).connected

abbrev pub children_at : State → ℕ → ℕ
children_at s t = (thread_at s t).family.children

abbrev pub pending_at : State → ℕ → ℕ
pending_at s t = (thread_at s t).family.pending

abbrev pub result_at : State → ℕ → ℕ
result_at s t = (thread_at s t).origin.result

-- a record's status as a number
abbrev pub standing : Thread → ℕ
standing h = status_number h.status

-- there are six
pub status-most : (x : Status) → status_number x ≤ 5
status-most Free = omega arith
status-most Running = omega arith
status-most Ready = omega arith
status-most Suspended = omega arith
status-most Waiting = omega arith
status-most Lent = omega arith

-- a thread in use is in the table
pub used-below : (s : State) (t : ℕ) → Used s t → t < length s.threads
used-below s t h = go (dec_lt t (length s.threads))
  where
    go : Dec (t < length s.threads) → t < length s.threads
    go (yes l) = l
    go (no n) =
        let e : thread_at s t ≡ blank_thread = get_or-eq_default s.threads blank_thread (omega arith) in
        let z = ap standing e in
        absurd (omega arith)

pub used_low : (s : State) → length s.threads ≡ 32 → (t : ℕ) → Used s t → t < 32
used_low s many t h = let z = used-below s t h in omega arith

-- A relation Q of a thread's number and its two records
module _ (s s' : State) (Q : ℕ → Thread → Thread → Type 0) where
  pub none-changed : s'.threads ≡ s.threads → ((u : ℕ) → Q u (thread_at s u) (thread_at s u)) → (u : ℕ) → Q u (thread_at s u) (thread_at s' u)
  none-changed e same u = subst (Q u (thread_at s u)) (ap (λ ts. get_or ts u blank_thread) (sym e)) (same u)

  pub one-changed : (a : ℕ) (A : Thread) → a < length s.threads → s'.threads ≡ set s.threads a A
      → ((u : ℕ) → ¬ (u ≡ a) → Q u (thread_at s u) (thread_at s u)) → Q a (thread_at s a) A → (u : ℕ) → Q u (thread_at s u) (thread_at s' u)
  one-changed a A l e same new u = subst (λ ts. Q u (thread_at s u) (get_or ts u blank_thread)) (sym e) (go (ℕ_discrete u a))
    where
      go : Dec (u ≡ a) → Q u (thread_at s u) (get_or (set s.threads a A) u blank_thread)
      go (yes q) = subst (λ v. Q v (thread_at s v) (get_or (set s.threads a A) v blank_thread)) (sym q)
          (subst (Q a (thread_at s a)) (sym (get_or-set_same s.threads a A blank_thread l)) new)
      go (no n) = subst (Q u (thread_at s u)) (sym (get_or-set_other s.threads a u A blank_thread n)) (same u n)

  pub two-changed : (a : ℕ) (A : Thread) (b : ℕ) (B : Thread) → a < length s.threads → b < length s.threads → ¬ (a ≡ b)
      → s'.threads ≡ set (set s.threads a A) b B
      → ((u : ℕ) → ¬ (u ≡ a) → ¬ (u ≡ b) → Q u (thread_at s u) (thread_at s u)) → Q a (thread_at s a) A → Q b (thread_at s b) B
      → (u : ℕ) → Q u (thread_at s u) (thread_at s' u)
  two-changed a A b B l m d e same new new' u = subst (λ ts. Q u (thread_at s u) (get_or ts u blank_thread)) (sym e)
      (go (ℕ_discrete u b) (ℕ_discrete u a))
    where
      go : Dec (u ≡ b) → Dec (u ≡ a) → Q u (thread_at s u) (get_or (set (set s.threads a A) b B) u blank_thread)
      go (yes q) _ = subst (λ v. Q v (thread_at s v) (get_or (set (set s.threads a A) b B) v blank_thread)) (sym q)
          (subst (Q b (thread_at s b)) (sym (get_or-set_same (set s.threads a A) b B blank_thread (rw length-set m))) new')
      go (no n) (yes q) = subst (λ v. Q v (thread_at s v) (get_or (set (set s.threads a A) b B) v blank_thread)) (sym q)
          (subst (Q a (thread_at s a)) (sym (get_or-set_other (set s.threads a A) b a B blank_thread d
          ∙ get_or-set_same s.threads a A blank_thread l)) new)
      go (no n) (no k) = subst (Q u (thread_at s u))
          (sym (get_or-set_other (set s.threads a A) b u B blank_thread n ∙ get_or-set_other s.threads a u A blank_thread k)) (same u k n)
