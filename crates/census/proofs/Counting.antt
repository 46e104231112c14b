-- The counts of the first records of a table, and of one record more. Assumes nothing.
use borrow.Author.Count.{below_more}
use borrow.Author.Tests.{eqb-true, eqb-false}
use mathlib.Core.Bool.{Bool, true, false}
use mathlib.Core.List.{List, [], ◌∷◌, ◌++◌}
use mathlib.Core.Path.{◌≡◌, refl, sym, ap, ◌∙◌}
use Prim.Native.Nat.{ℕ, zero, suc, ◌+◌, ◌*◌, ◌/◌, ◌≤◌, ◌<◌}
use native.Mathlib.Nat.{add-zero}
use native.Mathlib.Omega.{arith}
use lib.Dec.{eqb}
use lib.ListN.{length, get_or, set, length-set, drop, length-append, get_or-append}
use lib.Seq.{get_or-set_same, get_or-set_other, get_or-drop, get_or-append-add, drop-append_seam}
use Rattle.thread.specs.declared.Status.{Status}
use Rattle.thread.specs.declared.Status.TheVariants.{Free, Running, Ready, Suspended, Waiting, Lent}
use Rattle.thread.specs.declared.Thread.{Thread}
use Rattle.thread.specs.Thread.{status_number, blank_thread, ◌is◌}
use Rattle.cells.specs.Record.{record_at}
use Rattle.cells.proofs.Laws.{record_same}
use Rattle.census.specs.Counted.{one_if, is_in, records_in, census_of}
use Rattle.census.specs.Table.{records_up_to, records_of}
use Rattle.census.proofs.Totals.{total}

module _ (bytes : List ℕ) where
  pub long : (n : ℕ) → length (records_up_to bytes n) ≡ n
  unfolding records_up_to
  long zero = refl
  long (suc n) = length-append (records_up_to bytes n) (record_at bytes (24 * n) ∷ []) ∙ omega (arith, long n)

  pub record_of : (n t : ℕ) → t < n → get_or (records_up_to bytes n) t blank_thread ≡ record_at bytes (24 * t)
  unfolding records_up_to
  record_of zero t h = absurd (omega arith)
  record_of (suc n) t h =
      let last : n ≡ length (records_up_to bytes n) + 0 = omega (arith, long n) in
      below_more (λ k. get_or (records_up_to bytes n ++ (record_at bytes (24 * n) ∷ [])) k blank_thread ≡ record_at bytes (24 * k)) n
      (λ k l. get_or-append (records_up_to bytes n) _ blank_thread k (omega (arith, long n)) ∙ record_of n k l)
      (ap (λ (k : ℕ). get_or (records_up_to bytes n ++ (record_at bytes (24 * n) ∷ [])) k blank_thread) last
      ∙ get_or-append-add (records_up_to bytes n) (record_at bytes (24 * n) ∷ []) 0 blank_thread)
      t (omega arith)

  -- the first record, and those behind it
  front : (n : ℕ) → records_up_to bytes (suc n) ≡ record_at bytes 0 ∷ records_up_to (drop 24 bytes) n
  unfolding records_up_to
  front zero = refl
  front (suc n) =
      let last : record_at (drop 24 bytes) (24 * n) ≡ record_at bytes (24 * suc n) =
      record_same bytes (drop 24 bytes) (24 * suc n) (24 * n) (λ k h. get_or-drop 24 bytes (24 * n + k) 0 ∙ ap (λ (j : ℕ). get_or bytes j 0) (omega arith)) in
      rw (front n, last) refl

-- the records of some bytes behind the 24 of one
next : (x rest : List ℕ) → length x ≡ 24 → records_of (x ++ rest) ≡ record_at x 0 ∷ records_of rest
next x rest e =
    let many : length (x ++ rest) / 24 ≡ suc (length rest / 24) = omega (arith, length-append x rest) in
    let first : record_at (x ++ rest) 0 ≡ record_at x 0 = record_same x (x ++ rest) 0 0 (λ k h. get_or-append x rest 0 (0 + k) (omega arith)) in
    let behind : drop 24 (x ++ rest) ≡ rest = ap (λ (n : ℕ). drop n (x ++ rest)) (sym e) ∙ drop-append_seam x rest in
    rw (many, front (x ++ rest) (length rest / 24), first, behind) refl

few-of : (status : Status) (threads : List Thread) → records_in status threads ≤ length threads
few-of Free threads = omega (arith, total threads)
few-of Running threads = omega (arith, total threads)
few-of Ready threads = omega (arith, total threads)
few-of Suspended threads = omega (arith, total threads)
few-of Waiting threads = omega (arith, total threads)
few-of Lent threads = omega (arith, total threads)

-- the counts so far, each at its state's number, and those of the bytes left make those of all
pub record Sofar (all left counts : List ℕ) : Type 0 where
  pub six : length counts ≡ 6
  pub each : (status : Status) → get_or counts (status_number status) 0 + records_in status (records_of left) ≡ records_in status (records_of all)

pub none : (all : List ℕ) → Sofar all all (0 ∷ 0 ∷ 0 ∷ 0 ∷ 0 ∷ 0 ∷ [])
none all = record { six = refl; each = go }
  where
    go : (status : Status) → get_or (0 ∷ 0 ∷ 0 ∷ 0 ∷ 0 ∷ 0 ∷ []) (status_number status) 0 + records_in status (records_of all) ≡ records_in status (records_of all)
    go Free = omega arith
    go Running = omega arith
    go Ready = omega arith
    go Suspended = omega arith
    go Waiting = omega arith
    go Lent = omega arith

-- all records are counted
pub whole : (all left counts : List ℕ) → length left < 24 → Sofar all left counts
    → record { free = get_or counts 0 0; running = get_or counts 1 0; ready = get_or counts 2 0; suspended = get_or counts 3 0; waiting = get_or counts 4 0; lent = get_or counts 5 0 } ≡ census_of (records_of all)
unfolding records_up_to records_in
whole all left counts few sofar =
    let none : length left / 24 ≡ 0 = omega arith in
    let so = rw none at sofar.each in
    rw (← so Free, ← so Running, ← so Ready, ← so Suspended, ← so Waiting, ← so Lent) (simp add-zero)

-- one more at a place
bumped : (counts : List ℕ) (i j : ℕ) → i < length counts → get_or (set counts i (get_or counts i 0 + 1)) j 0 ≡ get_or counts j 0 + one_if (eqb i j)
bumped counts i j l = go (eqb i j) refl
  where
    go : (b : Bool) → eqb i j ≡ b → get_or (set counts i (get_or counts i 0 + 1)) j 0 ≡ get_or counts j 0 + one_if b
    go true e = let same : i ≡ j = eqb-true _ _ e in rw (← same) (get_or-set_same counts i _ 0 l)
    go false e = get_or-set_other counts i j _ 0 (λ s. eqb-false _ _ e (sym s)) ∙ omega arith

pub small : (status : Status) → status_number status < 6
small Free = omega arith
small Running = omega arith
small Ready = omega arith
small Suspended = omega arith
small Waiting = omega arith
small Lent = omega arith

-- `next` gives the first of the bytes left, of which a record is read
module _ (all : List ℕ) {size size' : ℕ} {left : List ℕ} (counts : List ℕ) (invariant : (size ≡ 24) × Sofar all left counts) (x rest : List ℕ)
    (sized : size' ≡ size) (cut : left ≡ x ++ rest) (long' : length x ≡ size) (thread : Thread) (read : length x ≡ 24 → thread ≡ record_at x 0)
    (k : ℕ) (state : k ≡ status_number thread.status) where
  long24 : length x ≡ 24
  long24 = omega arith

  parted : (status : Status) → records_in status (records_of left) ≡ is_in status thread + records_in status (records_of rest)
  unfolding records_in
  parted status = rw (cut, next x rest long24, ← read long24) refl

  -- it is counted
  pub kept : (size' ≡ 24) × Sofar all rest (set counts k (get_or counts k 0 + 1))
  kept = (
    omega arith,
    record {
      six = length-set counts k (get_or counts k 0 + 1) ∙ invariant.1.six;
      each = λ status. rw state (omega (arith, bumped counts (status_number thread.status) (status_number status) (rw (← state, invariant.1.six) below), invariant.1.each status, parted status));
    },
  )
    where
      below : k < 6
      below = rw state (small thread.status)

  -- there is room for the count
  pub few : get_or counts k 0 + 1 ≤ length all
  few = rw state (omega (arith, invariant.1.each thread.status, parted thread.status, itself thread.status, total (records_of all), long all (length all / 24), few-of thread.status (records_of all)))
    where
      itself : (status : Status) → one_if (status is status) ≡ 1
      itself Free = refl
      itself Running = refl
      itself Ready = refl
      itself Suspended = refl
      itself Waiting = refl
      itself Lent = refl
