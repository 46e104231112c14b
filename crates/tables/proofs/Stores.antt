-- What the functions leave in the cells, said of the tables' parts. Assumes nothing.
use Rattle.std.proofs.Common.{◌≡◌, ℕ, ◌+◌, ◌-◌, ◌*◌, ◌/◌, ◌%◌, ◌<◌, ◌≤◌, Bool, true, false, cond, not, eqb, ◌⊎◌, List, [], ◌∷◌, length, get_or, take, drop, set, sym, refl, ap, ◌∙◌, inl, inr, ⊎_elim, add-zero, zero-add, arith, length-drop, length-set, length-take, get_or-drop, get_or-set_other, get_or-take, get_or-set_same, eq-eqb, ne_eqb}
use lib.Seq.{sets, length-sets}
use Rattle.queue.specs.declared.Queue.{Queue}
use Rattle.stacklets.specs.declared.Stacklets.{Stacklets}
use Rattle.stacklets.specs.Tops.{tops_of, stacklets_of}
use Rattle.thread.specs.declared.Thread.{Thread}
use Rattle.thread.specs.Thread.{moved_to}
use Rattle.cells.specs.Record.{record_at, cells_of}
use Rattle.cells.proofs.Laws.{record_same, cells-back, moved_at}
use Rattle.rules.specs.State.{thread_at, Outcome, going, finished, faulted, is_over}
use Rattle.rules.specs.Update.{set_core, set_thread, set_tops, set_outcome}
use Rattle.tables.specs.Cells.{from, two_at, four_at, Outside, pasted}
use Rattle.tables.specs.Change.{set_units, set_count, set_top}
use Rattle.tables.specs.Meaning.{outcome_in, units_in, queue_in, stacklets_in, meaning}
use Rattle.tables.proofs.Runs.{pasted-in, pasted-out, sets-in, sets-out, filled, part-is}
use Rattle.tables.proofs.Meaning.{units-put, count-put, core-put, thread-put, thread-is, stacklets-put, outcome-put}

-- the test of the outcome's first cell
pub over-is : (xs : List ℕ) → not (eqb (get_or xs 777 0) 0) ≡ is_over (outcome_in xs)
unfolding outcome_in
over-is xs = go (eqb (get_or xs 777 0) 0) (eqb (get_or xs 777 0) 1) (finished (four_at xs 782)) (faulted (get_or xs 778 0) (get_or xs 779 0) (two_at xs 780)) refl refl
  where
    go : (a b : Bool) (x y : Outcome) → is_over x ≡ true → is_over y ≡ true → not a ≡ is_over (cond a going (cond b x y))
    go true b x y p q = refl
    go false true x y p q = sym p
    go false false x y p q = sym q

-- a record that is read from its part
pub part-record : (xs : List ℕ) (a k : ℕ) → k ≡ 24 → record_at (take k (drop a xs)) 0 ≡ record_at xs a
part-record xs a k e =
    record_same xs (take k (drop a xs)) a 0
    (λ i h. ap (λ (j : ℕ). get_or (take k (drop a xs)) j 0) (zero-add i) ∙ get_or-take k (drop a xs) i 0 (omega arith) ∙ get_or-drop a xs i 0)

-- a record that is stored in its part
module _ (xs part ys : List ℕ) (a k : ℕ) (h : Thread) (wide : k ≡ 24) (fits : a + k ≤ length xs) (long : length part ≡ k) (e : ys ≡ sets part 0 (cells_of h)) where
  length-ys : length ys ≡ k
  length-ys = ap length e ∙ length-sets part 0 (cells_of h) ∙ long

  pub record-out : Outside xs (pasted xs a k ys) a 24
  record-out i o = pasted-out xs ys a k fits length-ys i (⊎_elim (λ p. inl p) (λ p. inr (omega arith)) o)

  written : (i : ℕ) → i < 24 → get_or ys (0 + i) 0 ≡ get_or (cells_of h) (0 + i) 0
  written i l = ap (λ (z : List ℕ). get_or z (0 + i) 0) e ∙ sets-in part (cells_of h) 0 i (omega arith) l ∙ ap (λ (j : ℕ). get_or (cells_of h) j 0) (sym (zero-add i))

  pub record-in : record_at (pasted xs a k ys) a ≡ h
  record-in =
      record_same ys (pasted xs a k ys) 0 a (λ i l. pasted-in xs ys a k fits length-ys i (omega arith) ∙ ap (λ (j : ℕ). get_or ys j 0) (sym (zero-add i)))
      ∙ record_same (cells_of h) ys 0 0 written
      ∙ cells-back h

-- a position
module _ (xs : List ℕ) (a p : ℕ) (fits : a + 24 ≤ length xs) where
  pub position-out : Outside xs (set (set xs a (p % 256)) (a + 1) (p / 256)) a 24
  position-out i o =
      get_or-set_other (set xs a (p % 256)) (a + 1) i (p / 256) 0 (λ z. ⊎_elim (λ l. omega arith) (λ l. omega arith) o)
      ∙ get_or-set_other xs a i (p % 256) 0 (λ z. ⊎_elim (λ l. omega arith) (λ l. omega arith) o)

  pub position_in : record_at (set (set xs a (p % 256)) (a + 1) (p / 256)) a ≡ moved_to p (record_at xs a)
  position_in =
      moved_at xs (set (set xs a (p % 256)) (a + 1) (p / 256)) a p
      (λ k l. get_or-set_other (set xs a (p % 256)) (a + 1) (a + (k + 2)) _ 0 (λ z. omega arith) ∙ get_or-set_other xs a (a + (k + 2)) _ 0 (λ z. omega arith))
      (ap (λ (j : ℕ). get_or (set (set xs a (p % 256)) (a + 1) (p / 256)) j 0) (add-zero a) ∙ get_or-set_other (set xs a (p % 256)) (a + 1) a _ 0 (λ z. omega arith) ∙ get_or-set_same xs a _ 0 (omega arith))
      (get_or-set_same (set xs a (p % 256)) (a + 1) _ 0 (omega (arith, length-set xs a (p % 256))))

-- a number of four bytes
module _ (xs : List ℕ) (a v w x y : ℕ) (fits : a + 4 ≤ length xs) where
  abbrev pub four : List ℕ
  four = set (set (set (set xs a v) (a + 1) w) (a + 2) x) (a + 2 + 1) y

  pub four-out : Outside xs four a 4
  four-out i o =
      get_or-set_other (set (set (set xs a v) (a + 1) w) (a + 2) x) (a + 2 + 1) i y 0 (λ z. ⊎_elim (λ l. omega arith) (λ l. omega arith) o)
      ∙ get_or-set_other (set (set xs a v) (a + 1) w) (a + 2) i x 0 (λ z. ⊎_elim (λ l. omega arith) (λ l. omega arith) o)
      ∙ get_or-set_other (set xs a v) (a + 1) i w 0 (λ z. ⊎_elim (λ l. omega arith) (λ l. omega arith) o)
      ∙ get_or-set_other xs a i v 0 (λ z. ⊎_elim (λ l. omega arith) (λ l. omega arith) o)

  pub four-in : four_at four a ≡ v + 256 * w + 65536 * (x + 256 * y)
  four-in = rw (e0, e1, e2, e3)
    where
      e3 : get_or four (a + 2 + 1) 0 ≡ y
      e3 = get_or-set_same (set (set (set xs a v) (a + 1) w) (a + 2) x) (a + 2 + 1) y 0 (simp length-set (omega arith))

      e2 : get_or four (a + 2) 0 ≡ x
      e2 = get_or-set_other (set (set (set xs a v) (a + 1) w) (a + 2) x) (a + 2 + 1) (a + 2) y 0 (λ z. omega arith) ∙ get_or-set_same (set (set xs a v) (a + 1) w) (a + 2) x 0 (simp length-set (omega arith))

      e1 : get_or four (a + 1) 0 ≡ w
      e1 =
          get_or-set_other (set (set (set xs a v) (a + 1) w) (a + 2) x) (a + 2 + 1) (a + 1) y 0 (λ z. omega arith)
          ∙ get_or-set_other (set (set xs a v) (a + 1) w) (a + 2) (a + 1) x 0 (λ z. omega arith)
          ∙ get_or-set_same (set xs a v) (a + 1) w 0 (simp length-set (omega arith))

      e0 : get_or four a 0 ≡ v
      e0 =
          get_or-set_other (set (set (set xs a v) (a + 1) w) (a + 2) x) (a + 2 + 1) a y 0 (λ z. omega arith)
          ∙ get_or-set_other (set (set xs a v) (a + 1) w) (a + 2) a x 0 (λ z. omega arith)
          ∙ get_or-set_other (set xs a v) (a + 1) a w 0 (λ z. omega arith)
          ∙ get_or-set_same xs a v 0 (omega arith)

pub four-back : (x : ℕ) → x % 65536 % 256 + 256 * (x % 65536 / 256) + 65536 * (x / 65536 % 256 + 256 * (x / 65536 / 256)) ≡ x
four-back x = omega arith

-- the units are stored
pub units-store : (xs words memory : List ℕ) (u : ℕ) → length xs ≡ 904
    → meaning (set (set (set (set xs 772 (u % 65536 % 256)) 773 (u % 65536 / 256)) 774 (u / 65536 % 256)) 775 (u / 65536 / 256)) words memory ≡ set_units u (meaning xs words memory)
unfolding units_in
units-store xs words memory u l =
    units-put xs _ words memory u (four-out xs 772 _ _ _ _ (omega arith)) (four-in xs 772 (u % 65536 % 256) (u % 65536 / 256) (u / 65536 % 256) (u / 65536 / 256) (omega arith) ∙ four-back u)

-- the number of cores is stored
pub count-store : (xs words memory : List ℕ) (n : ℕ) → length xs ≡ 904 → meaning (set xs 776 n) words memory ≡ set_count n (meaning xs words memory)
count-store xs words memory n l =
    count-put xs (set xs 776 n) words memory n (λ i o. get_or-set_other xs 776 i n 0 (λ z. ⊎_elim (λ p. omega arith) (λ p. omega arith) o)) (get_or-set_same xs 776 n 0 (omega arith))

-- a core is given a thread
pub core-store : (xs words memory : List ℕ) (c t : ℕ) → length xs ≡ 904 → c < 4 → meaning (set xs (768 + c) t) words memory ≡ set_core c t (meaning xs words memory)
core-store xs words memory c t l h =
    core-put xs (set xs (768 + c) t) words memory c t h (λ i o. get_or-set_other xs (768 + c) i t 0 (λ z. ⊎_elim (λ p. omega arith) (λ p. omega arith) o)) (get_or-set_same xs (768 + c) t 0 (omega arith))

-- a record is read and stored by its part
pub part-long : (xs : List ℕ) (a : ℕ) → a + 24 ≤ length xs → length (take (a + 24 - a) (drop a xs)) ≡ 24
part-long xs a fits = simp (length-take, length-drop) (omega arith)

module _ (xs words memory : List ℕ) (a t : ℕ) (e : a ≡ 24 * t) (l : t < 32) where
  pub record_is : record_at xs a ≡ thread_at (meaning xs words memory) t
  record_is = ap (record_at xs) e ∙ thread-is xs words memory t l

  pub record-read : record_at (take (a + 24 - a) (drop a xs)) 0 ≡ thread_at (meaning xs words memory) t
  record-read = part-record xs a (a + 24 - a) (omega arith) ∙ record_is

  pub record-store : (ys : List ℕ) (h : Thread) → length xs ≡ 904 → ys ≡ sets (take (a + 24 - a) (drop a xs)) 0 (cells_of h)
      → meaning (pasted xs a (a + 24 - a) ys) words memory ≡ set_thread t h (meaning xs words memory)
  record-store ys h n f =
      let long : length (take (a + 24 - a) (drop a xs)) ≡ a + 24 - a = omega (arith, part-long xs a (omega arith)) in
      thread-put xs (pasted xs a (a + 24 - a) ys) words memory t h l
      (rw (← e) (record-out xs (take (a + 24 - a) (drop a xs)) ys a (a + 24 - a) h (omega arith) (omega arith) long f))
      (rw (← e) (record-in xs (take (a + 24 - a) (drop a xs)) ys a (a + 24 - a) h (omega arith) (omega arith) long f))

  pub position-store : (p : ℕ) → length xs ≡ 904
      → meaning (set (set xs a (p % 256)) (a + 1) (p / 256)) words memory ≡ set_thread t (moved_to p (thread_at (meaning xs words memory) t)) (meaning xs words memory)
  position-store p n =
      thread-put xs (set (set xs a (p % 256)) (a + 1) (p / 256)) words memory t (moved_to p (thread_at (meaning xs words memory) t)) l
      (rw (← e) (position-out xs a p (omega arith))) (rw (← e) (position_in xs a p (omega arith) ∙ ap (moved_to p) record_is))

-- a queue is stored
module _ (xs : List ℕ) (a : ℕ) (q : Queue) (fits : a + 34 ≤ length xs) (long : length q.places ≡ 32) where
  places-out : Outside xs (sets xs a q.places) a 34
  places-out i o = sets-out xs q.places a (omega arith) i (⊎_elim (λ p. inl p) (λ p. inr (omega arith)) o)

  long-sets : length (sets xs a q.places) ≡ length xs
  long-sets = length-sets xs a q.places

  pub queue-out : Outside xs (set (set (sets xs a q.places) (a + 32) q.head) (a + 33) q.len) a 34
  queue-out i o =
      get_or-set_other (set (sets xs a q.places) (a + 32) q.head) (a + 33) i q.len 0 (λ z. ⊎_elim (λ p. omega arith) (λ p. omega arith) o)
      ∙ get_or-set_other (sets xs a q.places) (a + 32) i q.head 0 (λ z. ⊎_elim (λ p. omega arith) (λ p. omega arith) o)
      ∙ places-out i o

  pub queue-in : queue_in (set (set (sets xs a q.places) (a + 32) q.head) (a + 33) q.len) a ≡ q
  unfolding queue_in
  queue-in = rw (sym places, head, len)
    where
      len : get_or (set (set (sets xs a q.places) (a + 32) q.head) (a + 33) q.len) (a + 33) 0 ≡ q.len
      len = get_or-set_same (set (sets xs a q.places) (a + 32) q.head) (a + 33) q.len 0 (simp length-set (omega (arith, long-sets)))

      head : get_or (set (set (sets xs a q.places) (a + 32) q.head) (a + 33) q.len) (a + 32) 0 ≡ q.head
      head =
          get_or-set_other (set (sets xs a q.places) (a + 32) q.head) (a + 33) (a + 32) q.len 0 (λ z. omega arith)
          ∙ get_or-set_same (sets xs a q.places) (a + 32) q.head 0 (omega (arith, long-sets))

      places : q.places ≡ from 0 32 (λ i. get_or (set (set (sets xs a q.places) (a + 32) q.head) (a + 33) q.len) (a + i) 0)
      places =
          filled (set (set (sets xs a q.places) (a + 32) q.head) (a + 33) q.len) q.places a 32 long
          (λ k h. sym (get_or-set_other (set (sets xs a q.places) (a + 32) q.head) (a + 33) (a + k) q.len 0 (λ z. omega arith)
          ∙ get_or-set_other (sets xs a q.places) (a + 32) (a + k) q.head 0 (λ z. omega arith)
          ∙ sets-in xs q.places a k (omega arith) (omega arith)))

-- the tops are read and stored by their part
module _ (xs words memory : List ℕ) (l : length xs ≡ 904) where
  pub tops_are : tops_of (stacklets_of (take 16 (drop 786 xs))) ≡ (meaning xs words memory).store.tops
  unfolding meaning stacklets_in
  tops_are = ap (λ (tops : List ℕ). tops_of (stacklets_of tops)) (part-is xs 786 16 16 refl (omega arith))

  pub top-store : (ys : List ℕ) (x top : ℕ) → length ys ≡ 16 → tops_of (stacklets_of ys) ≡ set (tops_of (stacklets_of (take 16 (drop 786 xs)))) x top
      → meaning (pasted xs 786 16 ys) words memory ≡ set_top x top (meaning xs words memory)
  unfolding stacklets_in
  top-store ys x top long e =
      stacklets-put xs (pasted xs 786 16 ys) words memory (stacklets_of ys) (pasted-out xs ys 786 16 (omega arith) long)
      (ap stacklets_of (sym (filled (pasted xs 786 16 ys) ys 786 16 long (λ k h. sym (pasted-in xs ys 786 16 (omega arith) long k h)))))
      ∙ ap (λ (tops : List ℕ). set_tops tops (meaning xs words memory)) (e ∙ ap (λ (tops : List ℕ). set tops x top) tops_are)

-- all tops are stored
pub tops-store : (xs words memory ys : List ℕ) (s : Stacklets) → length xs ≡ 904 → length s.tops ≡ 16 → ys ≡ s.tops
    → meaning (pasted xs 786 16 ys) words memory ≡ set_tops (tops_of s) (meaning xs words memory)
unfolding stacklets_in
tops-store xs words memory ys s l long e =
    stacklets-put xs (pasted xs 786 16 ys) words memory s (pasted-out xs ys 786 16 (omega arith) (ap length e ∙ long))
    (ap stacklets_of (sym (filled (pasted xs 786 16 ys) s.tops 786 16 long (λ k h. sym (pasted-in xs ys 786 16 (omega arith) (ap length e ∙ long) k h ∙ ap (λ (l : List ℕ). get_or l k 0) e)))))

-- the machine is finished
pub finished-store : (xs words memory : List ℕ) (v : ℕ) → length xs ≡ 904
    → meaning (set (set (set (set (set xs 777 1) 782 (v % 65536 % 256)) 783 (v % 65536 / 256)) 784 (v / 65536 % 256)) 785 (v / 65536 / 256)) words memory
    ≡ set_outcome (finished v) (meaning xs words memory)
unfolding outcome_in
finished-store xs words memory v l =
    outcome-put xs ys words memory (finished v) out (rw (over, whole))
  where
    ys : List ℕ
    ys = set (set (set (set (set xs 777 1) 782 (v % 65536 % 256)) 783 (v % 65536 / 256)) 784 (v / 65536 % 256)) 785 (v / 65536 / 256)

    fits : 782 + 4 ≤ length (set xs 777 1)
    fits = simp length-set (omega arith)

    apart : (i : ℕ) → (i < 782) ⊎ (782 + 4 ≤ i) → get_or ys i 0 ≡ get_or (set xs 777 1) i 0
    apart = four-out (set xs 777 1) 782 (v % 65536 % 256) (v % 65536 / 256) (v / 65536 % 256) (v / 65536 / 256) fits

    out : Outside xs ys 777 9
    out i o = apart i (⊎_elim (λ p. inl (omega arith)) (λ p. inr (omega arith)) o) ∙ get_or-set_other xs 777 i 1 0 (λ z. ⊎_elim (λ p. omega arith) (λ p. omega arith) o)

    over : get_or ys 777 0 ≡ 1
    over = apart 777 (inl (omega arith)) ∙ get_or-set_same xs 777 1 0 (omega arith)

    whole : four_at ys 782 ≡ v
    whole = four-in (set xs 777 1) 782 (v % 65536 % 256) (v % 65536 / 256) (v / 65536 % 256) (v / 65536 / 256) fits ∙ four-back v

-- the machine has faulted
pub faulted-store : (xs words memory : List ℕ) (n t o : ℕ) → length xs ≡ 904
    → meaning (set (set (set (set (set xs 777 2) 778 n) 779 t) 780 (o % 256)) 781 (o / 256)) words memory ≡ set_outcome (faulted n t o) (meaning xs words memory)
unfolding outcome_in
faulted-store xs words memory n t o l =
    outcome-put xs ys words memory (faulted n t o) (λ i a. sets-out xs vs 777 (omega arith) i (⊎_elim (λ p. inl p) (λ p. inr (omega arith)) a)) (rw (cell 0 (omega arith), cell 1 (omega arith), cell 2 (omega arith), cell 3 (omega arith), cell 4 (omega arith), back))
  where
    vs : List ℕ
    vs = 2 ∷ n ∷ t ∷ (o % 256) ∷ (o / 256) ∷ []

    ys : List ℕ
    ys = sets xs 777 vs

    cell : (i : ℕ) → i < 5 → get_or ys (777 + i) 0 ≡ get_or vs i 0
    cell i h = sets-in xs vs 777 i (omega arith) h

    back : o % 256 + 256 * (o / 256) ≡ o
    back = omega arith

-- how the machine stands
pub standing-is : (xs : List ℕ) → (get_or xs 777 0 ≡ 0 → outcome_in xs ≡ going) × ((get_or xs 777 0 ≡ 0 → ⊥) → get_or xs 777 0 ≡ 1 → outcome_in xs ≡ finished (four_at xs 782))
    × ((get_or xs 777 0 ≡ 0 → ⊥) → (get_or xs 777 0 ≡ 1 → ⊥) → outcome_in xs ≡ faulted (get_or xs 778 0) (get_or xs 779 0) (two_at xs 780))
unfolding outcome_in
standing-is xs = (λ e. rw (eq-eqb _ _ e), λ n e. rw (ne_eqb _ _ n, eq-eqb _ _ e), λ n m. rw (ne_eqb _ _ n, ne_eqb _ _ m))
