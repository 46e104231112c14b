-- `Tree`, "child counts agree with the fork tree", after a change that starts and ends no thread (`tree-same`), where a child is born
-- (`tree-born`), where a childless child ends (`tree-gone`), and where the childless root ends (`tree-end`). Assumes nothing.
use mathlib.Core.Bool.{Bool, true, false, cond}
use mathlib.Core.Logic.{◌⊎◌, inl, inr, ⊎_elim}
use mathlib.Core.Path.{◌≡◌, refl, sym, ◌∙◌, ap}
use Prim.Native.Nat.{ℕ, zero, suc, ◌+◌, ◌<◌, ◌≤◌}
use native.Mathlib.Decide.{ℕ_discrete, dec_lt}
use native.Mathlib.Omega.{arith}
use lib.Dec.{eqb}
use lib.ListN.{length}
use borrow.Author.Tests.{eqb-true, eqb-false, eq-eqb, ne_eqb}
use Rattle.thread.specs.declared.Thread.{Thread}
use Rattle.thread.specs.Thread.{none}
use Rattle.rules.specs.State.{State, finished, thread_at}
use Rattle.rules.specs.Sound.{status_at, Used, is_child, children_among, Tree, parent_at}
use Rattle.soundness.proofs.Changes.{standing, children_at, used_low}

-- the machine has not finished
abbrev pub Unfinished : State → Type 0
Unfinished s = (v : ℕ) → s.outcome ≡ finished v → ⊥

-- COUNTS. What one thread adds to a count of children
pub child-some : (s : State) (t u : ℕ) → 0 < is_child s t u → Used s u × (parent_at s u ≡ t)
child-some s t u = go (eqb (status_at s u) 0) (eqb (parent_at s u) t) refl refl
  where
    go : (a b : Bool) → eqb (status_at s u) 0 ≡ a → eqb (parent_at s u) t ≡ b → 0 < cond a 0 (cond b 1 0) → Used s u × (parent_at s u ≡ t)
    go true b e f l = absurd (omega arith)
    go false true e f l = ((let z = eqb-false (status_at s u) 0 e in omega arith), eqb-true _ _ f)
    go false false e f l = absurd (omega arith)

pub child-yes : (s : State) (t u : ℕ) → Used s u → parent_at s u ≡ t → is_child s t u ≡ 1
child-yes s t u h e = rw (ne_eqb (status_at s u) 0 (λ z. omega arith), eq-eqb _ _ e)

pub child-other : (s : State) (t u : ℕ) → ¬ (parent_at s u ≡ t) → is_child s t u ≡ 0
child-other s t u n = go (eqb (status_at s u) 0)
  where
    go : (a : Bool) → ◌≡◌ {A = ℕ} (cond a 0 (cond (eqb (parent_at s u) t) 1 0)) 0
    go true = refl
    go false = rw (ne_eqb _ _ n)

pub child-free : (s : State) (t u : ℕ) → status_at s u ≡ 0 → is_child s t u ≡ 0
child-free s t u e = rw (eq-eqb _ _ e)

-- a count of children where each thread, or each but one, adds the same
pub among_same : (s s' : State) (t n : ℕ) → ((u : ℕ) → is_child s' t u ≡ is_child s t u) → children_among s' t n ≡ children_among s t n
unfolding children_among
among_same s s' t zero h = refl
among_same s s' t (suc n) h = let z = among_same s s' t n h in let y = h n in omega arith

among-out : (s s' : State) (t a n : ℕ) → n ≤ a → ((u : ℕ) → ¬ (u ≡ a) → is_child s' t u ≡ is_child s t u) → children_among s' t n ≡ children_among s t n
unfolding children_among
among-out s s' t a zero l h = refl
among-out s s' t a (suc n) l h = let z = among-out s s' t a n (omega arith) h in let y = h n (λ e. omega arith) in omega arith

among_one : (s s' : State) (t a n : ℕ) → a < n → ((u : ℕ) → ¬ (u ≡ a) → is_child s' t u ≡ is_child s t u)
    → children_among s' t n + is_child s t a ≡ children_among s t n + is_child s' t a
unfolding children_among
among_one s s' t a zero l h = absurd (omega arith)
among_one s s' t a (suc n) l h = go (ℕ_discrete n a) (λ m. among_one s s' t a n m h)
  where
    go : Dec (n ≡ a) → (a < n → children_among s' t n + is_child s t a ≡ children_among s t n + is_child s' t a)
        → (is_child s' t n + children_among s' t n) + is_child s t a ≡ (is_child s t n + children_among s t n) + is_child s' t a
    go (yes e) rec =
        let z = among-out s s' t a n (omega arith) h in
        let x : is_child s' t n ≡ is_child s' t a = ap (is_child s' t) e in
        let y : is_child s t n ≡ is_child s t a = ap (is_child s t) e in
        omega arith
    go (no m) rec = let q = rec (omega arith) in let k = h n m in omega arith

pub among-some : (s : State) (t n : ℕ) → 0 < children_among s t n → (u : ℕ) × (u < n) × (0 < is_child s t u)
unfolding children_among
among-some s t zero l = absurd (omega arith)
among-some s t (suc n) l = go (dec_lt 0 (is_child s t n)) (λ m. among-some s t n m)
  where
    go : Dec (0 < is_child s t n) → (0 < children_among s t n → (u : ℕ) × (u < n) × (0 < is_child s t u)) → (u : ℕ) × (u < suc n) × (0 < is_child s t u)
    go (yes e) rec = (n, omega arith, e)
    go (no m) rec = let q = rec (omega arith) in (q.0, (let k = q.1 in omega arith), q.2)

pub among_none : (s : State) (t n : ℕ) → ((u : ℕ) → is_child s t u ≡ 0) → children_among s t n ≡ 0
unfolding children_among
among_none s t zero h = refl
among_none s t (suc n) h = let a = h n in let b = among_none s t n h in omega arith

pub among-at : (s : State) (t a n : ℕ) → a < n → is_child s t a ≤ children_among s t n
unfolding children_among
among-at s t a zero l = absurd (omega arith)
among-at s t a (suc n) l = go (ℕ_discrete a n) (λ m. among-at s t a n m)
  where
    go : Dec (a ≡ n) → (a < n → is_child s t a ≤ children_among s t n) → is_child s t a ≤ is_child s t n + children_among s t n
    go (yes e) rec = let x : is_child s t a ≡ is_child s t n = ap (is_child s t) e in omega arith
    go (no m) rec = let k = rec (omega arith) in omega arith

-- CHILDREN. No thread in use is a child of t
abbrev pub Childless : State → ℕ → Type 0
Childless s t = (u : ℕ) → Used s u → ¬ (parent_at s u ≡ t)

-- a thread in use that counts no children has none
pub none-counted : (s : State) → length s.threads ≡ 32 → Tree s → (t : ℕ) → Used s t → children_at s t ≡ 0 → Childless s t
none-counted s many ok t h e u k f =
    let a = child-yes s t u k f in
    let b = among-at s t u 32 (used_low s many u k) in
    let c = ok.counted t h in
    omega arith

-- a parent counts a child
pub parent-counts : (s : State) → length s.threads ≡ 32 → Tree s → (t : ℕ) → Used s t → Used s (parent_at s t) → 0 < children_at s (parent_at s t)
parent-counts s many ok t h k =
    let a = child-yes s (parent_at s t) t h refl in
    let b = among-at s (parent_at s t) t 32 (used_low s many t h) in
    let c = ok.counted (parent_at s t) k in
    omega arith

-- RECORDS THAT STAY. A record in the place of another, as far as the tree goes; child counts are looked at apart
pub record Stays (h h' : Thread) : Type 0 where
  pub parent : h'.origin.parent ≡ h.origin.parent
  pub result : h'.origin.result ≡ h.origin.result
  pub to : 0 < standing h → 0 < standing h'
  pub from : 0 < standing h' → 0 < standing h
  pub waits : standing h' ≡ 4 → 0 < h'.family.children

pub stays-refl : (s : State) → Tree s → (u : ℕ) → Stays (thread_at s u) (thread_at s u)
stays-refl s ok u = record { parent = refl; result = refl; to = λ h. h; from = λ h. h; waits = ok.waits u }

-- a free thread stays free
pub stays-free : (h h' : Thread) → Stays h h' → standing h ≡ 0 → standing h' ≡ 0
stays-free h h' k e = go (dec_lt 0 (standing h'))
  where
    go : Dec (0 < standing h') → standing h' ≡ 0
    go (yes l) = absurd (let z = k.from l in omega arith)
    go (no n) = omega arith

child-same : (s s' : State) (t u : ℕ) → Stays (thread_at s u) (thread_at s' u) → is_child s' t u ≡ is_child s t u
child-same s s' t u k = go (dec_lt 0 (status_at s u))
  where
    go : Dec (0 < status_at s u) → is_child s' t u ≡ is_child s t u
    go (yes h) = rw (ne_eqb (status_at s u) 0 (λ z. omega arith), ne_eqb (status_at s' u) 0 (let m = k.to h in λ z. omega arith), k.parent)
    go (no n) = let e : status_at s u ≡ 0 = omega arith in child-free s' t u (stays-free (thread_at s u) (thread_at s' u) k e)
        ∙ sym (child-free s t u e)

-- no thread starts or ends, and all counts stay
pub tree-same : (s s' : State) → Tree s → (Unfinished s' → Unfinished s)
    → ((v : ℕ) → s'.outcome ≡ finished v → (w : ℕ) × (s.outcome ≡ finished w))
    → ((u : ℕ) → Stays (thread_at s u) (thread_at s' u)) → ((u : ℕ) → children_at s' u ≡ children_at s u) → Tree s'
tree-same s s' ok over over' view same = record {
  waits = λ t. (view t).waits;
  counted = λ t h. same t ∙ ok.counted t ((view t).from h) ∙ sym (among_same s s' t 32 (λ u. child-same s s' t u (view u)));
  rank = ok.rank;
  deep = ok.deep;
  low = ok.low;
  tree = λ t h. rw (view t).parent (⊎_elim (λ z. inl z) (λ z. inr (z.0, (view (parent_at s t)).to z.1, z.2)) (ok.tree t ((view t).from h)));
  root = λ o. (view 0).to (ok.root (over o));
  over = λ v e t. let z = over' v e in stays-free (thread_at s t) (thread_at s' t) (view t) (ok.over z.0 z.1 t);
}

-- BIRTH of n, a child of t
module _ (s s' : State) (ok : Tree s) (t n : ℕ) (used-t : Used s t) (free : status_at s n ≡ 0) (low : n < 32) (over : Unfinished s)
    (over' : Unfinished s')
    (view : (u : ℕ) → ¬ (u ≡ n) → Stays (thread_at s u) (thread_at s' u))
    (more : children_at s' t ≡ children_at s t + 1) (same : (u : ℕ) → ¬ (u ≡ t) → ¬ (u ≡ n) → children_at s' u ≡ children_at s u)
    (used-n : Used s' n) (parent-n : parent_at s' n ≡ t) (none-n : children_at s' n ≡ 0) (awake-n : ¬ (status_at s' n ≡ 4)) where
  differs : (u : ℕ) → Used s u → ¬ (u ≡ n)
  differs u h e = let z = ap (status_at s) e in omega arith

  -- a count changes by what n adds
  sums : (v : ℕ) → children_among s' v 32 + is_child s v n ≡ children_among s v 32 + is_child s' v n
  sums v = among_one s s' v n 32 low (λ u m. child-same s s' v u (view u m))

  none_yet : children_among s n 32 ≡ 0
  none_yet = among_none s n 32 (λ u. go u (dec_lt 0 (is_child s n u)))
    where
      go : (u : ℕ) → Dec (0 < is_child s n u) → is_child s n u ≡ 0
      go u (yes l) = let m = child-some s n u l in
          absurd (⊎_elim (λ z. let a = z.1 in let b = m.1 in omega arith) (λ z. let y = z.1 in let x = ap (status_at s) m.1 in omega arith)
          (ok.tree u m.0))
      go u (no l) = omega arith

  rank_of : (u : ℕ) → Dec (u ≡ n) → ℕ
  rank_of u (yes _) = suc (ok.rank t)
  rank_of u (no _) = ok.rank u

  rank-old : (u : ℕ) → ¬ (u ≡ n) → (o : Dec (u ≡ n)) → rank_of u o ≡ ok.rank u
  unfolding rank_of
  rank-old u m (yes e) = absurd (m e)
  rank-old u m (no _) = refl

  rank-new : (u : ℕ) → u ≡ n → (o : Dec (u ≡ n)) → rank_of u o ≡ suc (ok.rank t)
  unfolding rank_of
  rank-new u e (yes _) = refl
  rank-new u e (no m) = absurd (m e)

  pub tree-born : Tree s'
  unfolding rank_of
  tree-born = record {
    waits = λ u e. waits u e (ℕ_discrete u n);
    counted = λ u h. counted u h (ℕ_discrete u n) (ℕ_discrete u t);
    rank = λ u. rank_of u (ℕ_discrete u n);
    deep = suc ok.deep;
    low = λ u. lower u (ℕ_discrete u n);
    tree = λ u h. tree u h (ℕ_discrete u n);
    root = λ o. let r = ok.root over in (view 0 (differs 0 r)).to r;
    over = λ v e. absurd (over' v e);
  }
    where
      waits : (u : ℕ) → status_at s' u ≡ 4 → Dec (u ≡ n) → 0 < children_at s' u
      waits u e (yes q) = absurd (awake-n (sym (ap (status_at s') q) ∙ e))
      waits u e (no m) = (view u m).waits e

      counted : (u : ℕ) → Used s' u → Dec (u ≡ n) → Dec (u ≡ t) → children_at s' u ≡ children_among s' u 32
      counted u h (yes e) _ =
          let a = sums n in let b = child-free s n n free in let d = none_yet in
          let f = child-other s' n n (λ q. differs t used-t (sym parent-n ∙ q)) in
          rw (e, none-n) (omega arith)
      counted u h (no m) (yes e) =
          let a = sums t in let b = child-free s t n free in let d = ok.counted t used-t in
          let f = child-yes s' t n used-n parent-n in
          rw (e, more) (omega arith)
      counted u h (no m) (no k) =
          let a = sums u in let b = child-free s u n free in let d = ok.counted u ((view u m).from h) in
          let f = child-other s' u n (λ q. k (sym q ∙ parent-n)) in
          rw (same u k m) (omega arith)

      lower : (u : ℕ) (o : Dec (u ≡ n)) → rank_of u o < suc ok.deep
      lower u (yes _) = let a = ok.low t in omega arith
      lower u (no _) = let a = ok.low u in omega arith

      tree : (u : ℕ) → Used s' u → Dec (u ≡ n)
          → ((u ≡ 0) × (parent_at s' u ≡ none))
          ⊎ ((¬ (u ≡ 0)) × Used s' (parent_at s' u) × (rank_of (parent_at s' u) (ℕ_discrete (parent_at s' u) n) < rank_of u (ℕ_discrete u n)))
      tree u h (yes e) =
          let p : parent_at s' u ≡ t = ap (parent_at s') e ∙ parent-n in
          rw p (inr (
            (λ q. differs 0 (ok.root over) (sym q ∙ e)),
            (view t (differs t used-t)).to used-t,
            rw (rank-old t (differs t used-t) (ℕ_discrete t n), rank-new u e (ℕ_discrete u n)) (omega arith),
          ))
      tree u h (no m) = let k = view u m in rw k.parent (⊎_elim (λ z. inl z)
          (λ z. inr (
            z.0,
            (view (parent_at s u) (differs _ z.1)).to z.1,
            rw (rank-old (parent_at s u) (differs _ z.1) (ℕ_discrete (parent_at s u) n), rank-old u m (ℕ_discrete u n)) z.2,
          ))
          (ok.tree u (k.from h)))

-- THE END of t, a childless child of p
module _ (s s' : State) (many : length s.threads ≡ 32) (ok : Tree s) (t p : ℕ) (used-t : Used s t) (used-p : Used s p)
    (parent-t : parent_at s t ≡ p) (childless : Childless s t)
    (over : Unfinished s) (over' : Unfinished s') (view : (u : ℕ) → ¬ (u ≡ t) → Stays (thread_at s u) (thread_at s' u))
    (less : children_at s' p + 1 ≡ children_at s p) (same : (u : ℕ) → ¬ (u ≡ t) → ¬ (u ≡ p) → children_at s' u ≡ children_at s u)
    (gone : status_at s' t ≡ 0) where
  lost : (v : ℕ) → children_among s' v 32 + is_child s v t ≡ children_among s v 32 + is_child s' v t
  lost v = among_one s s' v t 32 (used_low s many t used-t) (λ u m. child-same s s' v u (view u m))

  not_root : ¬ (t ≡ 0)
  not_root = ⊎_elim (λ z. absurd (let l = used_low s many p used-p in let q = z.1 in omega arith)) (λ z. z.0) (ok.tree t used-t)

  pub tree-gone : Tree s'
  tree-gone = record {
    waits = λ u e. (view u (other u (omega arith))).waits e;
    counted = λ u h. counted u h (other u h) (ℕ_discrete u p);
    rank = ok.rank;
    deep = ok.deep;
    low = ok.low;
    tree = λ u h. tree u h (other u h);
    root = λ o. (view 0 (λ e. not_root (sym e))).to (ok.root over);
    over = λ v e. absurd (over' v e);
  }
    where
      other : (u : ℕ) → Used s' u → ¬ (u ≡ t)
      other u h e = let z = ap (status_at s') e in omega arith

      counted : (u : ℕ) → Used s' u → ¬ (u ≡ t) → Dec (u ≡ p) → children_at s' u ≡ children_among s' u 32
      counted u h m (yes e) =
          let a = lost p in let b = child-free s' p t gone in let d = ok.counted p used-p in
          let f = child-yes s p t used-t parent-t in
          rw e (omega arith)
      counted u h m (no n) =
          let a = lost u in let b = child-free s' u t gone in let d = ok.counted u ((view u m).from h) in
          let f = child-other s u t (λ q. n (sym q ∙ parent-t)) in
          let g = same u m n in
          omega arith

      tree : (u : ℕ) → Used s' u → ¬ (u ≡ t)
          → ((u ≡ 0) × (parent_at s' u ≡ none)) ⊎ ((¬ (u ≡ 0)) × Used s' (parent_at s' u) × (ok.rank (parent_at s' u) < ok.rank u))
      tree u h m = let k = view u m in let g = k.from h in
          rw k.parent (⊎_elim (λ z. inl z) (λ z. inr (z.0, (view (parent_at s u) (childless u g)).to z.1, z.2)) (ok.tree u g))

-- THE ROOT ENDS, childless: no thread is left
module _ (s s' : State) (ok : Tree s) (w : ℕ) (over' : s'.outcome ≡ finished w) (childless : Childless s 0)
    (root : status_at s' 0 ≡ 0) (rest : (u : ℕ) → ¬ (u ≡ 0) → status_at s' u ≡ status_at s u) where
  -- who climbs from parent to parent comes to the root
  climb : (f u : ℕ) → ok.rank u < f → Used s u → ¬ (u ≡ 0) → ⊥
  climb zero u l h m = absurd (omega arith)
  climb (suc f) u l h m = ⊎_elim (λ z. m z.0) (λ z. climb f (parent_at s u) (let a = z.2 in omega arith) z.1 (childless u h)) (ok.tree u h)

  pub all-free : (u : ℕ) → status_at s' u ≡ 0
  all-free u = go (ℕ_discrete u 0) (ℕ_discrete (status_at s u) 0)
    where
      go : Dec (u ≡ 0) → Dec (status_at s u ≡ 0) → status_at s' u ≡ 0
      go (yes e) _ = rw e root
      go (no m) (yes e) = rest u m ∙ e
      go (no m) (no h) = absurd (climb (suc (ok.rank u)) u (omega arith) (omega arith) m)

  pub tree-end : Tree s'
  tree-end = record {
    waits = λ u e. absurd (let z = all-free u in omega arith);
    counted = λ u h. absurd (let z = all-free u in omega arith);
    rank = ok.rank;
    deep = ok.deep;
    low = ok.low;
    tree = λ u h. absurd (let z = all-free u in omega arith);
    root = λ o. absurd (o w over');
    over = λ v e. all-free;
  }
