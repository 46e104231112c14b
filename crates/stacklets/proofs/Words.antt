-- Laws of the stacklets' words: a store changes one word, a new frame only its own, and holds its arguments, then zeros; so a frame
-- that overlaps neither keeps its words. Assumes nothing.
use mathlib.Core.Bool.{Bool, true, false, cond}
use mathlib.Core.List.{List, ◌++◌}
use mathlib.Core.Logic.{◌⊎◌, inl, inr, ⊎_elim}
use mathlib.Core.Path.{◌≡◌, refl, sym, ◌∙◌, ap}
use Prim.Native.Nat.{ℕ, zero, suc, ◌+◌, ◌-◌, ◌≤◌, ◌<◌}
use native.Mathlib.Decide.{ℕ_discrete, dec_lt}
use native.Mathlib.Nat.{add-zero}
use native.Mathlib.Omega.{arith}
use lib.ListN.{get_or, set, take, drop, replicate, length, length-set, length-take, length-drop, length-append, length-replicate, get_or-replicate, get_or-eq_default, get_or-append}
use lib.Seq.{set_comm, get_or-set_same, get_or-set_other, get_or-take, get_or-drop, ext_get_or, get_or-append-add, drop-set-add, take-set-lt}
use Rattle.stacklets.specs.Tops.{fits_on, base_on}
use Rattle.stacklets.proofs.Places.{base-below}
use Rattle.stacklets.specs.Layout.{Apart, frame_at}
use Rattle.stacklets.specs.Frames.{slot_of, with_slot, arguments_at, framed, pushed_words}

-- a slot that was written has the value, and any other word is as it was
pub slot-written : (ws : List ℕ) (base k v : ℕ) → base + k < length ws → slot_of (with_slot ws base k v) base k ≡ v
slot-written ws base k v h = get_or-set_same ws (base + k) v 0 h

pub slot_kept : (ws : List ℕ) (base k v base' k' : ℕ) → ¬ (base' + k' ≡ base + k) → slot_of (with_slot ws base k v) base' k' ≡ slot_of ws base' k'
slot_kept ws base k v base' k' h = get_or-set_other ws (base + k) (base' + k') v 0 h

-- no store and no new frame changes how many words there are
pub length-slot : (ws : List ℕ) (base k v : ℕ) → length (with_slot ws base k v) ≡ length ws
length-slot ws base k v = length-set ws (base + k) v

pub length-framed : (ws : List ℕ) (base n : ℕ) (vs : List ℕ) → length (framed ws base n vs) ≡ length ws
unfolding framed
length-framed ws base zero vs = refl
length-framed ws base (suc n) vs = length-set (framed ws base n vs) (base + n) (get_or vs n 0) ∙ length-framed ws base n vs

pub length-pushed : (tops ws : List ℕ) (x n : ℕ) (vs : List ℕ) → length (pushed_words tops ws x n vs) ≡ length ws
unfolding pushed_words
length-pushed tops ws x n vs = go (fits_on tops x n)
  where
    go : (b : Bool) → length (cond b (framed ws (base_on tops x) n vs) ws) ≡ length ws
    go true = length-framed ws (base_on tops x) n vs
    go false = refl

-- a new frame leaves all words outside it
pub framed-out : (ws : List ℕ) (base n : ℕ) (vs : List ℕ) (i : ℕ) → (i < base) ⊎ (base + n ≤ i) → get_or (framed ws base n vs) i 0 ≡ get_or ws i 0
unfolding framed
framed-out ws base zero vs i h = refl
framed-out ws base (suc n) vs i h =
    get_or-set_other (framed ws base n vs) (base + n) i (get_or vs n 0) 0 (λ e. ⊎_elim (λ x. omega arith) (λ x. omega arith) h)
    ∙ framed-out ws base n vs i (⊎_elim (λ x. inl x) (λ x. inr (omega arith)) h)

-- and has the arguments in its first slots, then zeros
pub framed-in : (ws : List ℕ) (base n : ℕ) (vs : List ℕ) (k : ℕ) → base + n ≤ length ws → k < n → slot_of (framed ws base n vs) base k ≡ get_or vs k 0
unfolding framed
framed-in ws base zero vs k l h = absurd (omega arith)
framed-in ws base (suc n) vs k l h = go (ℕ_discrete k n) (λ x. framed-in ws base n vs k (omega arith) x)
  where
    go : Dec (k ≡ n) → (k < n → slot_of (framed ws base n vs) base k ≡ get_or vs k 0)
        → get_or (set (framed ws base n vs) (base + n) (get_or vs n 0)) (base + k) 0 ≡ get_or vs k 0
    go (yes e) rec = rw e (get_or-set_same (framed ws base n vs) (base + n) (get_or vs n 0) 0 (let z = length-framed ws base n vs in omega arith))
    go (no m) rec = get_or-set_other (framed ws base n vs) (base + n) (base + k) (get_or vs n 0) 0 (omega arith) ∙ rec (omega arith)

-- a frame may also be laid from its last word down
pub framed-first : (ws : List ℕ) (base n : ℕ) (vs : List ℕ) → set (framed ws (suc base) n (drop 1 vs)) base (get_or vs 0 0) ≡ framed ws base (suc n) vs
unfolding framed
framed-first ws base zero vs = rw add-zero
framed-first ws base (suc n) vs =
    let f : get_or (drop 1 vs) n 0 ≡ get_or vs (suc n) 0 = get_or-drop 1 vs n 0 ∙ ap (λ m. get_or vs m 0) (omega arith) in
    set_comm (framed ws (suc base) n (drop 1 vs)) (suc base + n) base (get_or (drop 1 vs) n 0) (get_or vs 0 0) (omega arith)
    ∙ ap (λ us. set us (suc base + n) (get_or (drop 1 vs) n 0)) (framed-first ws base n vs)
    ∙ ap (λ v. set (framed ws base (suc n) vs) (suc base + n) v) f
    ∙ ap (λ i. set (framed ws base (suc n) vs) i (get_or vs (suc n) 0)) (omega arith)

-- the arguments of a fork are the words from one on, and there is none past those given
pub arguments-in : (ws : List ℕ) (from given k : ℕ) → k < given → get_or (arguments_at ws from given) k 0 ≡ slot_of ws from k
unfolding arguments_at
arguments-in ws from given k h = get_or-take given (drop from ws) k 0 h ∙ get_or-drop from ws k 0

pub arguments-out : (ws : List ℕ) (from given k : ℕ) → given ≤ k → get_or (arguments_at ws from given) k 0 ≡ 0
unfolding arguments_at
arguments-out ws from given k h = get_or-eq_default (take given (drop from ws)) 0 {n = k} (simp length-take (omega arith))

-- an argument counts by its own word alone
pub arguments-same : (ws us : List ℕ) (from given k : ℕ) → get_or us (from + k) 0 ≡ get_or ws (from + k) 0
    → get_or (arguments_at us from given) k 0 ≡ get_or (arguments_at ws from given) k 0
arguments-same ws us from given k e = go (dec_lt k given)
  where
    go : Dec (k < given) → get_or (arguments_at us from given) k 0 ≡ get_or (arguments_at ws from given) k 0
    go (yes h) = arguments-in us from given k h ∙ e ∙ sym (arguments-in ws from given k h)
    go (no h) = arguments-out us from given k (omega arith) ∙ sym (arguments-out ws from given k (omega arith))

-- a frame as a list: its slots, and how many
pub frame-slot : (ws : List ℕ) (base n k : ℕ) → k < n → get_or (frame_at ws base n) k 0 ≡ slot_of ws base k
frame-slot ws base n k h = get_or-take n (drop base ws) k 0 h ∙ get_or-drop base ws k 0

pub length-frame : (ws : List ℕ) (base n : ℕ) → base + n ≤ length ws → length (frame_at ws base n) ≡ n
length-frame ws base n h = simp (length-take, length-drop) (omega arith)

-- two lists of words that agree on a frame's slots have the same frame
pub frame_same : (ws us : List ℕ) (base n : ℕ) → length us ≡ length ws → ((k : ℕ) → k < n → slot_of us base k ≡ slot_of ws base k)
    → frame_at us base n ≡ frame_at ws base n
frame_same ws us base n e f =
    ext_get_or 0 (frame_at us base n) (frame_at ws base n) (simp (length-take, length-drop, e)) (λ i h. at i (omega (arith, simp length-take at h)))
  where
    at : (i : ℕ) → i < n → get_or (frame_at us base n) i 0 ≡ get_or (frame_at ws base n) i 0
    at i h = frame-slot us base n i h ∙ f i h ∙ sym (frame-slot ws base n i h)

-- a slot that is written is written in its frame
pub slot-own : (ws : List ℕ) (base n k v : ℕ) → k < n → frame_at (with_slot ws base k v) base n ≡ set (frame_at ws base n) k v
slot-own ws base n k v h = ap (take n) (drop-set-add base ws k v) ∙ take-set-lt n (drop base ws) k v h

-- a frame apart from one whose slot is written keeps its words
pub slot_apart : (ws : List ℕ) (b n k v b' m : ℕ) → Apart b n b' m → k < n → (j : ℕ) → j < m → slot_of (with_slot ws b k v) b' j ≡ slot_of ws b' j
slot_apart ws b n k v b' m a h j l = slot_kept ws b k v b' j (λ e. ⊎_elim (λ x. omega arith) (λ x. omega arith) a)

pub slot-frame : (ws : List ℕ) (b n k v b' m : ℕ) → Apart b n b' m → k < n → frame_at (with_slot ws b k v) b' m ≡ frame_at ws b' m
slot-frame ws b n k v b' m a h = frame_same ws (with_slot ws b k v) b' m (length-slot ws b k v) (slot_apart ws b n k v b' m a h)

-- a frame apart from a new one keeps its words
pub framed-apart : (ws : List ℕ) (base n : ℕ) (vs : List ℕ) (b m : ℕ) → Apart b m base n → (k : ℕ) → k < m → slot_of (framed ws base n vs) b k ≡ slot_of ws b k
framed-apart ws base n vs b m a k h = framed-out ws base n vs (b + k) (⊎_elim (λ x. inl (omega arith)) (λ x. inr (omega arith)) a)

pub pushed-keeps : (tops ws : List ℕ) (x n : ℕ) (vs : List ℕ) (b m : ℕ) → Apart b m (base_on tops x) n → (k : ℕ) → k < m
    → slot_of (pushed_words tops ws x n vs) b k ≡ slot_of ws b k
unfolding pushed_words
pushed-keeps tops ws x n vs b m a k h = go (fits_on tops x n)
  where
    go : (t : Bool) → slot_of (cond t (framed ws (base_on tops x) n vs) ws) b k ≡ slot_of ws b k
    go true = framed-apart ws (base_on tops x) n vs b m a k h
    go false = refl

pub pushed-frame : (tops ws : List ℕ) (x n : ℕ) (vs : List ℕ) (b m : ℕ) → Apart b m (base_on tops x) n → frame_at (pushed_words tops ws x n vs) b m ≡ frame_at ws b m
pushed-frame tops ws x n vs b m a = frame_same ws (pushed_words tops ws x n vs) b m (length-pushed tops ws x n vs) (pushed-keeps tops ws x n vs b m a)

-- a push that does not fit changes no word
pub words-refused : (tops ws : List ℕ) (x n : ℕ) (vs : List ℕ) → fits_on tops x n ≡ false → pushed_words tops ws x n vs ≡ ws
unfolding pushed_words
words-refused tops ws x n vs h = rw h

-- a push that fits: slot k of the new frame
module _ (tops ws : List ℕ) (x n : ℕ) (fit : fits_on tops x n ≡ true) (all : length ws ≡ 1024) (k : ℕ) (within : k < n) where
  pub pushed-slot : (vs : List ℕ) → slot_of (pushed_words tops ws x n vs) (base_on tops x) k ≡ get_or vs k 0
  unfolding pushed_words
  pushed-slot vs = rw fit (framed-in ws (base_on tops x) n vs k (let h = base-below tops x n fit (omega arith) in omega arith) within)

  -- an argument, from words as they stood before the push
  pub pushed-argument : (from given : ℕ) → k < given
      → slot_of (pushed_words tops ws x n (arguments_at ws from given)) (base_on tops x) k ≡ slot_of ws from k
  pushed-argument from given h = pushed-slot (arguments_at ws from given) ∙ arguments-in ws from given k h

  -- or zero
  pub pushed-zero : (from given : ℕ) → given ≤ k → slot_of (pushed_words tops ws x n (arguments_at ws from given)) (base_on tops x) k ≡ 0
  pushed-zero from given h = pushed-slot (arguments_at ws from given) ∙ arguments-out ws from given k h

-- and the new frame as a list: its arguments, then zeros
pub pushed-new : (tops ws : List ℕ) (x n : ℕ) (vs : List ℕ) → fits_on tops x n ≡ true → length ws ≡ 1024 → length vs ≤ n → 0 < n
    → frame_at (pushed_words tops ws x n vs) (base_on tops x) n ≡ vs ++ replicate (n - length vs) 0
pushed-new tops ws x n vs fit all h p = ext_get_or 0 (frame_at us base n) (vs ++ replicate (n - length vs) 0) (many ∙ sym count) (λ k l. at k (omega (arith, many)))
  where
    us : List ℕ
    us = pushed_words tops ws x n vs

    base : ℕ
    base = base_on tops x

    many : length (frame_at us base n) ≡ n
    many = length-frame us base n (omega (arith, base-below tops x n fit p, length-pushed tops ws x n vs))

    count : length (vs ++ replicate (n - length vs) 0) ≡ n
    count = simp (length-append, length-replicate) (omega arith)

    value : (k : ℕ) → Dec (k < length vs) → k < n → get_or vs k 0 ≡ get_or (vs ++ replicate (n - length vs) 0) k 0
    value k (yes l) _ = sym (get_or-append vs (replicate (n - length vs) 0) 0 k l)
    value k (no l) m =
        let e : k ≡ length vs + (k - length vs) = omega arith in
        get_or-eq_default vs 0 {n = k} (omega arith)
        ∙ sym (ap (λ i. get_or (vs ++ replicate (n - length vs) 0) i 0) e ∙ get_or-append-add vs (replicate (n - length vs) 0) (k - length vs) 0 ∙ get_or-replicate (n - length vs) (k - length vs) 0 0 (omega arith))

    at : (k : ℕ) → k < n → get_or (frame_at us base n) k 0 ≡ get_or (vs ++ replicate (n - length vs) 0) k 0
    at k l = frame-slot us base n k l ∙ pushed-slot tops ws x n fit all k l vs ∙ value k (dec_lt k (length vs)) l
