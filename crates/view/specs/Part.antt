-- Which part of which words the view of a range of addresses shows: document 01, "bench view".
use Rattle.std.specs.Prelude.{◌≡◌, List, cond, not, ℕ, ◌+◌, ◌-◌, ◌*◌, length, take, drop, ltb, leb, eqb}
use Rattle.std.specs.Borrow.{Bor}

-- a part of the parameter words or of the memory words, from a word up to another
pub data Part : Type 0 where
  parameters : ℕ → ℕ → Part
  memory : ℕ → ℕ → Part

-- "the empty part at the front of the parameter words"
abbrev pub nothing : Part
nothing = parameters 0 0

-- "that part of the parameter words (q ≤ 32) or of the memory words (p ≥ 32)"; q ≤ 32 is asked first, so that "with p and q both 32 it is the parameter words' end".
-- "Reversed, crossing 32, past 1,024 or with wrong buffer lengths": nothing. n and m are the lengths of the parameter words and the memory words
unfoldable pub part_of : ℕ → ℕ → ℕ → ℕ → Part
part_of n m p q =
    cond (not (eqb n 32)) nothing
    (cond (not (eqb m 992)) nothing
    (cond (ltb q p) nothing
    (cond (leb q 32) (parameters p q)
    (cond (ltb p 32) nothing
    (cond (ltb 1024 q) nothing
    (memory (p - 32) (q - 32)))))))

-- the words of a part
abbrev pub words_of : List ℕ → List ℕ → Part → List ℕ
words_of ps ms (parameters a e) = take (e - a) (drop a ps)
words_of ps ms (memory a e) = take (e - a) (drop a ms)

-- the words shown at the addresses from p up to q
abbrev pub view_of : List ℕ → List ℕ → ℕ → ℕ → List ℕ
view_of ps ms p q = words_of ps ms (part_of (length ps) (length ms) p q)

-- r is the words of x from word a up to word e, not only alike: it starts at that word's place, four bytes a word on in the same block
pub record IsPart (x : Bor (List ℕ)) (a e : ℕ) (r : Bor (List ℕ)) : Type 0 where
  pub words : r.now ≡ take (e - a) (drop a x.now)
  pub block : r.ref_ptr.0 ≡ x.ref_ptr.0
  pub place : r.ref_ptr.1 ≡ x.ref_ptr.1 + a * 4

-- r is a part of one of two slices
abbrev pub IsPartOf : Bor (List ℕ) → Bor (List ℕ) → Part → Bor (List ℕ) → Type 0
IsPartOf ps ms (parameters a e) r = IsPart ps a e r
IsPartOf ps ms (memory a e) r = IsPart ms a e r

-- what `view` gives
pub record Shows (ps ms : Bor (List ℕ)) (p q : ℕ) (r : Bor (List ℕ)) : Type 0 where
  pub words : r.now ≡ view_of ps.now ms.now p q
  pub part : IsPartOf ps ms (part_of (length ps.now) (length ms.now) p q) r
