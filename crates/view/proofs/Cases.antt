-- Which part is shown in each case, and that showing it shows its words. Assumes nothing.
use mathlib.Core.Path.{◌≡◌, ◌∙◌}
use mathlib.Core.List.{List}
use Prim.Native.Nat.{ℕ, ◌-◌, ◌≤◌, ◌<◌}
use borrow.Author.Tests.{lt-ltb, le-ltb, le-leb, lt-leb, eq-eqb, ne_eqb}
use lib.ListN.{length}
use denote.Ref.{Bor}
use Rattle.view.specs.Part.{Part, parameters, memory, nothing, part_of, words_of, IsPartOf, Shows}

module _ (n m p q : ℕ) where
  pub wrong-parameters : (n ≡ 32 → ⊥) → part_of n m p q ≡ nothing
  unfolding part_of
  wrong-parameters a = rw (ne_eqb _ _ a)

  module _ (a : n ≡ 32) where
    pub wrong-memory : (m ≡ 992 → ⊥) → part_of n m p q ≡ nothing
    unfolding part_of
    wrong-memory b = rw (eq-eqb _ _ a, ne_eqb _ _ b)

    module _ (b : m ≡ 992) where
      pub reversed : q < p → part_of n m p q ≡ nothing
      unfolding part_of
      reversed c = rw (eq-eqb _ _ a, eq-eqb _ _ b, lt-ltb _ _ c)

      module _ (c : p ≤ q) where
        pub low : q ≤ 32 → part_of n m p q ≡ parameters p q
        unfolding part_of
        low d = rw (eq-eqb _ _ a, eq-eqb _ _ b, le-ltb _ _ c, le-leb _ _ d)

        module _ (d : 32 < q) where
          pub crossing : p < 32 → part_of n m p q ≡ nothing
          unfolding part_of
          crossing e = rw (eq-eqb _ _ a, eq-eqb _ _ b, le-ltb _ _ c, lt-leb _ _ d, lt-ltb _ _ e)

          module _ (e : 32 ≤ p) where
            pub past : 1024 < q → part_of n m p q ≡ nothing
            unfolding part_of
            past f = rw (eq-eqb _ _ a, eq-eqb _ _ b, le-ltb _ _ c, lt-leb _ _ d, le-ltb _ _ e, lt-ltb _ _ f)

            pub high : q ≤ 1024 → part_of n m p q ≡ memory (p - 32) (q - 32)
            unfolding part_of
            high f = rw (eq-eqb _ _ a, eq-eqb _ _ b, le-ltb _ _ c, lt-leb _ _ d, le-ltb _ _ e, le-ltb _ _ f)

shown : (ps ms : Bor (List ℕ)) (x : Part) (r : Bor (List ℕ)) → IsPartOf ps ms x r → r.now ≡ words_of ps.now ms.now x
shown ps ms (parameters a e) r h = h.words
shown ps ms (memory a e) r h = h.words

pub shows : (ps ms : Bor (List ℕ)) (p q : ℕ) (x : Part) (r : Bor (List ℕ)) → part_of (length ps.now) (length ms.now) p q ≡ x → IsPartOf ps ms x r → Shows ps ms p q r
shows ps ms p q x r e h = record { words = shown ps ms x r h ∙ rw e; part = rw e h }
