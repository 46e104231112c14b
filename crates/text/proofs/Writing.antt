-- Laws of text put into a buffer: byte by byte, and one text after another. Assumes nothing.
use mathlib.Core.List.{List, [], ◌∷◌, ◌++◌}
use mathlib.Core.Path.{◌≡◌, refl, ap, sym, ◌∙◌}
use Prim.Native.Nat.{ℕ, suc, ◌+◌, ◌≤◌, ◌<◌}
use native.Mathlib.Nat.{add-zero}
use native.Mathlib.Numerals.{add-one}
use native.Mathlib.Omega.{arith}
use lib.ListN.{length, get_or, set, take, length-append}
use lib.Seq.{sets, set_out, length-sets, take-suc, take_all, length-take-le}
use Rattle.text.specs.Buffer.{Put}

sets-append : (b : List ℕ) (at : ℕ) (xs ys : List ℕ) → sets b at (xs ++ ys) ≡ sets (sets b at xs) (at + length xs) ys
sets-append b at [] ys = rw (add-zero at)
sets-append b at (x ∷ xs) ys =
    let e : at + suc (length xs) ≡ suc at + length xs = omega arith in
    rw e (sets-append (set b at x) (suc at) xs ys)

-- a text and then another
pub followed : {xs ys b m e : List ℕ} {at next end : ℕ} → Put xs b at next m → Put ys m next end e → Put (xs ++ ys) b at end e
followed {xs} {ys} {b} {m} {e} {at} {next} {end} p q =
    record {
      bytes = q.bytes ∙ ap (λ (l : List ℕ). sets l next ys) p.bytes ∙ ap (λ (n : ℕ). sets (sets b at xs) n ys) p.position ∙ sym (sets-append b at xs ys);
      position = omega (arith, p.position, q.position, length-append xs ys);
    }

-- no text
pub silent : (b : List ℕ) (at : ℕ) → Put [] b at at b
silent b at = record { bytes = refl; position = sym (add-zero at) }

module _ (byte : ℕ) (b : List ℕ) (at : ℕ) where
  pub stored : Put (byte ∷ []) b at (at + 1) (set b at byte)
  stored = record { bytes = refl; position = refl }

  -- past the buffer's end
  pub left_out : length b ≤ at → Put (byte ∷ []) b at (at + 1) b
  left_out h = record { bytes = sym (set_out b at byte h); position = refl }

-- a buffer keeps its length
pub same_size : {xs b e : List ℕ} {at next : ℕ} → Put xs b at next e → length e ≡ length b
same_size {xs} {b} {e} {at} p = ap length p.bytes ∙ length-sets b at xs

pub same_text : {xs ys b e : List ℕ} {at next : ℕ} → xs ≡ ys → Put xs b at next e → Put ys b at next e
same_text h p = rw (← h) p

-- a text's first bytes
module _ (text : List ℕ) (i : ℕ) where
  pub first-size : i ≤ length text → length (take i text) ≡ i
  first-size h = length-take-le i text h

  pub one_more : i < length text → {b m e : List ℕ} {at next end : ℕ} → Put (take i text) b at next m → Put (get_or text i 0 ∷ []) m next end e → Put (take (i + 1) text) b at end e
  one_more h p q = same_text (rw (add-one i, take-suc text i 0 h)) (followed p q)

  pub whole : length text ≤ i → {b e : List ℕ} {at next : ℕ} → Put (take i text) b at next e → Put text b at next e
  whole h p = same_text (take_all i text h) p
