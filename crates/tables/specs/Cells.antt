-- Cells of the tables: lists by index, and numbers of two and four bytes.
use Rattle.std.specs.Prelude.{◌≡◌, ℕ, zero, suc, ◌+◌, ◌*◌, ◌<◌, ◌≤◌, ◌⊎◌, List, [], ◌∷◌, ◌++◌, get_or, take, drop}

-- f of k, of k + 1 and so on, n of them
unfoldable pub from {ℓ} : {A : Type ℓ} → ℕ → ℕ → (ℕ → A) → List A
from k zero f = []
from k (suc n) f = f k ∷ from (suc k) n f

-- the number of two bytes at a place, the low one first
abbrev pub two_at : List ℕ → ℕ → ℕ
two_at xs a = get_or xs a 0 + 256 * get_or xs (a + 1) 0

-- and of four
abbrev pub four_at : List ℕ → ℕ → ℕ
four_at xs a = two_at xs a + 65536 * two_at xs (a + 2)

-- ys is xs but for n cells at a place
abbrev pub Outside : List ℕ → List ℕ → ℕ → ℕ → Type 0
Outside xs ys a n = (i : ℕ) → (i < a) ⊎ (a + n ≤ i) → get_or ys i 0 ≡ get_or xs i 0

-- k cells of xs at a place are those of ys: what a lent part leaves
abbrev pub pasted : List ℕ → ℕ → ℕ → List ℕ → List ℕ
pasted xs a k ys = take a xs ++ (ys ++ drop k (drop a xs))
