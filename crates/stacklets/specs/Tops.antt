-- The tops of the stacklets, as a list: document 01, "Tables". A frame is known by its base, its first word's number among all words.
use Rattle.std.specs.Prelude.{Bool, cond, ◌&&◌, List, ℕ, ◌+◌, ◌*◌, ◌/◌, ◌%◌, ltb, leb, eqb, get_or, set}
use Rattle.stacklets.specs.declared.Stacklets.{Stacklets}

-- "16 stacklets of 64 words": how many words of each its frames take
unfoldable pub tops_of : Stacklets → List ℕ
tops_of s = s.tops

-- the stacklets with these tops, for code that holds their parts
abbrev pub stacklets_of : List ℕ → Stacklets
stacklets_of tops = record { tops = tops }

-- the top of stacklet x; "A stacklet is free again when its last frame goes": its top is then 0
abbrev pub top_at : List ℕ → ℕ → ℕ
top_at tops x = get_or tops x 0

-- where a new frame on stacklet x starts
abbrev pub base_on : List ℕ → ℕ → ℕ
base_on tops x = 64 * x + top_at tops x

-- "and it fits": a frame of `size` words above the top of stacklet x; 64 words exactly fit
unfoldable pub fits_on : List ℕ → ℕ → ℕ → Bool
fits_on tops x size = ltb x 16 && leb (top_at tops x + size) 64

-- "the parent's frame is topmost there": it ends at its stacklet's top
abbrev pub is_topmost : List ℕ → ℕ → ℕ → Bool
is_topmost tops base size = eqb (base % 64 + size) (top_at tops (base / 64))

-- a new frame on stacklet x; nothing changes where it does not fit
unfoldable pub pushed_tops : List ℕ → ℕ → ℕ → List ℕ
pushed_tops tops x size = cond (fits_on tops x size) (set tops x (top_at tops x + size)) tops

-- the frame at a base goes, with all above it
abbrev pub popped_tops : List ℕ → ℕ → List ℕ
popped_tops tops base = set tops (base / 64) (base % 64)
