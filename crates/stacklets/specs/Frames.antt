-- The words of the stacklets, as a list: slots of a frame, a new frame, and one that is given back. Document 01, "Tables".
use Rattle.std.specs.Prelude.{cond, List, [], ℕ, zero, suc, ◌+◌, get_or, set, take, drop}
use Rattle.stacklets.specs.Tops.{fits_on, base_on}

-- slot k of the frame at a base
abbrev pub slot_of : List ℕ → ℕ → ℕ → ℕ
slot_of words base k = get_or words (base + k) 0

-- the words with another value in slot k
abbrev pub with_slot : List ℕ → ℕ → ℕ → ℕ → List ℕ
with_slot words base k value = set words (base + k) value

-- "arguments from slot a on": so many words, from that slot's word on
unfoldable pub arguments_at : List ℕ → ℕ → ℕ → List ℕ
arguments_at words from given = take given (drop from words)

-- "A new frame, as many words as the routine has slots, all zero but the arguments in its first slots"
unfoldable pub framed : List ℕ → ℕ → ℕ → List ℕ → List ℕ
framed words base zero arguments = words
framed words base (suc n) arguments = set (framed words base n arguments) (base + n) (get_or arguments n 0)

-- T-02: "clears a frame's words as it gives them back": as many words as the frame has, from its base on, become 0; no other word changes
abbrev pub wiped : List ℕ → ℕ → ℕ → List ℕ
wiped words base size = framed words base size []

-- a new frame above the top of stacklet x; nothing changes where it does not fit
unfoldable pub pushed_words : List ℕ → List ℕ → ℕ → ℕ → List ℕ → List ℕ
pushed_words tops words x size arguments = cond (fits_on tops x size) (framed words (base_on tops x) size arguments) words
