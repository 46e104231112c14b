-- What a window allows, how a fork cuts it, how it is shared for reading and how a join gives it back: document 01, "Memory and windows",
-- and document 02, T-04.
use Rattle.std.specs.Prelude.{Bool, cond, ◌&&◌, ◌||◌, ℕ, ◌≤◌, ltb, leb, Option, Some, None}
use Rattle.window.specs.declared.Window.{Window}
use Rattle.window.specs.declared.Cut.{Cut}

-- "The root's window is 32 to 1,024", its mark at first lo; the ceiling is "at first hi", and no word is shared with the root
abbrev pub root_window : Window
root_window = record { lo = 32; mark = 32; ceiling = 1024; hi = 1024; from = 1024; to = 1024 }

-- the window of a free record: it has no word
abbrev pub no_window : Window
no_window = record { lo = 0; mark = 0; ceiling = 0; hi = 0; from = 0; to = 0 }

-- is an address one of those from x up to but not including y?
abbrev pub is_from : ℕ → ℕ → ℕ → Bool
is_from x y address = leb x address && ltb address y

-- "load and store from mark up to hi, nothing else"; T-04: "Until the join the thread may store only below the ceiling"; addresses 0 to 31
-- are "lent for reading", so none of them is stored even where the mark is below 32
unfoldable pub may_store : Window → ℕ → Bool
may_store w address = leb 32 address && is_from w.mark w.ceiling address

-- "It may load parameter words, and load and store from mark up to hi"; T-04: "load up to hi", and what it was given to read at its fork
unfoldable pub may_load : Window → ℕ → Bool
may_load w address = ltb address 32 || (is_from w.mark w.hi address || is_from w.from w.to address)

-- does the thread share a word?
abbrev pub shares_word : Window → Bool
shares_word w = ltb w.ceiling w.hi

-- T-04: "A child forked meanwhile may also load from s up to the parent's hi; if the parent shares no word, the child gets the parent's own
-- read span"
abbrev pub span_from : Window → ℕ
span_from w = cond (shares_word w) w.ceiling w.from

abbrev pub span_to : Window → ℕ
span_to w = cond (shares_word w) w.hi w.to

-- "The child's window runs from mark to e": its mark is at first its lo, its ceiling "at first hi"
abbrev pub child_of : Window → ℕ → Window
child_of w e = record { lo = w.mark; mark = w.mark; ceiling = e; hi = e; from = span_from w; to = span_to w }

-- "and the mark becomes e"
abbrev pub rest_of : Window → ℕ → Window
rest_of w e = record { lo = w.lo; mark = e; ceiling = w.ceiling; hi = w.hi; from = w.from; to = w.to }

abbrev pub parts_at : Window → ℕ → Cut
parts_at w e = record { child = child_of w e; rest = rest_of w e }

-- is a word between the mark and the ceiling?
abbrev pub is_between : Window → ℕ → Bool
is_between w x = leb w.mark x && leb x w.ceiling

-- "A fork whose cut is e needs mark ≤ e ≤ hi"; T-04: "cut at most at" the ceiling
unfoldable pub cut_at : Window → ℕ → Option Cut
cut_at w e = cond (is_between w e) (Some (parts_at w e)) None

-- T-04: "The ceiling becomes s"
abbrev pub sharing_of : Window → ℕ → Window
sharing_of w s = record { lo = w.lo; mark = w.mark; ceiling = s; hi = w.hi; from = w.from; to = w.to }

-- T-04: "slot a holds s, with mark ≤ s ≤ the thread's ceiling"
unfoldable pub share_at : Window → ℕ → Option Window
share_at w s = cond (is_between w s) (Some (sharing_of w s)) None

-- "A join puts the mark back to lo"; T-04: "The join restores the ceiling"
abbrev pub rejoined : Window → Window
rejoined w = record { lo = w.lo; mark = w.lo; ceiling = w.hi; hi = w.hi; from = w.from; to = w.to }

-- a window of a sound state: within the memory words, the mark and the ceiling between its ends, what it was given to read above it; without
-- such words the span is 1,024 to 1,024 or any other that has none
pub record Fits (w : Window) : Type 0 where
  pub memory : 32 ≤ w.lo
  pub behind : w.lo ≤ w.mark
  pub before : w.mark ≤ w.ceiling
  pub below : w.ceiling ≤ w.hi
  pub above : w.hi ≤ w.from
  pub span : w.from ≤ w.to
  pub within : w.to ≤ 1024
