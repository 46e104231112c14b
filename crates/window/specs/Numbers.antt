-- Document 01's number for each answer of a window, and T-04's, exactly under its condition; no condition cites the tests.
use Rattle.std.specs.Prelude.{Bool, true, false, ◌↔◌, ◌⊎◌, ◌≡◌, ℕ, ◌≤◌, ◌<◌, Option, Some, None}
use Rattle.window.specs.declared.Window.{Window}
use Rattle.window.specs.declared.Cut.{Cut}
use Rattle.window.specs.Rights.{may_load, may_store, cut_at, parts_at, share_at, sharing_of}

-- "10: address not allowed": of a load or a store
abbrev pub number_of_access : Bool → ℕ
number_of_access true = 0
number_of_access false = 10

-- "11: cut out of range"
abbrev pub number_of_cut : Option Cut → ℕ
number_of_cut (Some parts) = 0
number_of_cut None = 11

-- T-04: "31 s out of range"
abbrev pub number_of_share : Option Window → ℕ
number_of_share (Some rest) = 0
number_of_share None = 31

-- an address is none of those from x up to but not including y
abbrev pub NotFrom : ℕ → ℕ → ℕ → Type 0
NotFrom x y address = (address < x) ⊎ (y ≤ address)

-- what `may_load` gives
pub record LoadAnswer (w : Window) (address : ℕ) (r : Bool) : Type 0 where
  pub is : r ≡ may_load w address
  -- "It may load parameter words, and load and store from mark up to hi, nothing else"; T-04: and its read span
  pub number10 : (number_of_access r ≡ 10) ↔ ((32 ≤ address) × NotFrom w.mark w.hi address × NotFrom w.from w.to address)
  pub number0 : (number_of_access r ≡ 0) ↔ (r ≡ true)

-- what `may_store` gives
pub record StoreAnswer (w : Window) (address : ℕ) (r : Bool) : Type 0 where
  pub is : r ≡ may_store w address
  -- "Addresses 0 to 31 are parameter words, lent for reading"; "store from mark up to hi, nothing else"; T-04: "only below the ceiling"
  pub number10 : (number_of_access r ≡ 10) ↔ ((address < 32) ⊎ NotFrom w.mark w.ceiling address)
  pub number0 : (number_of_access r ≡ 0) ↔ (r ≡ true)

-- what `cut` gives
pub record CutAnswer (w : Window) (e : ℕ) (r : Option Cut) : Type 0 where
  pub is : r ≡ cut_at w e
  -- "A fork whose cut is e needs mark ≤ e ≤ hi"; T-04: "cut at most at" the ceiling
  pub number11 : (number_of_cut r ≡ 11) ↔ ((e < w.mark) ⊎ (w.ceiling < e))
  -- "The child's window runs from mark to e, and the mark becomes e"
  pub number0 : (number_of_cut r ≡ 0) ↔ (r ≡ Some (parts_at w e))

-- what `share` gives
pub record ShareAnswer (w : Window) (s : ℕ) (r : Option Window) : Type 0 where
  pub is : r ≡ share_at w s
  -- "mark ≤ s ≤ the thread's ceiling", otherwise "31 s out of range"
  pub number31 : (number_of_share r ≡ 31) ↔ ((s < w.mark) ⊎ (w.ceiling < s))
  -- "The ceiling becomes s"
  pub number0 : (number_of_share r ≡ 0) ↔ (r ≡ Some (sharing_of w s))
