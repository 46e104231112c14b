-- Worked cases of 0E in the serial run: small runs that share words for reading and how each ends, worked out by hand from T-04's sentences,
-- "the plain run following these rules too". What a run shares, cuts, loads and stores are its arguments.
use Rattle.std.specs.Prelude.{List, [], ◌∷◌, ◌++◌, ℕ, ◌-◌, length}
use Rattle.serial.specs.Cases.{SerialCase, case, zeros, all_zero}
use Rattle.serial.specs.Serial.{done, stopped}

-- a is stored at a, and no other word
abbrev stored_at : ℕ → List ℕ
stored_at a = zeros (a - 32) ++ (a ∷ zeros (1023 - a))

-- an image of one routine of four slots, so many of them arguments
abbrev alone : ℕ → List ℕ → List ℕ
alone arguments code = 0x01 ∷ 0x04 ∷ arguments ∷ length code ∷ 0x00 ∷ code

-- an image of such a routine 0 of five slots, and of a routine 1 of one argument, an address, that returns the word there
abbrev over_reading : ℕ → List ℕ → List ℕ
over_reading arguments code =
    (0x02 ∷ 0x05 ∷ arguments ∷ length code ∷ 0x00 ∷ 0x01 ∷ 0x01 ∷ 0x05 ∷ 0x00 ∷ []) ++ code ++ (0x04 ∷ 0x00 ∷ 0x00 ∷ 0x0D ∷ 0x00 ∷ [])

-- the same with a routine 1 that stores its argument at that address, and returns it
abbrev over_storing : ℕ → List ℕ → List ℕ
over_storing arguments code =
    (0x02 ∷ 0x05 ∷ arguments ∷ length code ∷ 0x00 ∷ 0x01 ∷ 0x01 ∷ 0x05 ∷ 0x00 ∷ []) ++ code ++ (0x05 ∷ 0x00 ∷ 0x00 ∷ 0x0D ∷ 0x00 ∷ [])

-- the same with a middle routine 1 of such slots and arguments, and a routine 2 that returns the word at its argument
abbrev over_two : ℕ → List ℕ → ℕ → ℕ → List ℕ → List ℕ
over_two arguments code slots taken middle =
    (0x03 ∷ 0x05 ∷ arguments ∷ length code ∷ 0x00 ∷ slots ∷ taken ∷ length middle ∷ 0x00 ∷ 0x01 ∷ 0x01 ∷ 0x05 ∷ 0x00 ∷ [])
    ++ code ++ middle ++ (0x04 ∷ 0x00 ∷ 0x00 ∷ 0x0D ∷ 0x00 ∷ [])

-- 0E 0; 05 1 1; 0D 1. Of s and a: it shares from s on, stores a at a, and returns a. Units: 1 + 2 + 1
abbrev share_then_store : List ℕ
share_then_store = alone 2 (0x0E ∷ 0x00 ∷ 0x05 ∷ 0x01 ∷ 0x01 ∷ 0x0D ∷ 0x01 ∷ [])

-- 05 1 1; 0E 0; 04 2 1; 0D 2. Of s and a: it stores a at a, shares from s on, and loads from a. Units: 2 + 1 + 2 + 1
abbrev share_then_load : List ℕ
share_then_load = alone 2 (0x05 ∷ 0x01 ∷ 0x01 ∷ 0x0E ∷ 0x00 ∷ 0x04 ∷ 0x02 ∷ 0x01 ∷ 0x0D ∷ 0x02 ∷ [])

-- 0E 0; 0E 1; 05 2 2; 0D 2. Of two shares and a. Units: 1 + 1 + 2 + 1
abbrev share_twice : List ℕ
share_twice = alone 3 (0x0E ∷ 0x00 ∷ 0x0E ∷ 0x01 ∷ 0x05 ∷ 0x02 ∷ 0x02 ∷ 0x0D ∷ 0x02 ∷ [])

-- 0E 0; 0A; 0E 1; 05 2 2; 0D 2. The same with a join between. Units: 1 + 1 + 1 + 2 + 1
abbrev share_anew : List ℕ
share_anew = alone 3 (0x0E ∷ 0x00 ∷ 0x0A ∷ 0x0E ∷ 0x01 ∷ 0x05 ∷ 0x02 ∷ 0x02 ∷ 0x0D ∷ 0x02 ∷ [])

-- the thread itself
abbrev pub own_cases : List SerialCase
own_cases =
    -- "slot a holds s, with mark ≤ s ≤ the thread's ceiling, at first hi", "Refused: 31 s out of range": 31 and 1,025 are, 32 and 1,024 are not
    case share_then_store (31 ∷ 100 ∷ []) 100 (stopped 31 all_zero 0)
    ∷ case share_then_store (32 ∷ 32 ∷ []) 100 (stopped 10 all_zero 1)
    ∷ case share_then_store (1024 ∷ 1023 ∷ []) 100 (done 1023 (stored_at 1023) 4)
    ∷ case share_then_store (1025 ∷ 100 ∷ []) 100 (stopped 31 all_zero 0)
    -- 01 0 32818; 02 0 0 0; 0E 0; 0D 0: the whole of s is tested, and 65,636 is not 100. Units: 1 + 1
    ∷ case (alone 0 (0x01 ∷ 0x00 ∷ 0x32 ∷ 0x80 ∷ 0x02 ∷ 0x00 ∷ 0x00 ∷ 0x00 ∷ 0x0E ∷ 0x00 ∷ 0x0D ∷ 0x00 ∷ [])) [] 100 (stopped 31 all_zero 2)
    -- "0E a (weight 1)": at 0 it meets 22, and not 31
    ∷ case share_then_store (31 ∷ 100 ∷ []) 0 (stopped 22 all_zero 0)
    ∷ case share_then_store (1020 ∷ 1019 ∷ []) 4 (done 1019 (stored_at 1019) 4)
    ∷ case share_then_store (1020 ∷ 1019 ∷ []) 3 (stopped 22 (stored_at 1019) 3)
    -- "The ceiling becomes s", "the thread may store only below the ceiling"
    ∷ case share_then_store (1020 ∷ 1019 ∷ []) 100 (done 1019 (stored_at 1019) 4)
    ∷ case share_then_store (1020 ∷ 1020 ∷ []) 100 (stopped 10 all_zero 1)
    ∷ case share_then_store (1020 ∷ 1023 ∷ []) 100 (stopped 10 all_zero 1)
    -- "and load up to hi"
    ∷ case share_then_load (1020 ∷ 1020 ∷ []) 100 (done 1020 (stored_at 1020) 6)
    ∷ case share_then_load (1020 ∷ 1023 ∷ []) 100 (done 1023 (stored_at 1023) 6)
    -- "s ≤ the thread's ceiling", which the first one has put down: a second share may be lower or the same, and no higher
    ∷ case share_twice (1020 ∷ 1000 ∷ 999 ∷ []) 100 (done 999 (stored_at 999) 5)
    ∷ case share_twice (1020 ∷ 1000 ∷ 1000 ∷ []) 100 (stopped 10 all_zero 2)
    ∷ case share_twice (1020 ∷ 1020 ∷ 1019 ∷ []) 100 (done 1019 (stored_at 1019) 5)
    ∷ case share_twice (1020 ∷ 1021 ∷ 1019 ∷ []) 100 (stopped 31 all_zero 1)
    -- "The join restores the ceiling": behind it the shared words are stored again, and a share may be higher
    ∷ case share_anew (1020 ∷ 1024 ∷ 1020 ∷ []) 100 (done 1020 (stored_at 1020) 6)
    ∷ case share_anew (1020 ∷ 1022 ∷ 1021 ∷ []) 100 (done 1021 (stored_at 1021) 6)
    ∷ case share_anew (1020 ∷ 1022 ∷ 1022 ∷ []) 100 (stopped 10 all_zero 3)
    ∷ []

-- 05 2 2; 0E 0; 08 1 3 2 1; 0A; 0D 3. Of s, a cut and a: it stores a at a, shares from s on, and its child, up to the cut, loads from a. Units:
-- 2 + 1 + 6, the child's 2 + 1, and 1 + 1
abbrev child_loads : List ℕ
child_loads = over_reading 3 (0x05 ∷ 0x02 ∷ 0x02 ∷ 0x0E ∷ 0x00 ∷ 0x08 ∷ 0x01 ∷ 0x03 ∷ 0x02 ∷ 0x01 ∷ 0x0A ∷ 0x0D ∷ 0x03 ∷ [])

-- 0E 0; 08 1 3 2 1; 0A; 0D 3. Of the same, its child storing. Units: 1 + 6, the child's 2 + 1, and 1 + 1
abbrev child_stores : List ℕ
child_stores = over_storing 3 (0x0E ∷ 0x00 ∷ 0x08 ∷ 0x01 ∷ 0x03 ∷ 0x02 ∷ 0x01 ∷ 0x0A ∷ 0x0D ∷ 0x03 ∷ [])

-- 0E 0; 08 1 3 2 1; 05 2 2; 0A; 0D 3. Its child loads from a, and it stores there before the join. Units before that: 1 + 6, and the child's 2 + 1
abbrev store_before_join : List ℕ
store_before_join = over_reading 3 (0x0E ∷ 0x00 ∷ 0x08 ∷ 0x01 ∷ 0x03 ∷ 0x02 ∷ 0x01 ∷ 0x05 ∷ 0x02 ∷ 0x02 ∷ 0x0A ∷ 0x0D ∷ 0x03 ∷ [])

-- 0E 0; 08 1 3 2 1; 04 2 2; 0A; 0D 2. Its child loads from a, and so does it. Units: 1 + 6, the child's 2 + 1, and 2 + 1 + 1
abbrev load_before_join : List ℕ
load_before_join = over_reading 3 (0x0E ∷ 0x00 ∷ 0x08 ∷ 0x01 ∷ 0x03 ∷ 0x02 ∷ 0x01 ∷ 0x04 ∷ 0x02 ∷ 0x02 ∷ 0x0A ∷ 0x0D ∷ 0x02 ∷ [])

-- 08 1 3 2 1; 0E 0; 0A; 0D 0. A fork first. Units: 6, the child's 2 + 1, and 1 + 1 + 1
abbrev share_behind_fork : List ℕ
share_behind_fork = over_reading 3 (0x08 ∷ 0x01 ∷ 0x03 ∷ 0x02 ∷ 0x01 ∷ 0x0E ∷ 0x00 ∷ 0x0A ∷ 0x0D ∷ 0x00 ∷ [])

-- 08 1 3 2 1; 0E 3; 0A; 0D 0. It shares from the pending slot's value on
abbrev share_pending : List ℕ
share_pending = over_reading 3 (0x08 ∷ 0x01 ∷ 0x03 ∷ 0x02 ∷ 0x01 ∷ 0x0E ∷ 0x03 ∷ 0x0A ∷ 0x0D ∷ 0x00 ∷ [])

-- the thread and its child
abbrev pub child_cases : List SerialCase
child_cases =
    -- "A child forked meanwhile may also load from s up to the parent's hi": the first word and the last, and not the one before
    case child_loads (1020 ∷ 40 ∷ 1020 ∷ []) 100 (done 1020 (stored_at 1020) 14)
    ∷ case child_loads (1020 ∷ 40 ∷ 1023 ∷ []) 100 (done 1023 (stored_at 1023) 14)
    ∷ case child_loads (1020 ∷ 40 ∷ 1019 ∷ []) 100 (stopped 10 (stored_at 1019) 9)
    -- "if the parent shares no word, the child gets the parent's own read span", and the root has none
    ∷ case child_loads (1024 ∷ 40 ∷ 1023 ∷ []) 100 (stopped 10 (stored_at 1023) 9)
    -- "cut at most at it": at the ceiling the child's own words end where the shared ones begin, and it loads either
    ∷ case child_loads (1020 ∷ 1020 ∷ 1019 ∷ []) 100 (done 1019 (stored_at 1019) 14)
    ∷ case child_loads (1020 ∷ 1020 ∷ 1020 ∷ []) 100 (done 1020 (stored_at 1020) 14)
    ∷ case child_loads (1020 ∷ 1021 ∷ 1020 ∷ []) 100 (stopped 11 (stored_at 1020) 3)
    -- "load": it stores none of them, and all of its own, whose ceiling is its hi
    ∷ case child_stores (1020 ∷ 40 ∷ 1020 ∷ []) 100 (stopped 10 all_zero 7)
    ∷ case child_stores (1020 ∷ 1020 ∷ 1019 ∷ []) 100 (done 1019 (stored_at 1019) 12)
    -- "Until the join": the ceiling is not back when the child has ended
    ∷ case store_before_join (1020 ∷ 40 ∷ 1020 ∷ []) 100 (stopped 10 all_zero 10)
    ∷ case store_before_join (1021 ∷ 1000 ∷ 500 ∷ []) 100 (stopped 10 all_zero 10)
    -- "load up to hi", from the mark: what the child's cut took is not loaded
    ∷ case load_before_join (1020 ∷ 40 ∷ 1020 ∷ []) 100 (done 0 all_zero 14)
    ∷ case load_before_join (1020 ∷ 40 ∷ 39 ∷ []) 100 (stopped 10 all_zero 10)
    -- "mark ≤ s": behind a cut at 40 the mark is 40
    ∷ case share_behind_fork (40 ∷ 40 ∷ 32 ∷ []) 100 (done 40 all_zero 12)
    ∷ case share_behind_fork (39 ∷ 40 ∷ 32 ∷ []) 100 (stopped 31 all_zero 9)
    -- "31 .. tested after 9": the pending slot holds 0, which is out of range too; 22 comes before both
    ∷ case share_pending (40 ∷ 40 ∷ 32 ∷ []) 10 (stopped 9 all_zero 9)
    ∷ case share_pending (40 ∷ 40 ∷ 32 ∷ []) 9 (stopped 22 all_zero 9)
    ∷ []

-- routine 0, of s, a cut and a: 05 2 2; 0E 0; 08 1 3 1 1; 0A; 0D 3. Routine 1, of the cut and a: 08 2 2 1 0; 0A; 0D 2, so that it shares nothing.
-- Units: 2 + 1 + 6, the child's 6, the grandchild's 2 + 1, and 1 + 1, 1 + 1
abbrev through_child : List ℕ
through_child =
    over_two 3 (0x05 ∷ 0x02 ∷ 0x02 ∷ 0x0E ∷ 0x00 ∷ 0x08 ∷ 0x01 ∷ 0x03 ∷ 0x01 ∷ 0x01 ∷ 0x0A ∷ 0x0D ∷ 0x03 ∷ []) 3 2
    (0x08 ∷ 0x02 ∷ 0x02 ∷ 0x01 ∷ 0x00 ∷ 0x0A ∷ 0x0D ∷ 0x02 ∷ [])

-- routine 0, of s, the child's s, a cut and a: 05 3 3; 0E 0; 08 1 4 1 2; 0A; 0D 4. Routine 1, of its s, the cut and a: 0E 0; 08 2 3 2 0; 0A; 0D 3, so
-- that it cuts at its ceiling. Units: 2 + 1 + 6, the child's 1 + 6, the grandchild's 2 + 1, and 1 + 1, 1 + 1
abbrev through_sharing : List ℕ
through_sharing =
    over_two 4 (0x05 ∷ 0x03 ∷ 0x03 ∷ 0x0E ∷ 0x00 ∷ 0x08 ∷ 0x01 ∷ 0x04 ∷ 0x01 ∷ 0x02 ∷ 0x0A ∷ 0x0D ∷ 0x04 ∷ []) 4 3
    (0x0E ∷ 0x00 ∷ 0x08 ∷ 0x02 ∷ 0x03 ∷ 0x02 ∷ 0x00 ∷ 0x0A ∷ 0x0D ∷ 0x03 ∷ [])

-- routine 0 as before. Routine 1, of its s, the cut and a: 0E 0; 04 2 2; 0D 2. Units: 2 + 1 + 6, the child's 1 + 2 + 1, and 1 + 1
abbrev sharing_loads : List ℕ
sharing_loads =
    over_two 4 (0x05 ∷ 0x03 ∷ 0x03 ∷ 0x0E ∷ 0x00 ∷ 0x08 ∷ 0x01 ∷ 0x04 ∷ 0x01 ∷ 0x02 ∷ 0x0A ∷ 0x0D ∷ 0x04 ∷ []) 3 3
    (0x0E ∷ 0x00 ∷ 0x04 ∷ 0x02 ∷ 0x02 ∷ 0x0D ∷ 0x02 ∷ [])

-- the thread, its child and its grandchild
abbrev pub grandchild_cases : List SerialCase
grandchild_cases =
    -- "if the parent shares no word, the child gets the parent's own read span": the root's words, through a child that shares nothing
    case through_child (1020 ∷ 40 ∷ 1020 ∷ []) 100 (done 1020 (stored_at 1020) 22)
    ∷ case through_child (1020 ∷ 40 ∷ 1019 ∷ []) 100 (stopped 10 (stored_at 1019) 15)
    -- or shares from its hi on
    ∷ case through_sharing (1020 ∷ 40 ∷ 40 ∷ 1020 ∷ []) 100 (done 1020 (stored_at 1020) 23)
    -- below a child that shares a word the grandchild may load that word, and the root's no more
    ∷ case through_sharing (1020 ∷ 39 ∷ 40 ∷ 39 ∷ []) 100 (done 39 (stored_at 39) 23)
    ∷ case through_sharing (1020 ∷ 39 ∷ 40 ∷ 1020 ∷ []) 100 (stopped 10 (stored_at 1020) 16)
    -- the child's ceiling is at first its own hi, 40
    ∷ case through_sharing (1020 ∷ 41 ∷ 40 ∷ 1020 ∷ []) 100 (stopped 31 (stored_at 1020) 9)
    -- a child that shares may load the root's words all the same
    ∷ case sharing_loads (1020 ∷ 39 ∷ 40 ∷ 1020 ∷ []) 100 (done 1020 (stored_at 1020) 15)
    ∷ []

abbrev pub share_cases : List SerialCase
share_cases = own_cases ++ (child_cases ++ grandchild_cases)
