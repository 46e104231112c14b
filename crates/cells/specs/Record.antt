-- A thread's record as 24 bytes: position (2), status, connected, routine, parent, result, children, base (2), lo (2), mark (2), ceiling (2), hi (2),
-- from (2), to (2), pending (2).
use Rattle.std.specs.Prelude.{cond, not, List, [], ◌∷◌, ◌++◌, ℕ, ◌+◌, ◌*◌, ◌/◌, ◌%◌, eqb, get_or}
use Rattle.std.specs.Int.{from_bool}
use Rattle.window.specs.declared.Window.{Window}
use Rattle.thread.specs.declared.Thread.{Thread}
use Rattle.thread.specs.declared.Status.{Status}
use Rattle.thread.specs.declared.Status.TheVariants.{Free, Running, Ready, Suspended, Waiting, Lent}
use Rattle.thread.specs.Thread.{status_number}

-- a thread's status by its number
unfoldable pub status_of : ℕ → Status
status_of n = cond (eqb n 0) Free (cond (eqb n 1) Running (cond (eqb n 2) Ready (cond (eqb n 3) Suspended (cond (eqb n 4) Waiting Lent))))

-- the window at a place
abbrev pub window_at : List ℕ → ℕ → Window
window_at xs a = record {
  lo = get_or xs (a + 10) 0 + 256 * get_or xs (a + 11) 0;
  mark = get_or xs (a + 12) 0 + 256 * get_or xs (a + 13) 0;
  ceiling = get_or xs (a + 14) 0 + 256 * get_or xs (a + 15) 0;
  hi = get_or xs (a + 16) 0 + 256 * get_or xs (a + 17) 0;
  from = get_or xs (a + 18) 0 + 256 * get_or xs (a + 19) 0;
  to = get_or xs (a + 20) 0 + 256 * get_or xs (a + 21) 0;
}

-- the record at a place
unfoldable pub record_at : List ℕ → ℕ → Thread
record_at xs a = record {
  origin = record {
    routine = get_or xs (a + 4) 0;
    parent = get_or xs (a + 5) 0;
    result = get_or xs (a + 6) 0;
    base = get_or xs (a + 8) 0 + 256 * get_or xs (a + 9) 0;
  };
  status = status_of (get_or xs (a + 2) 0);
  connected = not (eqb (get_or xs (a + 3) 0) 0);
  position = get_or xs (a + 0) 0 + 256 * get_or xs (a + 1) 0;
  family = record { children = get_or xs (a + 7) 0; window = window_at xs a; pending = get_or xs (a + 22) 0 + 256 * get_or xs (a + 23) 0 };
}

-- the cells of a window
abbrev pub window_cells : Window → List ℕ
window_cells w =
    (w.lo % 256) ∷ (w.lo / 256) ∷ (w.mark % 256) ∷ (w.mark / 256) ∷ (w.ceiling % 256) ∷ (w.ceiling / 256) ∷ (w.hi % 256) ∷ (w.hi / 256)
    ∷ (w.from % 256) ∷ (w.from / 256) ∷ (w.to % 256) ∷ (w.to / 256) ∷ []

-- the cells of a record
abbrev pub cells_of : Thread → List ℕ
cells_of h =
    (h.position % 256) ∷ (h.position / 256) ∷ status_number h.status ∷ from_bool h.connected ∷ h.origin.routine ∷ h.origin.parent
    ∷ h.origin.result ∷ h.family.children
    ∷ (h.origin.base % 256) ∷ (h.origin.base / 256) ∷ window_cells h.family.window ++ ((h.family.pending % 256) ∷ (h.family.pending / 256) ∷ [])
