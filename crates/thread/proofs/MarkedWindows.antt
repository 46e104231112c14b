-- Document 01's own windows, from lo up to hi with a mark, and T-04's ceiling and read span: their tests agree with their rights. With the root's window this is the job
-- that document 01's machine and plain run carry out.
use mathlib.Core.Path.{◌≡◌, refl, sym, ◌∙◌}
use mathlib.Core.Option.{none, some}
use mathlib.Core.Bool.{true, false, true≢false}
use Prim.Native.Nat.{ℕ, ◌≤◌, ◌<◌}
use native.Mathlib.Decide.{dec_lt}
use native.Mathlib.Omega.{arith}
use Rattle.forkjoin.proofs.Rights.{Within, over, Seen, inside, before, behind, seen, known, all_three, in-first, in-second, in-third}
use Rattle.forkjoin.proofs.ScheduleIndependence.{Job}
use Rattle.window.specs.declared.Window.{Window}
use Rattle.std.specs.Prelude.{Some, None, is_some}
use Rattle.std.specs.declared.option.Option.{Option as Optional}
use Rattle.window.specs.declared.Cut.{Cut}
use Rattle.window.specs.Rights.{may_load, may_store, cut_at, share_at, rejoined, root_window, Fits}
use Rattle.window.proofs.Laws.{Loading, parameter, own, given, load-means, load-parameter, load-own, load_given, store-means, store-allowed as may-store, root-fits}
use Rattle.window.proofs.Instance.{rights, parts_of, shared_of, windows}
use Rattle.thread.specs.View.{may_cut, may_share}
use Rattle.thread.proofs.Routines.{Code}
use Rattle.thread.proofs.ThreadState.{WindowTests}
use Rattle.thread.proofs.DocumentJob.{job}

-- a load that is allowed has a right to read, and one that is refused has none
pub load-allowed : (w : Window) (a : ℕ) → 32 ≤ a → may_load w a ≡ true → 1 ≤ rights w a
load-allowed w a h allowed = go (load-means w a allowed)
  where
    go : Loading w a → 1 ≤ rights w a
    go (parameter x) = absurd (omega arith)
    go (own x y) = in-second 1 (over 2 w.mark w.ceiling a) _ (over 1 w.from w.to a) (let z = (known 1 w.mark w.hi a).inner x y in omega arith)
    go (given x y) = in-third 1 (over 2 w.mark w.ceiling a) (over 1 w.mark w.hi a) _ (let z = (known 1 w.from w.to a).inner x y in omega arith)

pub load-refused : (w : Window) (a : ℕ) → Fits w → may_load w a ≡ false → (32 ≤ a) × (rights w a ≡ 0)
load-refused w a f h = (go (dec_lt a 32), omega (arith, all_three _ _ _ 0 (nothing (seen 2 w.mark w.ceiling a)) (held (seen 1 w.mark w.hi a)) (read (seen 1 w.from w.to a))))
  where
    go : Dec (a < 32) → 32 ≤ a
    go (yes x) = absurd (true≢false (sym (load-parameter w a x) ∙ h))
    go (no x) = omega arith

    held : {n : ℕ} → Seen 1 w.mark w.hi a n → n ≤ 0
    held (inside x y) = absurd (true≢false (sym (load-own w a x y) ∙ h))
    held (before x) = omega arith
    held (behind x) = omega arith

    read : {n : ℕ} → Seen 1 w.from w.to a n → n ≤ 0
    read (inside x y) = absurd (true≢false (sym (load_given w a x y) ∙ h))
    read (before x) = omega arith
    read (behind x) = omega arith

    nothing : {n : ℕ} → Seen 2 w.mark w.ceiling a n → n ≤ 0
    nothing (inside x y) = absurd (true≢false (sym (load-own w a x (omega (arith, f.below))) ∙ h))
    nothing (before x) = omega arith
    nothing (behind x) = omega arith

-- a store that is allowed has a right to write, and one that is refused has none
pub store-allowed : (w : Window) (a : ℕ) → may_store w a ≡ true → 2 ≤ rights w a
store-allowed w a allowed = let m = store-means w a allowed in
    in-first 2 _ (over 1 w.mark w.hi a) (over 1 w.from w.to a) (let z = (known 2 w.mark w.ceiling a).inner m.1 m.2 in omega arith)

pub store-refused : (w : Window) (a : ℕ) → Fits w → may_store w a ≡ false → rights w a ≤ 1
store-refused w a f h = all_three _ _ _ 1 (go (seen 2 w.mark w.ceiling a)) (known 1 w.mark w.hi a).most (known 1 w.from w.to a).most
  where
    go : {n : ℕ} → Seen 2 w.mark w.ceiling a n → n ≤ 1
    go (inside x y) = absurd (true≢false (sym (may-store w a (omega (arith, f.memory, f.behind)) x y) ∙ h))
    go (before x) = omega arith
    go (behind x) = omega arith

pub cut-found : (c : Optional Cut) → is_some c ≡ true → (child : Window) × (rest : Window) × (parts_of c ≡ some (child, rest))
cut-found (Some c) h = (c.child, c.rest, refl)
cut-found None h = absurd (true≢false (sym h))

pub cut-missed : (c : Optional Cut) → is_some c ≡ false → parts_of c ≡ none
cut-missed (Some c) h = absurd (true≢false h)
cut-missed None h = refl

pub share-found : (c : Optional Window) → is_some c ≡ true → (rest : Window) × (shared_of c ≡ some rest)
share-found (Some rest) h = (rest, refl)
share-found None h = absurd (true≢false (sym h))

pub share-missed : (c : Optional Window) → is_some c ≡ false → shared_of c ≡ none
share-missed (Some rest) h = absurd (true≢false h)
share-missed None h = refl

abbrev pub window-tests : WindowTests windows
window-tests = record {
  may_load = may_load;
  may_store = may_store;
  may_cut = may_cut;
  may_share = may_share;
  load-allowed = load-allowed;
  load-refused = load-refused;
  store-allowed = store-allowed;
  store-refused = store-refused;
  cut-refused = λ w e h. cut-missed (cut_at w e) h;
  cut-allowed = λ w e h. cut-found (cut_at w e) h;
  share-refused = λ w x h. share-missed (share_at w x) h;
  share-allowed = λ w x h. share-found (share_at w x) h;
}

pub root-own : Within (rights root_window) (rights (rejoined root_window))
root-own a = omega arith

-- the job of a code, started on these slots in the root's window
abbrev pub root-job : Code → (ℕ → ℕ) → Job
root-job code slots = job windows window-tests code root_window root-fits root-own slots
