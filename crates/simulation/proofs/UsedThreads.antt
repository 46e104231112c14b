-- Which threads are in use once a thread of a sound state has gone on; and the ready queue's first. Assumes a sound state.
use mathlib.Core.Bool.{true}
use mathlib.Core.List.{List, ◌∷◌}
use mathlib.Core.Path.{◌≡◌, sym, ◌∙◌, ap, subst}
use Prim.Native.Nat.{ℕ}
use native.Mathlib.Omega.{arith}
use lib.Seq.{get_or-set_same}
use Rattle.thread.specs.declared.Thread.{Thread}
use Rattle.thread.specs.Thread.{blank_thread, moved_to}
use Rattle.rules.specs.State.{Job, State, thread_at}
use Rattle.rules.specs.Turn.{turn_at, goes_on}
use Rattle.rules.specs.Lists.{Every}
use Rattle.rules.specs.Sound.{Sound, Used, status_at}
use Rattle.soundness.proofs.EntryCases.{Stepped}
use Rattle.soundness.proofs.ThreadsMet.{runner, linked-parent}
use Rattle.simulation.proofs.StatePool.{used-below}
use Rattle.simulation.proofs.SamePool.{used-set}

module _ (j : Job) (s : State) (ok : Sound j s) where
  pub ready-used : (t : ℕ) (ts : List ℕ) → s.queues.ready ≡ t ∷ ts → Used s t
  ready-used t ts e =
      let f : Every (λ u. status_at s u ≡ 2) (t ∷ ts) = subst (Every (λ u. status_at s u ≡ 2)) e ok.turns.ready in
      let z = f.0 in
      omega arith

  -- the same once thread t has gone on
  module _ (c t : ℕ) (k : Stepped j s c t) where
    abbrev moved : Thread
    moved = moved_to (turn_at j s c t).next (thread_at s t)

    abbrev behind : State
    behind = goes_on (turn_at j s c t) s

    pub still-used : (u : ℕ) → Used s u → Used behind u
    still-used u h = used-set s t moved (used-below s.threads t (runner j s ok c t k)) (runner j s ok c t k) u h

    now : thread_at behind t ≡ moved
    now = get_or-set_same s.threads t moved blank_thread (used-below s.threads t (runner j s ok c t k))

    pub moved-used : Used behind t
    moved-used = still-used t (runner j s ok c t k)

    pub moved-parent : (thread_at behind t).connected ≡ true → Used behind (thread_at behind t).origin.parent
    moved-parent h = subst (λ z. Used behind z.origin.parent) (sym now)
        (still-used (thread_at s t).origin.parent (linked-parent j s ok t (sym (ap (λ z. z.connected) now) ∙ h)))
