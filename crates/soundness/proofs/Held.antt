-- The six parts of soundness that are about threads, cores and queues, together (`Held`), with the table sizes they need; and what is
-- left to show of a change that starts and ends no thread (`held-living`). Assumes nothing.
use mathlib.Core.List.{List}
use mathlib.Core.Logic.{◌⊎◌, inr}
use mathlib.Core.Path.{◌≡◌, refl}
use Prim.Native.Nat.{ℕ, ◌<◌, ◌≤◌}
use native.Mathlib.Decide.{dec_lt}
use native.Mathlib.Omega.{arith}
use lib.ListN.{length}
use Rattle.thread.specs.declared.Thread.{Thread}
use Rattle.rules.specs.State.{Job, State, thread_at}
use Rattle.rules.specs.Sound.{Seats, Links, Turns, Tree, Results, FreeThreads, Sound}
use Rattle.soundness.proofs.Changes.{standing}
use Rattle.soundness.proofs.CoreSeats.{Same}
use Rattle.soundness.proofs.LineNumbers.{Lined, lined-same, lined-turns, lined-free, free-lined}
use Rattle.soundness.proofs.ForkTree.{Unfinished, Childless, Stays, stays-refl, stays-free, tree-same}
use Rattle.soundness.proofs.ResultSlots.{Pends, results-living}

pub record Held (s : State) : Type 0 where
  pub many : length s.threads ≡ 32
  pub wide : s.count ≤ length s.cores
  pub seats : Seats s
  pub links : Links s
  pub turns : Turns s
  pub tree : Tree s
  pub results : Results s
  pub free_threads : FreeThreads s

-- a sound state has them
pub sound-held : (j : Job) (s : State) → Sound j s → Held s
sound-held j s ok = record {
  many = ok.sized.threads;
  wide = (let a = ok.sized.most in let b = ok.sized.cores in omega arith);
  seats = ok.seats;
  links = ok.links;
  turns = ok.turns;
  tree = ok.tree;
  results = ok.results;
  free_threads = ok.free_threads;
}

-- a thread that lives on: the same parent, result slot and children, in use as before, and its pending slots stay where they matter
pub record Lives (s : State) (u : ℕ) (h h' : Thread) : Type 0 where
  pub stays : Stays h h'
  pub children : h'.family.children ≡ h.family.children
  pub pends : Childless s u ⊎ Pends h h'

pub lives-refl : (s : State) → Held s → (u : ℕ) → Lives s u (thread_at s u) (thread_at s u)
lives-refl s ok u = record { stays = stays-refl s ok.tree u; children = refl; pends = inr (λ k e. e) }

pub same-free : (h h' : Thread) → Stays h h' → Same 0 h h'
same-free h h' k = record { to = stays-free h h' k; from = λ e. go e (dec_lt 0 (standing h)) }
  where
    go : standing h' ≡ 0 → Dec (0 < standing h) → standing h ≡ 0
    go e (yes l) = absurd (let z = k.to l in omega arith)
    go e (no n) = omega arith

-- no thread starts or ends
pub held-living : (s s' : State) → Held s → length s'.threads ≡ 32 → s'.count ≤ length s'.cores → s'.queues.free_threads ≡ s.queues.free_threads
    → Unfinished s → Unfinished s'
    → Seats s' → Links s' → (ready : List ℕ) → s'.queues.ready ≡ ready → Lined 2 s' ready → ((u : ℕ) → Lives s u (thread_at s u) (thread_at s' u)) → Held s'
held-living s s' ok many wide free over over' seats links ready line lined view = record {
  many = many;
  wide = wide;
  seats = seats;
  links = links;
  turns = lined-turns s' many ready line lined;
  tree = tree-same s s' ok.tree (λ o. over) (λ v e. absurd (over' v e)) (λ u. (view u).stays) (λ u. (view u).children);
  results = results-living s s' ok.results (λ u h. (view u).stays) (λ u. (view u).pends);
  free_threads = lined-free s' s.queues.free_threads free (lined-same 0 s s' s.queues.free_threads (free-lined s ok.free_threads)
      (λ u. same-free (thread_at s u) (thread_at s' u) (view u).stays));
}
