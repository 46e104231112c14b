-- Every entry keeps the tables at their sizes, the count of cores, and the units at most the allowance. Assumes nothing.
use mathlib.Core.Bool.{Bool, true, false, cond}
use mathlib.Core.List.{List, []}
use mathlib.Core.Path.{◌≡◌, refl, ◌∙◌}
use Prim.Native.Nat.{ℕ, ◌+◌, ◌-◌, ◌≤◌}
use native.Mathlib.Omega.{arith}
use lib.ListN.{length, length-set}
use Rattle.image.specs.Layout.{slots_of, arguments_of}
use Rattle.schedule.specs.declared.Entry.{Entry}
use Rattle.stacklets.specs.Tops.{pushed_tops}
use Rattle.stacklets.specs.Frames.{arguments_at, wiped, pushed_words}
use Rattle.stacklets.proofs.Places.{pushed-length, popped-length}
use Rattle.stacklets.proofs.Words.{length-framed, length-pushed}
use Rattle.thread.specs.declared.Thread.{Thread}
use Rattle.thread.specs.declared.Status.{Status}
use Rattle.thread.specs.declared.Status.TheVariants.{Ready, Suspended, Waiting}
use Rattle.thread.specs.Thread.{disconnected, is_root, none}
use Rattle.rules.specs.declared.ForkKind.{ForkKind}
use Rattle.rules.specs.declared.ForkKind.TheVariants.{Called, Queued, Stolen}
use Rattle.rules.specs.State.{Job, State, finished, thread_at}
use Rattle.rules.specs.Update.{set_thread, set_core, set_outcome, enqueue_ready}
use Rattle.rules.specs.Turn.{Turn, turn_at, goes_on}
use Rattle.rules.specs.Leave.{runs, leaves}
use Rattle.rules.specs.Fork.{Asked, asked, born, handed}
use Rattle.rules.specs.Return.{freed, return_to_parent, return_of}
use Rattle.rules.specs.Rules.{entry_of}
use Rattle.rules.specs.Sound.{Sound, Sized}
use Rattle.soundness.proofs.Entries.{Kept, entry-by}

-- a state whose tables are as long as those of another, and whose units stay within the allowance
pub record SameSizes (s s' : State) : Type 0 where
  pub threads : length s'.threads ≡ length s.threads
  pub cores : length s'.cores ≡ length s.cores
  pub tops : length s'.store.tops ≡ length s.store.tops
  pub words : length s'.store.words ≡ length s.store.words
  pub memory : length s'.store.memory ≡ length s.store.memory
  pub count : s'.count ≡ s.count

resized : (j : Job) (s s' : State) → Sized j s → SameSizes s s' → s'.units ≤ j.allowance → Sized j s'
resized j s s' ok f u = record {
  threads = f.threads ∙ ok.threads;
  cores = f.cores ∙ ok.cores;
  tops = f.tops ∙ ok.tops;
  words = f.words ∙ ok.words;
  memory = f.memory ∙ ok.memory;
  some = rw f.count ok.some;
  most = rw f.count ok.most;
  units = u;
}

sizes-trans : (s s' s'' : State) → SameSizes s s' → SameSizes s' s'' → SameSizes s s''
sizes-trans s s' s'' f g = record {
  threads = g.threads ∙ f.threads;
  cores = g.cores ∙ f.cores;
  tops = g.tops ∙ f.tops;
  words = g.words ∙ f.words;
  memory = g.memory ∙ f.memory;
  count = g.count ∙ f.count;
}

-- a thread that leaves its core
leaves-sizes : (c t : ℕ) (status : Status) (s : State) → SameSizes s (leaves c t status s) × ((leaves c t status s).units ≡ s.units)
unfolding leaves
leaves-sizes c t status s = go (thread_at s t).connected
  where
    h : Thread
    h = disconnected status (thread_at s t)

    go : (b : Bool) → SameSizes s (cond b (runs c (thread_at s t).origin.parent (set_thread t h s)) (set_core c none (set_thread t h s)))
        × ((cond b (runs c (thread_at s t).origin.parent (set_thread t h s)) (set_core c none (set_thread t h s))).units ≡ s.units)
    go true = (record { threads = simp length-set; cores = simp length-set; tops = refl; words = refl; memory = refl; count = refl }, refl)
    go false = (record { threads = simp length-set; cores = simp length-set; tops = refl; words = refl; memory = refl; count = refl }, refl)

-- a fork of any kind
born-sizes : (j : Job) (s : State) (kind : ForkKind) (o : Turn) (f : Asked) (n : ℕ) (ns : List ℕ) (x : ℕ) (xs : List ℕ)
    → SameSizes s (born j s kind o f (handed n ns x xs)) × ((born j s kind o f (handed n ns x xs)).units ≡ s.units + o.weight)
unfolding born
born-sizes j s kind o f n ns x xs = go kind
  where
    size : ℕ
    size = slots_of j.image f.routine

    tops : length (pushed_tops s.store.tops x size) ≡ length s.store.tops
    tops = pushed-length s.store.tops x size

    words : length (pushed_words s.store.tops s.store.words x size (arguments_at s.store.words (o.thread.origin.base + f.first) (arguments_of j.image f.routine))) ≡ length s.store.words
    words = length-pushed s.store.tops s.store.words x size (arguments_at s.store.words (o.thread.origin.base + f.first) (arguments_of j.image f.routine))

    go : (kind : ForkKind) → SameSizes s (born j s kind o f (handed n ns x xs)) × ((born j s kind o f (handed n ns x xs)).units ≡ s.units + o.weight)
    go Called = (record { threads = simp length-set; cores = simp length-set; tops = tops; words = words; memory = refl; count = refl }, refl)
    go Queued = (record { threads = simp length-set; cores = refl; tops = tops; words = words; memory = refl; count = refl }, refl)
    go Stolen = (record { threads = simp length-set; cores = simp length-set; tops = tops; words = words; memory = refl; count = refl }, refl)

return-sizes : (j : Job) (s : State) (o : Turn) (v : ℕ) → SameSizes s (return_of j s o v) × ((return_of j s o v).units ≡ s.units + o.weight)
unfolding return_of return_to_parent
return-sizes j s o v = go (is_root o.thread)
  where
    p : ℕ
    p = o.thread.origin.parent

    size : ℕ
    size = slots_of j.image o.thread.origin.routine

    words : length (wiped s.store.words o.thread.origin.base size) ≡ length s.store.words
    words = length-framed s.store.words o.thread.origin.base size []

    go : (b : Bool) → SameSizes s (cond b (set_outcome (finished v) (set_core o.core none (freed j o s))) (return_to_parent j s o p (thread_at s p) v))
        × ((cond b (set_outcome (finished v) (set_core o.core none (freed j o s))) (return_to_parent j s o p (thread_at s p) v)).units ≡ s.units + o.weight)
    go true = (record { threads = simp length-set; cores = simp length-set; tops = popped-length s.store.tops o.thread.origin.base; words = words; memory = refl; count = refl }, refl)
    go false = (record { threads = simp length-set; cores = simp length-set; tops = popped-length s.store.tops o.thread.origin.base; words = length-set (wiped s.store.words o.thread.origin.base size) ((thread_at s p).origin.base + o.thread.origin.result) v ∙ words; memory = refl; count = refl }, refl)

module _ (j : Job) (s : State) (ok : Sound j s) where
  -- nothing is charged, or a weight that the allowance has room for
  free-of-charge : (s' : State) → SameSizes s s' → s'.units ≡ s.units → Sized j s' × SameSizes s s'
  free-of-charge s' f u = (resized j s s' ok.sized f (let z = ok.sized.units in omega arith), f)

  charged : (c t : ℕ) (s' : State) → (turn_at j s c t).weight ≤ j.allowance - s.units → SameSizes s s' → s'.units ≡ s.units + (turn_at j s c t).weight
      → Sized j s' × SameSizes s s'
  charged c t s' paid f u =
      (resized j s s' ok.sized f (rw u (within s.units (turn_at j s c t).weight j.allowance ok.sized.units paid)), f)
    where
      within : (a b n : ℕ) → a ≤ n → b ≤ n - a → a + b ≤ n
      within a b n l m = omega arith

  sized-kept : Kept (λ s'. Sized j s' × SameSizes s s') j s
  sized-kept = record {
    unchanged = (ok.sized, record { threads = refl; cores = refl; tops = refl; words = refl; memory = refl; count = refl });
    fault = λ t n g l e. free-of-charge _ (record { threads = refl; cores = refl; tops = refl; words = refl; memory = refl; count = refl }) refl;
    waiting = λ c t k. let z = leaves-sizes c t Waiting s in free-of-charge _ z.0 z.1;
    sets = λ c t k d v e. charged c t _ k.paid (record { threads = simp length-set; cores = refl; tops = refl; words = simp length-set; memory = refl; count = refl }) refl;
    loads = λ c t k d a e. charged c t _ k.paid (record { threads = simp length-set; cores = refl; tops = refl; words = simp length-set; memory = refl; count = refl }) refl;
    stores = λ c t k a v e. charged c t _ k.paid (record { threads = simp length-set; cores = refl; tops = refl; words = refl; memory = simp length-set; count = refl }) refl;
    goes = λ c t k p e. charged c t _ k.paid (record { threads = simp length-set; cores = refl; tops = refl; words = refl; memory = refl; count = refl }) refl;
    continues = λ c t k e. charged c t _ k.paid (gone-on c t) refl;
    lforks = λ c t k r d a e q n ns x xs f. let z = born-sizes j s Called (turn_at j s c t) (asked r d a e) n ns x xs in charged c t _ k.paid z.0 z.1;
    forks = λ c t k r d a e q n ns x xs f. let z = born-sizes j s Queued (turn_at j s c t) (asked r d a e) n ns x xs in charged c t _ k.paid z.0 z.1;
    joins = λ c t k e. charged c t _ k.paid (record { threads = simp length-set; cores = refl; tops = refl; words = refl; memory = refl; count = refl }) refl;
    suspends = λ c t k e. let z = leaves-sizes c t Suspended (goes_on (turn_at j s c t) s) in charged c t _ k.paid (sizes-trans s (goes_on (turn_at j s c t) s) _ (gone-on c t) z.0) z.1;
    yields = λ c t k e. charged c t _ k.paid (yielded c t) (leaves-sizes c t Ready (goes_on (turn_at j s c t) s)).1;
    returns = λ c t k v e. let z = return-sizes j s (turn_at j s c t) v in charged c t _ k.paid z.0 z.1;
    shares = λ c t k x e. charged c t _ k.paid (record { threads = simp length-set; cores = refl; tops = refl; words = refl; memory = refl; count = refl }) refl;
    takes = λ c t ts k. free-of-charge _ (record { threads = simp length-set; cores = simp length-set; tops = refl; words = refl; memory = refl; count = refl }) refl;
    steals = λ c t k r d a e q n ns x xs f. let z = born-sizes j s Stolen (turn_at j s c t) (asked r d a e) n ns x xs in charged c t _ k.paid z.0 z.1;
    enables = λ t k. free-of-charge _ (record { threads = simp length-set; cores = refl; tops = refl; words = refl; memory = refl; count = refl }) refl;
  }
    where
      gone-on : (c t : ℕ) → SameSizes s (goes_on (turn_at j s c t) s)
      gone-on c t = record { threads = simp length-set; cores = refl; tops = refl; words = refl; memory = refl; count = refl }

      -- the ready queue is no table of a fixed size
      yielded : (c t : ℕ) → SameSizes s (enqueue_ready t (leaves c t Ready (goes_on (turn_at j s c t) s)))
      yielded c t =
          let f = sizes-trans s (goes_on (turn_at j s c t) s) (leaves c t Ready (goes_on (turn_at j s c t) s)) (gone-on c t) (leaves-sizes c t Ready (goes_on (turn_at j s c t) s)).0 in
          record { threads = f.threads; cores = f.cores; tops = f.tops; words = f.words; memory = f.memory; count = f.count }

  -- every entry keeps the sizes
  pub keep-sized : (e : Entry) → Sized j (entry_of j s e).state
  keep-sized e = (entry-by (λ s'. Sized j s' × SameSizes s s') j s sized-kept e).0

  -- and the number of cores
  pub keep-count : (e : Entry) → (entry_of j s e).state.count ≡ s.count
  keep-count e = (entry-by (λ s'. Sized j s' × SameSizes s s') j s sized-kept e).1.count
