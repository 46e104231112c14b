-- A store changes one part of what the tables mean: it is the small update of the same name. Assumes nothing.
use Rattle.std.proofs.Common.{◌≡◌, ℕ, zero, suc, ◌+◌, ◌*◌, ◌<◌, ◌≤◌, ◌⊎◌, List, length, get_or, set, sym, refl, ap, ◌∙◌, inl, inr, ⊎_elim, zero-add, arith}
use lib.ListN.{get_or-eq_default}
use Rattle.queue.specs.declared.Queue.{Queue}
use Rattle.queue.specs.Contents.{contents}
use Rattle.stacklets.specs.declared.Stacklets.{Stacklets}
use Rattle.stacklets.specs.Tops.{tops_of}
use Rattle.thread.specs.declared.Thread.{Thread}
use Rattle.thread.specs.Thread.{blank_thread}
use Rattle.cells.specs.Record.{record_at}
use Rattle.cells.proofs.Laws.{record_same}
use Rattle.rules.specs.State.{Outcome, thread_at, on_core}
use Rattle.rules.specs.Update.{set_thread, set_core, set_tops, set_free_threads, set_free_stacklets, set_ready, set_outcome}
use Rattle.tables.specs.Cells.{from, Outside}
use Rattle.tables.specs.Change.{queue_of, set_queue, set_units, set_count}
use Rattle.tables.specs.Meaning.{threads_in, cores_in, units_in, outcome_in, stacklets_in, queue_in, place_of, meaning}
use Rattle.tables.specs.declared.lines.Line.{Line}
use Rattle.tables.specs.declared.lines.Line.TheVariants.{FreeThreads, FreeStacklets, Ready}
use Rattle.tables.proofs.Runs.{length_from, get_or-from, from-same, from-set, clear}

-- what lies apart from the cells that change stays
module _ (xs ys : List ℕ) (a n : ℕ) (o : Outside xs ys a n) where
  pub record-stays : (b : ℕ) → (a + n ≤ b) ⊎ (b + 24 ≤ a) → record_at ys b ≡ record_at xs b
  record-stays b d = record_same xs ys b b (λ k h. o (b + k) (clear a n b 24 (b + k) d (omega arith) (omega arith)))

  pub threads-stay : 768 ≤ a → threads_in ys ≡ threads_in xs
  unfolding threads_in
  threads-stay h = from-same 0 32 _ _ (λ t l m. record-stays (24 * t) (inr (omega arith)))

  run-stays : (b m : ℕ) → (a + n ≤ b) ⊎ (b + m ≤ a) → from 0 m (λ i. get_or ys (b + i) 0) ≡ from 0 m (λ i. get_or xs (b + i) 0)
  run-stays b m d = from-same 0 m _ _ (λ i l h. o (b + i) (clear a n b m (b + i) d (omega arith) (omega arith)))

  pub cores-stay : (a + n ≤ 768) ⊎ (772 ≤ a) → cores_in ys ≡ cores_in xs
  unfolding cores_in
  cores-stay d = run-stays 768 4 d

  pub stacklets-stay : (a + n ≤ 786) ⊎ (802 ≤ a) → stacklets_in ys ≡ stacklets_in xs
  unfolding stacklets_in
  stacklets-stay d = rw (run-stays 786 16 d)

  pub queue-stays : (b : ℕ) → (a + n ≤ b) ⊎ (b + 34 ≤ a) → queue_in ys b ≡ queue_in xs b
  unfolding queue_in
  queue-stays b d =
      rw (run-stays b 32 (⊎_elim (λ p. inl p) (λ p. inr (omega arith)) d), o (b + 32) (clear a n b 34 (b + 32) d (omega arith) (omega arith)), o (b + 33) (clear a n b 34 (b + 33) d (omega arith) (omega arith)))

  pub cell_stays : (b : ℕ) → (a + n ≤ b) ⊎ (b + 1 ≤ a) → get_or ys b 0 ≡ get_or xs b 0
  cell_stays b d = o b (clear a n b 1 b d (omega arith) (omega arith))

  pub units-stay : (a + n ≤ 772) ⊎ (776 ≤ a) → units_in ys ≡ units_in xs
  unfolding units_in
  units-stay d =
      rw (o 772 (clear a n 772 4 772 d (omega arith) (omega arith)), o 773 (clear a n 772 4 773 d (omega arith) (omega arith)), o 774 (clear a n 772 4 774 d (omega arith) (omega arith)), o 775 (clear a n 772 4 775 d (omega arith) (omega arith)))

  pub outcome-stays : (a + n ≤ 777) ⊎ (786 ≤ a) → outcome_in ys ≡ outcome_in xs
  unfolding outcome_in
  outcome-stays d =
      let f : (k : ℕ) → k < 9 → get_or ys (777 + k) 0 ≡ get_or xs (777 + k) 0 = λ k h. o (777 + k) (clear a n 777 9 (777 + k) d (omega arith) (omega arith)) in
      rw (f 0 (omega arith), f 1 (omega arith), f 2 (omega arith), f 3 (omega arith), f 4 (omega arith), f 5 (omega arith), f 6 (omega arith), f 7 (omega arith), f 8 (omega arith))

-- two records lie apart
far : (j t : ℕ) → (j ≡ t → ⊥) → (24 * t + 24 ≤ 24 * j) ⊎ (24 * j + 24 ≤ 24 * t)
far zero zero n = absurd (n refl)
far zero (suc u) n = inr (omega arith)
far (suc i) zero n = inl (omega arith)
far (suc i) (suc u) n = ⊎_elim (λ p. inl (omega arith)) (λ p. inr (omega arith)) (far i u (λ z. n (ap suc z)))

threads-put : (xs ys : List ℕ) (t : ℕ) (h : Thread) → t < 32 → Outside xs ys (24 * t) 24 → record_at ys (24 * t) ≡ h → threads_in ys ≡ set (threads_in xs) t h
unfolding threads_in
threads-put xs ys t h l o e =
    from-set 0 32 t _ _ h l (ap (λ (k : ℕ). record_at ys (24 * k)) (zero-add t) ∙ e)
    (λ j p q ne. record-stays xs ys (24 * t) 24 o (24 * j) (far j t (λ z. ne (z ∙ sym (zero-add t)))))

cores-put : (xs ys : List ℕ) (c t : ℕ) → c < 4 → Outside xs ys (768 + c) 1 → get_or ys (768 + c) 0 ≡ t → cores_in ys ≡ set (cores_in xs) c t
unfolding cores_in
cores-put xs ys c t l o e =
    from-set 0 4 c _ _ t l (ap (λ (k : ℕ). get_or ys (768 + k) 0) (zero-add c) ∙ e) (λ j p q ne. o (768 + j) (beside j c (λ z. ne (z ∙ sym (zero-add c)))))
  where
    beside : (j c : ℕ) → (j ≡ c → ⊥) → (768 + j < 768 + c) ⊎ (768 + c + 1 ≤ 768 + j)
    beside zero zero n = absurd (n refl)
    beside zero (suc u) n = inl (omega arith)
    beside (suc i) zero n = inr (omega arith)
    beside (suc i) (suc u) n = ⊎_elim (λ p. inl (omega arith)) (λ p. inr (omega arith)) (beside i u (λ z. n (ap suc z)))

module _ (xs ys words memory : List ℕ) where
  -- a thread's record
  pub thread-put : (t : ℕ) (h : Thread) → t < 32 → Outside xs ys (24 * t) 24 → record_at ys (24 * t) ≡ h
      → meaning ys words memory ≡ set_thread t h (meaning xs words memory)
  unfolding meaning
  thread-put t h l o e =
      rw (threads-put xs ys t h l o e, cores-stay xs ys (24 * t) 24 o (inl (omega arith)), cell_stays xs ys (24 * t) 24 o 776 (inl (omega arith)), stacklets-stay xs ys (24 * t) 24 o (inl (omega arith)), queue-stays xs ys (24 * t) 24 o 802 (inl (omega arith)), queue-stays xs ys (24 * t) 24 o 836 (inl (omega arith)), queue-stays xs ys (24 * t) 24 o 870 (inl (omega arith)), units-stay xs ys (24 * t) 24 o (inl (omega arith)), outcome-stays xs ys (24 * t) 24 o (inl (omega arith)))

  -- the thread on a core
  pub core-put : (c t : ℕ) → c < 4 → Outside xs ys (768 + c) 1 → get_or ys (768 + c) 0 ≡ t → meaning ys words memory ≡ set_core c t (meaning xs words memory)
  unfolding meaning
  core-put c t l o e =
      rw (threads-stay xs ys (768 + c) 1 o (omega arith), cores-put xs ys c t l o e, cell_stays xs ys (768 + c) 1 o 776 (inl (omega arith)), stacklets-stay xs ys (768 + c) 1 o (inl (omega arith)), queue-stays xs ys (768 + c) 1 o 802 (inl (omega arith)), queue-stays xs ys (768 + c) 1 o 836 (inl (omega arith)), queue-stays xs ys (768 + c) 1 o 870 (inl (omega arith)), units-stay xs ys (768 + c) 1 o (inl (omega arith)), outcome-stays xs ys (768 + c) 1 o (inl (omega arith)))

  -- the units
  pub units-put : (u : ℕ) → Outside xs ys 772 4 → units_in ys ≡ u → meaning ys words memory ≡ set_units u (meaning xs words memory)
  unfolding meaning
  units-put u o e =
      rw (threads-stay xs ys 772 4 o (omega arith), cores-stay xs ys 772 4 o (inr (omega arith)), cell_stays xs ys 772 4 o 776 (inl (omega arith)), stacklets-stay xs ys 772 4 o (inl (omega arith)), queue-stays xs ys 772 4 o 802 (inl (omega arith)), queue-stays xs ys 772 4 o 836 (inl (omega arith)), queue-stays xs ys 772 4 o 870 (inl (omega arith)), e, outcome-stays xs ys 772 4 o (inl (omega arith)))

  -- the number of cores
  pub count-put : (n : ℕ) → Outside xs ys 776 1 → get_or ys 776 0 ≡ n → meaning ys words memory ≡ set_count n (meaning xs words memory)
  unfolding meaning
  count-put n o e =
      rw (threads-stay xs ys 776 1 o (omega arith), cores-stay xs ys 776 1 o (inr (omega arith)), e, stacklets-stay xs ys 776 1 o (inl (omega arith)), queue-stays xs ys 776 1 o 802 (inl (omega arith)), queue-stays xs ys 776 1 o 836 (inl (omega arith)), queue-stays xs ys 776 1 o 870 (inl (omega arith)), units-stay xs ys 776 1 o (inr (omega arith)), outcome-stays xs ys 776 1 o (inl (omega arith)))

  -- the outcome
  pub outcome-put : (v : Outcome) → Outside xs ys 777 9 → outcome_in ys ≡ v → meaning ys words memory ≡ set_outcome v (meaning xs words memory)
  unfolding meaning
  outcome-put v o e =
      rw (threads-stay xs ys 777 9 o (omega arith), cores-stay xs ys 777 9 o (inr (omega arith)), cell_stays xs ys 777 9 o 776 (inr (omega arith)), stacklets-stay xs ys 777 9 o (inl (omega arith)), queue-stays xs ys 777 9 o 802 (inl (omega arith)), queue-stays xs ys 777 9 o 836 (inl (omega arith)), queue-stays xs ys 777 9 o 870 (inl (omega arith)), units-stay xs ys 777 9 o (inr (omega arith)), e)

  -- the stacklets' tops
  pub stacklets-put : (s : Stacklets) → Outside xs ys 786 16 → stacklets_in ys ≡ s → meaning ys words memory ≡ set_tops (tops_of s) (meaning xs words memory)
  unfolding meaning
  stacklets-put s o e =
      rw (threads-stay xs ys 786 16 o (omega arith), cores-stay xs ys 786 16 o (inr (omega arith)), cell_stays xs ys 786 16 o 776 (inr (omega arith)), e, queue-stays xs ys 786 16 o 802 (inl (omega arith)), queue-stays xs ys 786 16 o 836 (inl (omega arith)), queue-stays xs ys 786 16 o 870 (inl (omega arith)), units-stay xs ys 786 16 o (inr (omega arith)), outcome-stays xs ys 786 16 o (inr (omega arith)))

  -- the three queues
  free-threads-put : (q : Queue) → Outside xs ys 802 34 → queue_in ys 802 ≡ q → meaning ys words memory ≡ set_free_threads (contents q) (meaning xs words memory)
  unfolding meaning
  free-threads-put q o e =
      rw (threads-stay xs ys 802 34 o (omega arith), cores-stay xs ys 802 34 o (inr (omega arith)), cell_stays xs ys 802 34 o 776 (inr (omega arith)), stacklets-stay xs ys 802 34 o (inr (omega arith)), e, queue-stays xs ys 802 34 o 836 (inl (omega arith)), queue-stays xs ys 802 34 o 870 (inl (omega arith)), units-stay xs ys 802 34 o (inr (omega arith)), outcome-stays xs ys 802 34 o (inr (omega arith)))

  free-stacklets-put : (q : Queue) → Outside xs ys 836 34 → queue_in ys 836 ≡ q → meaning ys words memory ≡ set_free_stacklets (contents q) (meaning xs words memory)
  unfolding meaning
  free-stacklets-put q o e =
      rw (threads-stay xs ys 836 34 o (omega arith), cores-stay xs ys 836 34 o (inr (omega arith)), cell_stays xs ys 836 34 o 776 (inr (omega arith)), stacklets-stay xs ys 836 34 o (inr (omega arith)), queue-stays xs ys 836 34 o 802 (inr (omega arith)), e, queue-stays xs ys 836 34 o 870 (inl (omega arith)), units-stay xs ys 836 34 o (inr (omega arith)), outcome-stays xs ys 836 34 o (inr (omega arith)))

  ready-put : (q : Queue) → Outside xs ys 870 34 → queue_in ys 870 ≡ q → meaning ys words memory ≡ set_ready (contents q) (meaning xs words memory)
  unfolding meaning
  ready-put q o e =
      rw (threads-stay xs ys 870 34 o (omega arith), cores-stay xs ys 870 34 o (inr (omega arith)), cell_stays xs ys 870 34 o 776 (inr (omega arith)), stacklets-stay xs ys 870 34 o (inr (omega arith)), queue-stays xs ys 870 34 o 802 (inr (omega arith)), queue-stays xs ys 870 34 o 836 (inr (omega arith)), e, units-stay xs ys 870 34 o (inr (omega arith)), outcome-stays xs ys 870 34 o (inr (omega arith)))

  pub queue-put : (which : Line) (q : Queue) → Outside xs ys (place_of which) 34 → queue_in ys (place_of which) ≡ q
      → meaning ys words memory ≡ set_queue which (contents q) (meaning xs words memory)
  queue-put FreeThreads = free-threads-put
  queue-put FreeStacklets = free-stacklets-put
  queue-put Ready = ready-put

module _ (xs words memory : List ℕ) where
  pub queue-is : (which : Line) → contents (queue_in xs (place_of which)) ≡ queue_of which (meaning xs words memory)
  unfolding meaning
  queue-is FreeThreads = refl
  queue-is FreeStacklets = refl
  queue-is Ready = refl

  -- what is read
  pub thread-is : (t : ℕ) → t < 32 → record_at xs (24 * t) ≡ thread_at (meaning xs words memory) t
  unfolding meaning threads_in
  thread-is t l = sym (get_or-from 0 32 t _ blank_thread l ∙ ap (λ (k : ℕ). record_at xs (24 * k)) (zero-add t))

  pub core_is : (c : ℕ) → c < 4 → get_or xs (768 + c) 0 ≡ on_core (meaning xs words memory) c
  unfolding meaning cores_in
  core_is c l = sym (get_or-from 0 4 c _ 0 l ∙ ap (λ (k : ℕ). get_or xs (768 + k) 0) (zero-add c))

  -- there are 32 records and 4 cores
  pub threads-long : length (meaning xs words memory).threads ≡ 32
  unfolding meaning threads_in
  threads-long = length_from 0 32 _

  pub core-none : (c : ℕ) → 4 ≤ c → on_core (meaning xs words memory) c ≡ 0
  unfolding meaning cores_in
  core-none c l = get_or-eq_default (cores_in xs) 0 {n = c} (omega (arith, length_from 0 4 (λ k. get_or xs (768 + k) 0)))
