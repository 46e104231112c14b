-- What a run tells of its machine, by the machine's tables. Assumes nothing.
use mathlib.Core.List.{List, [], ◌∷◌}
use mathlib.Core.Path.{◌≡◌, refl, sym, ap, ◌∙◌}
use Prim.Native.Nat.{ℕ, zero, suc, ◌+◌, ◌*◌, ◌/◌, ◌%◌, ◌<◌}
use native.Mathlib.Nat.{mod-eq_of_lt}
use native.Mathlib.Omega.{arith}
use lib.ListN.{length, get_or, take, length-take, replicate, length-replicate}
use lib.Seq.{ext_get_or, get_or-take}
use Rattle.thread.specs.declared.Thread.{Thread}
use Rattle.thread.specs.Thread.{status_number, blank_thread}
use Rattle.cells.specs.Record.{record_at}
use Rattle.cells.proofs.Laws.{record_same}
use Rattle.census.specs.Table.{records_of, records_up_to}
use Rattle.census.proofs.Counting.{long, record_of}
use Rattle.rules.specs.State.{thread_at}
use Rattle.tables.specs.Meaning.{size, meaning}
use Rattle.tables.specs.Change.{Reads}
use Rattle.tables.proofs.Meaning.{thread-is, threads-long}
use Rattle.tables.proofs.Zeros.{zeros}
use Rattle.demands.specs.declared.RunAnswer.{RunAnswer}
use Rattle.run.specs.declared.Shown.{Shown}
use Rattle.run.specs.Machine.{statuses_of, MachineIs, ShownBy}

-- the bytes of the thread table hold the machine's records
module _ (xs words memory : List ℕ) (l : length xs ≡ size) where
  first-bytes : length (take 768 xs) ≡ 768
  first-bytes = simp length-take (omega arith)

  same-record : (t : ℕ) → t < 32 → record_at (take 768 xs) (24 * t) ≡ record_at xs (24 * t)
  same-record t h = record_same xs (take 768 xs) (24 * t) (24 * t) (λ k b. get_or-take 768 xs (24 * t + k) 0 (omega arith))

  pub table-read : records_of (take 768 xs) ≡ (meaning xs words memory).threads
  table-read =
      let many : length (take 768 xs) / 24 ≡ 32 = ap (λ (n : ℕ). n / 24) first-bytes in
      rw many
      (ext_get_or blank_thread (records_up_to (take 768 xs) 32) (meaning xs words memory).threads (long (take 768 xs) 32 ∙ sym (threads-long xs words memory))
      (λ t h. let b : t < 32 = omega (arith, h, long (take 768 xs) 32) in record_of (take 768 xs) 32 t b ∙ same-record t b ∙ thread-is xs words memory t b))

-- the statuses, one by one
statuses-long : (threads : List Thread) → length (statuses_of threads) ≡ length threads
unfolding statuses_of
statuses-long [] = refl
statuses-long (h ∷ threads) = ap suc (statuses-long threads)

status-at : (threads : List Thread) (t : ℕ) → get_or (statuses_of threads) t 0 ≡ status_number (get_or threads t blank_thread).status
unfolding statuses_of
status-at [] t = refl
status-at (h ∷ threads) zero = refl
status-at (h ∷ threads) (suc t) = status-at threads t

-- v is the status number of record t
abbrev pub Told : List ℕ → ℕ → ℕ → Type 0
Told xs t v = Reads xs v (λ s. status_number (thread_at s (t % 32)).status) 0

pub told-status : (xs : List ℕ) (t v : ℕ) (h : Thread) → Reads xs h (λ s. thread_at s (t % 32)) blank_thread → v ≡ status_number h.status → Told xs t v
told-status xs t v h e f = record {
  means = λ l words memory. f ∙ ap (λ (x : Thread). status_number x.status) (e.means l words memory);
  other = λ n. f ∙ ap (λ (x : Thread). status_number x.status) (e.other n);
}

pub told-all : (xs all : List ℕ) → length all ≡ 32 → ((t : ℕ) → t < 32 → Told xs t (get_or all t 0)) → Reads xs all (λ s. statuses_of s.threads) (replicate 32 0)
told-all xs all wide f = record {
  means = λ l words memory.
      ext_get_or 0 all (statuses_of (meaning xs words memory).threads) (wide ∙ sym (statuses-long _ ∙ threads-long xs words memory))
      (λ t h. (f t (omega arith)).means l words memory
      ∙ ap (λ (k : ℕ). status_number (thread_at (meaning xs words memory) k).status) (mod-eq_of_lt (omega arith))
      ∙ sym (status-at (meaning xs words memory).threads t));
  other = λ n. ext_get_or 0 all (replicate 32 0) (wide ∙ sym (length-replicate {A = ℕ} 32 0)) (λ t h. (f t (omega arith)).other n ∙ sym (zeros 32 t));
}

-- counts, statuses and words together
pub machine-shown : (xs words memory : List ℕ) (answer : RunAnswer) (r : Shown) → length xs ≡ size → ShownBy answer xs r → MachineIs (meaning xs words memory) r.counts r.statuses words
unfolding meaning
machine-shown xs words memory answer r l shown =
    record { counts = shown.counts.means l words memory; statuses = shown.statuses.means l words memory; words = refl }
