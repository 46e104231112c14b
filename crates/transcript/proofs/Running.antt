-- From what a run promises to the text of it: the lines of the log that it wrote, and its last line. Assumes nothing.
use mathlib.Core.Bool.{Bool, true, false}
use mathlib.Core.List.{List, [], ◌∷◌, ◌++◌}
use mathlib.Core.Path.{◌≡◌, refl, ap, sym, ◌∙◌}
use Prim.Native.Nat.{ℕ, ◌+◌, ◌*◌, ◌-◌, ◌≤◌}
use native.Mathlib.Nat.{sub-zero}
use native.Mathlib.Omega.{arith}
use borrow.Author.Tests.{le-ltb, ne_eqb, eqb-true, eqb-false}
use lib.Dec.{eqb}
use lib.ListN.{length, take, drop, replicate, length-append, length-replicate, length-take}
use lib.Seq.{take_all, take_at}
use Rattle.schedule.proofs.Standing.{two_bytes}
use Rattle.schedule.specs.Meaning.{Schedule, schedule_of, counted_of, Counts}
use Rattle.schedule.specs.declared.Entry.{Entry}
use Rattle.schedule.proofs.Following.{Accepted, accepted}
use Rattle.schedule.specs.Format.{bytes_of_entries}
use Rattle.rules.specs.State.{Outcome, going, finished, faulted}
use Rattle.rules.proofs.Laws.{logs-many}
use Rattle.rules.specs.Runs.{run_from, logs_from}
use Rattle.demands.specs.declared.RunAnswer.{RunAnswer}
use Rattle.demands.specs.declared.RunAnswer.TheVariants.{Refused, Finished, Faulted, Open}
use Rattle.demands.specs.Input.{Input, job_in, start_in, entry_count, tests_of, refusal_of, answer_of, number_of_run_refusal}
use Rattle.demands.specs.declared.RunRefusal.{RunRefusal}
use Rattle.demands.proofs.Tests.{failing}
use Rattle.run.specs.declared.Ran.{Ran}
use Rattle.run.specs.Run.{RunsAs, IsPlayed}
use Rattle.text.specs.Text.{entry_lines}
use Rattle.text.specs.Buffer.{Put, Fills}
use Rattle.text.proofs.Writing.{followed, same_text}
use Rattle.transcript.specs.LastLine.{refused_line, last_line}
use Rattle.transcript.specs.Transcript.{played_text, number_of_run, run_text}
use Rattle.transcript.specs.Parts.{lines_of}
use Rattle.std.proofs.Common.{Result, Ok, Err}
use Rattle.std.specs.Result.{result_unwrap_or}
use Rattle.schedule.specs.declared.Malformed.{Malformed}

twice_as_many : (es : List Entry) → 2 * length es ≤ length (bytes_of_entries es)
unfolding bytes_of_entries
twice_as_many [] = omega arith
twice_as_many (e ∷ es) = simp length-append (omega (arith, two_bytes e, twice_as_many es))

most : (s : List ℕ) (x : Schedule) → schedule_of s ≡ x → entry_count x ≤ 16384
most s (Ok es) h =
    let a : Accepted s es = accepted s es h in
    omega (arith, ap length a.bytes, a.short, twice_as_many es)
most s (Err _) h = omega arith

-- a schedule has at most 16,384 entries, half as many as its most bytes
pub most-entries : (s : List ℕ) → entry_count (schedule_of s) ≤ 16384
most-entries s = most s (schedule_of s) refl

most-of : (answer : RunAnswer) (x : Schedule) → entry_count x ≤ 16384 → lines_of answer x ≤ 16384
unfolding lines_of
most-of (Refused why) x h = omega arith
most-of (Finished v u) x h = h
most-of (Faulted n t o) x h = h
most-of (Open u) x h = h

most-lines : (answer : RunAnswer) (s : List ℕ) (n : ℕ) → n ≡ lines_of answer (schedule_of s) → n ≤ 16384
most-lines answer s n h = omega (arith, most-of answer (schedule_of s) (most-entries s))

-- a log of 16,384 bytes has one for each line, also after a run, which keeps its length
pub enough-log : (answer : RunAnswer) (s : List ℕ) (n : ℕ) → n ≡ lines_of answer (schedule_of s) → (before after : List ℕ) → length before ≡ 16384 → length after ≡ length before
    → n ≤ length after
enough-log answer s n h before after l k = omega (arith, most-lines answer s n h)

-- the count of a schedule's entries, and 0 of one that is malformed
count-or : (x : Schedule) → result_unwrap_or (counted_of x) 0 ≡ entry_count x
count-or (Ok es) = refl
count-or (Err _) = refl

pub counted : (s : List ℕ) (r : Result ℕ Malformed) (n : ℕ) → Counts s r → n ≡ result_unwrap_or r 0 → n ≡ entry_count (schedule_of s)
counted s r n h e = e ∙ ap (λ (x : Result ℕ Malformed). result_unwrap_or x 0) h.is ∙ count-or (schedule_of s)

-- a log with room for the entries has no part in the whole run's number
same_number : (i : Input) (s log : List ℕ) → length log ≡ 16384 → refusal_of i s log ≡ number_of_run i s
unfolding refusal_of tests_of number_of_run
same_number i s log h =
    let a : entry_count (schedule_of s) ≤ length log = omega (arith, most-entries s) in
    let room : List ℕ = replicate (entry_count (schedule_of s)) 0 in
    let b : entry_count (schedule_of s) ≤ length room = omega (arith, length-replicate {A = ℕ} (entry_count (schedule_of s)) 0) in
    rw (le-ltb (length log) (entry_count (schedule_of s)) a, le-ltb (length room) (entry_count (schedule_of s)) b)

-- a run by entries has a line for each
lines-played : (o : Outcome) (u : ℕ) (es : List Entry) → lines_of (answer_of o u) (Ok es) ≡ length es
unfolding lines_of
lines-played going u es = refl
lines-played (finished v) u es = refl
lines-played (faulted n t o) u es = refl

text-played : (i : Input) (s : List ℕ) (es : List Entry) → number_of_run i s ≡ 0 → schedule_of s ≡ Ok es → run_text i s ≡ played_text i es
unfolding run_text
text-played i s es n m = rw (n, m)

text-refused : (i : Input) (s : List ℕ) → (number_of_run i s ≡ 0 → ⊥) → run_text i s ≡ refused_line (number_of_run i s)
unfolding run_text
text-refused i s n = rw (ne_eqb (number_of_run i s) 0 n)

-- the log and the answer of a run by entries, as lines
lines-of-played : (i : Input) (es : List Entry) (log : List ℕ) (r : Ran) (memory_after logAfter : List ℕ) → IsPlayed i es log r memory_after logAfter → (count : ℕ)
    → count ≡ lines_of r.shown.answer (Ok es) → entry_lines 0 (take count logAfter) ++ last_line r.shown.answer ≡ played_text i es
unfolding played_text
lines-of-played i es log r memory_after logAfter p count h =
    let logs : List ℕ = logs_from (job_in i) (start_in i) es in
    let n : count ≡ length es = h ∙ ap (λ (a : RunAnswer). lines_of a (Ok es)) p.answer ∙ lines-played (run_from (job_in i) (start_in i) es).outcome (run_from (job_in i) (start_in i) es).units es in
    let k : length logs ≡ count = logs-many (job_in i) (start_in i) es ∙ sym n in
    let t : take count logAfter ≡ logs = ap (take count) p.log ∙ take_at logs (drop (length logs) log) count k in
    ap (λ (l : List ℕ). entry_lines 0 l ++ last_line r.shown.answer) t ∙ ap (λ (a : RunAnswer). entry_lines 0 logs ++ last_line a) p.answer

lines-of-refused : (why : RunRefusal) (a : RunAnswer) (x : Schedule) (logAfter : List ℕ) (count : ℕ) → a ≡ Refused why → count ≡ lines_of a x
    → entry_lines 0 (take count logAfter) ++ last_line a ≡ refused_line (number_of_run_refusal why)
unfolding entry_lines lines_of
lines-of-refused why a x logAfter count h k =
    let z : count ≡ 0 = k ∙ ap (λ (y : RunAnswer). lines_of y x) h in
    rw (z, h)

module _ (i : Input) (s log : List ℕ) (roomy : length log ≡ 16384) (r : Ran) (memory_after logAfter : List ℕ) (runs : RunsAs i s log r memory_after logAfter)
    (count : ℕ) (counts : count ≡ lines_of r.shown.answer (schedule_of s)) where
  -- what is written of a run is its text
  written-by : (t : Bool) → eqb (refusal_of i s log) 0 ≡ t → entry_lines 0 (take count logAfter) ++ last_line r.shown.answer ≡ run_text i s
  written-by true h =
      let z : refusal_of i s log ≡ 0 = eqb-true (refusal_of i s log) 0 h in
      let p = runs.played z in
      lines-of-played i p.0 log r memory_after logAfter p.2 count (counts ∙ ap (lines_of r.shown.answer) p.1)
      ∙ sym (text-played i s p.0 (sym (same_number i s log roomy) ∙ z) p.1)
  written-by false h =
      let z : refusal_of i s log ≡ 0 → ⊥ = eqb-false (refusal_of i s log) 0 h in
      let tells = (runs.refused z).answer in
      lines-of-refused tells.why r.shown.answer (schedule_of s) logAfter count tells.refused counts
      ∙ ap refused_line (sym (failing i s log tells.first) ∙ same_number i s log roomy)
      ∙ sym (text-refused i s (λ e. z (same_number i s log roomy ∙ e)))

  -- the bytes that get lines are all that the run has written
  all_shown : take 16384 (take (count - 0) logAfter) ≡ take count logAfter
  all_shown =
      rw (sub-zero count) (take_all 16384 (take count logAfter) (omega (arith, length-take count logAfter, most-lines r.shown.answer s count counts)))

  pub written : {b m e : List ℕ} {at end : ℕ} → Fills (entry_lines 0 (take 16384 (take (count - 0) logAfter))) b 163840 at m → Put (last_line r.shown.answer) m at end e × (end ≤ at + 31) → Fills (run_text i s) b 163871 end e
  written p q = record {
    put = same_text (written-by (eqb (refusal_of i s log) 0) refl) (followed (same_text (ap (entry_lines 0) all_shown) p.put) q.0);
    few = omega (arith, p.few, q.1);
  }
