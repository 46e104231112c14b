-- All that the print program prints of an input.
use Rattle.std.specs.Prelude.{cond, List, ◌++◌, ℕ, eqb, replicate}
use Rattle.schedule.specs.declared.Entry.{Entry}
use Rattle.schedule.specs.Meaning.{schedule_of, entries_in}
use Rattle.rules.specs.Runs.{run_from, logs_from}
use Rattle.demands.specs.Input.{Input, job_in, start_in, entry_count, refusal_of, answer_of}
use Rattle.reading.specs.Reading.{ends_early, schedule_in}
use Rattle.text.specs.Text.{entry_lines}
use Rattle.transcript.specs.LastLine.{refused_line, last_line}
use Rattle.transcript.specs.Job.{input_in}

-- a run by entries: "Per entry it prints its number from 0 and its log byte", and then the last line
unfoldable pub played_text : Input → List Entry → List ℕ
played_text i es =
    entry_lines 0 (logs_from (job_in i) (start_in i) es)
    ++ last_line (answer_of (run_from (job_in i) (start_in i) es).outcome (run_from (job_in i) (start_in i) es).units)

-- the number of the whole run: its log has a byte for each entry, and so is never too short (`only-early` in proofs/Early)
unfoldable pub number_of_run : Input → List ℕ → ℕ
number_of_run i schedule = refusal_of i schedule (replicate (entry_count (schedule_of schedule)) 0)

-- a run: "or alone `refused` number"
unfoldable pub run_text : Input → List ℕ → List ℕ
run_text i schedule =
    cond (eqb (number_of_run i schedule) 0)
    (played_text i (entries_in (schedule_of schedule)))
    (refused_line (number_of_run i schedule))

-- "Input that ends before the schedule gives `refused 25`", whatever else it says
unfoldable pub text_of : List ℕ → List ℕ
text_of input = cond (ends_early input) (refused_line 25) (run_text (input_in input) (schedule_in input))
