-- A schedule's entries one after another: what is left, from the present state on, gives what the whole gives from the first state, and
-- every state on the way is sound. Assumes nothing.
use mathlib.Core.Bool.{false}
use mathlib.Core.List.{List, [], ◌∷◌, ◌++◌, append-nil, append_assoc}
use mathlib.Core.Path.{◌≡◌, refl, sym, ap, subst, ◌∙◌}
use Prim.Native.Nat.{ℕ, zero, suc, ◌+◌, ◌-◌, ◌*◌, ◌≤◌, ◌<◌}
use native.Mathlib.Numerals.{add-one}
use native.Mathlib.Nat.{zero-add, suc-add}
use native.Mathlib.Omega.{arith}
use lib.ListN.{length, take, drop, set, replicate, length-append, length-replicate}
use Rattle.schedule.specs.declared.Entry.{Entry}
use Rattle.schedule.specs.declared.Entry.TheVariants.{Step, Take, Steal, Enable}
use Rattle.schedule.specs.Format.{entry_at}
use Rattle.reader.specs.Row.{StepsRow}
use Rattle.rules.specs.State.{Job, State, After}
use Rattle.rules.specs.Rules.{entry_of}
use Rattle.rules.specs.Sound.{Sound}
use Rattle.rules.specs.Runs.{run_from, logs_from, logged}
use Rattle.rules.proofs.Laws.{run-append, logs-many}
use Rattle.soundness.proofs.Kept.{entries-sound}
use Rattle.entries.specs.Repeat.{is_step}
use Rattle.play.specs.Entries.{leading, playable, Played}
use Rattle.play.specs.Rows.{LogsOn, RowPlayed}
use Rattle.play.proofs.Leading.{leads-found, leads-row}
use Rattle.play.proofs.Rowing.{logs-append, put_on}
use Rattle.std.proofs.Common.{Some, Ok}

-- k entries have been met, and the log has a byte for each
pub record Left (j : Job) (s₀ : State) (schedule log₀ : List ℕ) (s : State) (at k : ℕ) (logNow : List ℕ) : Type 0 where
  pub sound : Sound j s
  pub within : k ≤ length log₀
  pub state : run_from j s (take (length log₀ - k) (leading (drop at schedule))) ≡ run_from j s₀ (playable schedule log₀)
  pub done : List ℕ
  pub many : length done ≡ k
  pub logs : done ++ logs_from j s (take (length log₀ - k) (leading (drop at schedule))) ≡ logs_from j s₀ (playable schedule log₀)
  pub log : logNow ≡ logged log₀ done

take-over : (es fs : List Entry) (n : ℕ) → take (length es + n) (es ++ fs) ≡ es ++ take n fs
take-over [] fs n = ap (λ (k : ℕ). take k fs) (zero-add n)
take-over (e ∷ es) fs n = ap (λ (k : ℕ). take k (e ∷ es ++ fs)) (suc-add (length es) n) ∙ ap (λ (l : List Entry). e ∷ l) (take-over es fs n)

abbrev none : List Entry
none = []

take_none : (n : ℕ) → take n [] ≡ none
take_none zero = refl
take_none (suc n) = refl

module _ (j : Job) (s₀ : State) (schedule log₀ : List ℕ) where
  pub begins : Sound j s₀ → Left j s₀ schedule log₀ s₀ 0 0 log₀
  begins ok =
      let whole : length log₀ - 0 ≡ length log₀ = omega arith in
      record {
        sound = ok;
        within = omega arith;
        state = ap (λ (n : ℕ). run_from j s₀ (take n (leading schedule))) whole;
        done = [];
        many = refl;
        logs = ap (λ (n : ℕ). logs_from j s₀ (take n (leading schedule))) whole;
        log = refl;
      }

  module _ (s : State) (at k : ℕ) (log : List ℕ) (left : Left j s₀ schedule log₀ s at k log) where
    -- entries are met
    pub goes : (es : List Entry) (next : ℕ) (s' : State) (log' : List ℕ) → leading (drop at schedule) ≡ es ++ leading (drop next schedule)
        → k + length es ≤ length log₀ → s' ≡ run_from j s es → LogsOn log k (logs_from j s es) log' → Left j s₀ schedule log₀ s' next (k + length es) log'
    goes es next s' log' here room is on =
        let rest = take (length log₀ - (k + length es)) (leading (drop next schedule)) in
        let count : length log₀ - k ≡ length es + (length log₀ - (k + length es)) = omega (arith, room) in
        let all : take (length log₀ - k) (leading (drop at schedule)) ≡ es ++ rest =
        ap (take (length log₀ - k)) here ∙ ap (λ (n : ℕ). take n (es ++ leading (drop next schedule))) count ∙ take-over es (leading (drop next schedule)) (length log₀ - (k + length es))
        in
        record {
          sound = subst (Sound j) (sym is) (entries-sound j s left.sound es);
          within = room;
          state = ap (λ (x : State). run_from j x rest) is ∙ sym (run-append j s es rest) ∙ ap (run_from j s) (sym all) ∙ left.state;
          done = left.done ++ logs_from j s es;
          many = length-append left.done (logs_from j s es) ∙ omega (arith, left.many, logs-many j s es);
          logs = ap (λ (x : State). (left.done ++ logs_from j s es) ++ logs_from j x rest) is ∙ append_assoc left.done (logs_from j s es) (logs_from j (run_from j s es) rest)
              ∙ ap (λ (l : List ℕ). left.done ++ l) (sym (logs-append j s es rest) ∙ ap (logs_from j s) (sym all)) ∙ left.logs;
          log = on log₀ left.done left.log left.many;
        }

    -- one entry
    pub goes_one : (e : Entry) (next : ℕ) (a : After) → entry_at schedule at ≡ Ok (Some (e, next)) → k < length log → length log ≡ length log₀ → a ≡ entry_of j s e
        → Left j s₀ schedule log₀ a.state next (k + 1) (set log k a.log)
    unfolding run_from logs_from
    goes_one e next a here room same is =
        goes (e ∷ []) next a.state (set log k a.log) (leads-found schedule at e next here) (omega (arith, room, same)) (ap (λ (x : After). x.state) is)
        (subst (λ (n : ℕ). LogsOn log k (n ∷ []) (set log k a.log)) (ap (λ (x : After). x.log) is) (put_on log k a.log room))

    -- a row of steps
    pub goes-row : (c next more follow : ℕ) (end : State) (log' : List ℕ) → entry_at schedule at ≡ Ok (Some (Step c, next)) → StepsRow schedule next c more → follow ≤ more
        → k + (follow + 1) ≤ length log₀ → RowPlayed j s (Step c) (follow + 1) log k end log'
        → Left j s₀ schedule log₀ end (next + 2 * follow) (k + (follow + 1)) log'
    goes-row c next more follow end log' here row few room played =
        let es = replicate (follow + 1) (Step c) in
        let many : length es ≡ follow + 1 = length-replicate (follow + 1) (Step c) in
        let front : Step c ∷ replicate follow (Step c) ≡ es = ap (λ (n : ℕ). replicate n (Step c)) (sym (add-one follow)) in
        let all : leading (drop at schedule) ≡ es ++ leading (drop (next + 2 * follow) schedule) =
        leads-found schedule at (Step c) next here
        ∙ ap (λ (l : List Entry). Step c ∷ l) (leads-row schedule c follow next (λ i l. row.each i (omega (arith, l, few))))
        ∙ ap (λ (l : List Entry). l ++ leading (drop (next + 2 * follow) schedule)) front
        in
        subst (λ (n : ℕ). Left j s₀ schedule log₀ end (next + 2 * follow) (k + n) log') many
        (goes es (next + 2 * follow) end log' all (omega (arith, many, room)) played.state played.logs)

    -- no entry is left, or no room for its log byte
    pub ends : take (length log₀ - k) (leading (drop at schedule)) ≡ [] → Played j s₀ schedule log₀ s log
    unfolding run_from logs_from
    ends nothing = record {
      state = ap (run_from j s) (sym nothing) ∙ left.state;
      log = left.log ∙ ap (logged log₀) (sym (append-nil left.done) ∙ ap (λ (l : List Entry). left.done ++ logs_from j s l) (sym nothing) ∙ left.logs);
    }

    pub ends-full : length log₀ ≤ k → Played j s₀ schedule log₀ s log
    ends-full full = let zero_left : length log₀ - k ≡ 0 = omega (arith, full) in ends (ap (λ (n : ℕ). take n (leading (drop at schedule))) zero_left)

    pub ends-here : leading (drop at schedule) ≡ [] → Played j s₀ schedule log₀ s log
    ends-here nothing = ends (ap (take (length log₀ - k)) nothing ∙ take_none (length log₀ - k))

-- an entry of none of a step's forms is none
pub not_step : (e : Entry) → ((c : ℕ) → e ≡ Step c → ⊥) → is_step e ≡ false
not_step (Step c) f = absurd (f c refl)
not_step (Take c) f = refl
not_step (Steal c t) f = refl
not_step (Enable t) f = refl
