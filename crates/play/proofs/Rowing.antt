-- An entry that is met again and again is a row of entries of a schedule; and log bytes behind those that are there. Assumes nothing.
use mathlib.Core.List.{List, [], ◌∷◌, ◌++◌, append-nil, append_assoc}
use mathlib.Core.Path.{◌≡◌, refl, sym, ap, subst, ◌∙◌}
use Prim.Native.Nat.{ℕ, zero, suc, ◌+◌, ◌-◌, ◌≤◌, ◌<◌}
use native.Mathlib.Numerals.{add-one}
use native.Mathlib.Omega.{arith}
use lib.ListN.{length, get_or, take, drop, set, replicate, length-append, length-drop, length-replicate, replicate-append-replicate}
use lib.Seq.{drop-cons, drop-drop, take_at, drop_at, set_at}
use Rattle.schedule.specs.declared.Entry.{Entry}
use Rattle.rules.specs.State.{Job, State, After}
use Rattle.rules.specs.Rules.{entry_of}
use Rattle.rules.specs.Runs.{run_from, logs_from, logged}
use Rattle.rules.specs.Sound.{Sound}
use Rattle.rules.proofs.Laws.{run-append, logs-many}
use Rattle.soundness.proofs.Kept.{entries-sound}
use Rattle.entries.specs.declared.Carried.{Carried}
use Rattle.entries.specs.Repeat.{repeated, Repeats}
use Rattle.play.specs.Rows.{LogsOn, RowPlayed}

pub logs-append : (j : Job) (s : State) (before after : List Entry) → logs_from j s (before ++ after) ≡ logs_from j s before ++ logs_from j (run_from j s before) after
unfolding run_from logs_from
logs-append j s [] after = refl
logs-append j s (e ∷ before) after = ap (λ (l : List ℕ). (entry_of j s e).log ∷ l) (logs-append j (entry_of j s e).state before after)

module _ (j : Job) (e : Entry) where
  -- the first time apart from the others
  shifted : (s : State) (n : ℕ) → repeated j e s (suc n) ≡ repeated j e (entry_of j s e).state n
  unfolding repeated
  shifted s zero = refl
  shifted s (suc n) = ap (λ (x : State). (entry_of j x e).state) (shifted s n)

  pub run-repeats : (s : State) (n : ℕ) → run_from j s (replicate n e) ≡ repeated j e s n
  unfolding run_from repeated
  run-repeats s zero = refl
  run-repeats s (suc n) = run-repeats (entry_of j s e).state n ∙ sym (shifted s n)

  -- accepted so many times, and then once more
  logs-repeat : (s : State) (n : ℕ) → ((i : ℕ) → i < n → (entry_of j (repeated j e s i) e).log ≡ 0)
      → logs_from j s (replicate (suc n) e) ≡ replicate n 0 ++ ((entry_of j (repeated j e s n) e).log ∷ [])
  unfolding logs_from repeated
  logs-repeat s zero f = refl
  logs-repeat s (suc n) f =
      ap (λ (x : ℕ). x ∷ logs_from j (entry_of j s e).state (replicate (suc n) e)) (f 0 (omega arith))
      ∙ ap (λ (l : List ℕ). 0 ∷ l) (logs-repeat (entry_of j s e).state n (λ i l. ap (λ (x : State). (entry_of j x e).log) (sym (shifted s i)) ∙ f (suc i) (omega (arith, l)))
      ∙ ap (λ (x : State). replicate n 0 ++ ((entry_of j x e).log ∷ [])) (sym (shifted s n)))

  module _ (s : State) (more : ℕ) (r : Carried) (end : State) (done : Repeats j s e more r end) where
    pub row-state : end ≡ run_from j s (replicate (suc r.again) e)
    unfolding repeated
    row-state = ap (λ (a : After). a.state) done.last ∙ sym (run-repeats s (suc r.again))

    pub row-logs : replicate r.again 0 ++ (r.log ∷ []) ≡ logs_from j s (replicate (suc r.again) e)
    row-logs = ap (λ (a : After). replicate r.again 0 ++ (a.log ∷ [])) done.last ∙ sym (logs-repeat s r.again done.accepts)

-- one byte behind those that are there
pub put_on : (before : List ℕ) (at v : ℕ) → at < length before → LogsOn before at (v ∷ []) (set before at v)
put_on before at v l first done is many =
    let room : length done < length first = omega (arith, l, many, ap length is, length-append done (drop (length done) first), length-drop (length done) first) in
    ap (λ (x : List ℕ). set x at v) is
    ∙ ap (λ (x : List ℕ). set (done ++ x) at v) (drop-cons first (length done) 0 room)
    ∙ set_at done (get_or first (length done) 0) (drop (suc (length done)) first) v at many
    ∙ sym (append_assoc done (v ∷ []) (drop (suc (length done)) first))
    ∙ ap (λ (n : ℕ). (done ++ (v ∷ [])) ++ drop n first) (sym (length-append done (v ∷ []) ∙ add-one (length done)))

-- none, and some behind others
pub on_none : (before : List ℕ) (at : ℕ) → LogsOn before at [] before
on_none before at first done is many = is ∙ ap (logged first) (sym (append-nil done))

pub on-more : (before mid after : List ℕ) (at : ℕ) (bytes more : List ℕ) → LogsOn before at bytes mid → LogsOn mid (at + length bytes) more after
    → LogsOn before at (bytes ++ more) after
on-more before mid after at bytes more f g first done is many =
    g first (done ++ bytes) (f first done is many) (length-append done bytes ∙ ap (λ (n : ℕ). n + length bytes) many) ∙ ap (logged first) (append_assoc done bytes more)

-- zeros behind those that are there
pub zeros-on : (before : List ℕ) (at again : ℕ) → LogsOn before at (replicate again 0) (take at before ++ (replicate again 0 ++ drop again (drop at before)))
zeros-on before at again first done is many =
    let front : take at before ≡ done = ap (take at) is ∙ take_at done (drop (length done) first) at many in
    let back : drop at before ≡ drop (length done) first = ap (drop at) is ∙ drop_at done (drop (length done) first) at many in
    let end : length (done ++ replicate again 0) ≡ length done + again = length-append done (replicate again 0) ∙ ap (λ (n : ℕ). length done + n) (length-replicate again 0) in
    rw (front, back, drop-drop again (length done) first, end) (sym (append_assoc done (replicate again 0) (drop (length done + again) first)))

-- and then the last byte
pub last_on : (before mid : List ℕ) (at again v : ℕ) → at + again < length mid → LogsOn before at (replicate again 0) mid
    → LogsOn before at (replicate again 0 ++ (v ∷ [])) (set mid (at + again) v)
last_on before mid at again v l f =
    on-more before mid (set mid (at + again) v) at (replicate again 0) (v ∷ []) f
    (subst (λ (n : ℕ). LogsOn mid (at + n) (v ∷ []) (set mid (at + again) v)) (sym (length-replicate again 0)) (put_on mid (at + again) v l))

-- a row that is met in parts
module _ (j : Job) (s₀ : State) (e : Entry) (log₀ : List ℕ) (first : ℕ) where
  pub row-begins : RowPlayed j s₀ e 0 log₀ first s₀ log₀
  unfolding run_from logs_from
  row-begins = record { state = refl; logs = on_none log₀ first }

  module _ (k : ℕ) (s : State) (log : List ℕ) (row : RowPlayed j s₀ e k log₀ first s log) where
    pub row-sound : Sound j s₀ → Sound j s
    row-sound ok = subst (Sound j) (sym row.state) (entries-sound j s₀ ok (replicate k e))

    pub row_more : (more : ℕ) (r : Carried) (end : State) (log' : List ℕ) → Repeats j s e more r end
        → LogsOn log (first + k) (replicate r.again 0 ++ (r.log ∷ [])) log' → RowPlayed j s₀ e (k + (r.again + 1)) log₀ first end log'
    row_more more r end log' done on =
        let all : replicate k e ++ replicate (suc r.again) e ≡ replicate (k + (r.again + 1)) e =
        replicate-append-replicate k (suc r.again) e ∙ ap (λ (n : ℕ). replicate (k + n) e) (sym (add-one r.again))
        in
        let behind : logs_from j s (replicate (suc r.again) e) ≡ logs_from j (run_from j s₀ (replicate k e)) (replicate (suc r.again) e) =
        ap (λ (x : State). logs_from j x (replicate (suc r.again) e)) row.state
        in
        let many : k ≡ length (logs_from j s₀ (replicate k e)) = sym (logs-many j s₀ (replicate k e) ∙ length-replicate k e) in
        record {
          state = row-state j e s more r end done ∙ ap (λ (x : State). run_from j x (replicate (suc r.again) e)) row.state
              ∙ sym (run-append j s₀ (replicate k e) (replicate (suc r.again) e)) ∙ ap (run_from j s₀) all;
          logs = subst (λ (bytes : List ℕ). LogsOn log₀ first bytes log')
              (sym (logs-append j s₀ (replicate k e) (replicate (suc r.again) e)) ∙ ap (logs_from j s₀) all)
              (on-more log₀ log log' first (logs_from j s₀ (replicate k e)) (logs_from j (run_from j s₀ (replicate k e)) (replicate (suc r.again) e)) row.logs
              (subst (λ (n : ℕ). LogsOn log (first + n) (logs_from j (run_from j s₀ (replicate k e)) (replicate (suc r.again) e)) log') many
              (subst (λ (bytes : List ℕ). LogsOn log (first + k) bytes log') (row-logs j e s more r end done ∙ behind) on)));
        }
