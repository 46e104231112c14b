-- Several cores: at every state on the scheduler's way few threads are in use (`few-in-use`), and where there is room for them and six bytes for each
-- command, no try is refused but that of an idle core that finds no seed, and the run finishes (`never-short`). Assumes an input that a run takes,
-- an image without 09, 0B and 0C, and a plain run that finishes.
use mathlib.Core.List.{List, [], ◌∷◌, ◌++◌}
use mathlib.Core.Logic.{◌⊎◌, ⊎_elim, inl, inr}
use mathlib.Core.Path.{◌≡◌, refl, sym, ◌∙◌, ap, subst}
use Prim.Native.Nat.{ℕ, suc, ◌+◌, ◌-◌, ◌*◌, ◌≤◌, ◌<◌}
use native.Mathlib.Omega.{arith}
use Rattle.schedule.specs.declared.Entry.{Entry}
use Rattle.rules.specs.State.{Job, State, Outcome, going, finished, faulted}
use Rattle.rules.specs.Rules.{entry_of}
use Rattle.rules.specs.Runs.{run_from}
use Rattle.search.specs.Search.{choice_of}
use Rattle.rules.specs.Start.{start_state}
use Rattle.rules.specs.Sound.{GoodJob}
use Rattle.soundness.proofs.StartSound.{start-sound}
use Rattle.serial.specs.Serial.{done}
use Rattle.rounds.specs.Rounds.{usable, beginning, scheduled_from}
use Rattle.demands.specs.Input.{Input, job_in, start_in}
use Rattle.demands.specs.Demands.{Takes, serial_in, state_after}
use Rattle.demands.proofs.Passing.{good}
use Rattle.demands.proofs.Demands.{demand-3}
use Rattle.lonecore.specs.LforksOnly.{LforksOnly}
use Rattle.lonecore.specs.Depth.{depth_in}
use Rattle.lonecore.specs.Commands.{commands_in}
use Rattle.lonecore.specs.SeveralCores.{used_in, most_used, FewInUse, SeveralCores, NeverShort}
use Rattle.lonecore.proofs.Followed.{Ending, depth, depths, within}
use Rattle.lonecore.proofs.PlainRun.{depth-some, depth-most, ending, enough, commands-are-steps}
use Rattle.lonecore.proofs.FewKept.{start-few}
use Rattle.lonecore.proofs.Standing.{Stands, choice-taken}
use Rattle.lonecore.proofs.Counts.{used-most}
use Rattle.lonecore.proofs.BalanceChanges.{ready_in}
use Rattle.lonecore.proofs.Feeding.{Fares}
use Rattle.lonecore.proofs.Way.{Visited, OnWay, rounds-way}
use Rattle.lonecore.proofs.Finishing.{finishing}
use Rattle.lonecore.proofs.LoneCore.{start-followed}

module _ (i : Input) (t : Takes i) (image : LforksOnly i.image) (v u : ℕ) (m : List ℕ) (finishes : serial_in i ≡ done v m u) where
  abbrev j : Job
  j = job_in i

  abbrev g : GoodJob (job_in i)
  g = good i t

  -- begun so many levels down, the plain run has exactly as many left as it needs
  abbrev k : ℕ
  k = 32 - depth_in i

  low : 32 - depth_in i ≤ 31
  low = let z = depth-some i in omega arith

  deep : depth_in i + (32 - depth_in i) ≤ 32
  deep = let z = depth-most i t v u m finishes in omega arith

  levels : 32 - (32 - depth_in i) ≡ depth_in i
  levels = let z = depth-most i t v u m finishes in omega arith

  E : Ending (job_in i) (good i t) i.arguments i.memory (32 - depth_in i) low
  E = ending i t k low v u m finishes deep

  paid : E.end.units ≤ i.allowance
  unfolding E
  paid = enough i t k low v u m finishes deep

  counted : commands_in i ≡ E.count
  unfolding E
  counted = commands-are-steps i t k low v u m finishes deep

  abbrev Stood : ℕ → State → Type 0
  Stood n s = Stands j g i.arguments i.memory k low image E paid n s

  start-stands : Stood 0 (start_in i)
  unfolding start_state
  start-stands = record {
    sound = start-sound j i.cores i.arguments i.memory g t.some t.most t.memory;
    followed = start-followed i t k low;
    few = start-few j i.cores i.arguments i.memory;
    ongoing = refl;
  }

  start-count : (start_in i).count ≡ i.cores
  unfolding start_state
  start-count = refl

  nobody-ready : ready_in (start_in i) ≡ 0
  unfolding start_state
  nobody-ready = refl

  -- the scheduler's way from Start
  way : (size : ℕ) → OnWay j g i.arguments i.memory k low image E paid (start_in i) i.cores (scheduled_from j (start_in i) size)
  unfolding run_from
  way size = rounds-way j g i.arguments i.memory k low image E paid (start_in i) i.cores (suc (usable size)) (beginning (start_in i) size)
      (record { state = refl; visits = at-start })
    where
      at-start : (before after : List Entry) → [] ≡ before ++ after
          → Visited j g i.arguments i.memory k low image E paid (start_in i) i.cores (state_after i before)
      at-start [] after e = λ _. (0, start-stands, start-count)
      at-start (x ∷ before) after e = let z : ◌≡◌ {A = ℕ} 0 1 = cc in absurd (omega arith)

  -- an open state's threads in use
  open-used : (n : ℕ) (s : State) → Stood n s → s.count ≡ i.cores → used_in s ≤ most_used i
  open-used n s h cores =
      let most = used-most j s h.sound h.few (depth j g i.arguments i.memory k low s h.sound n h.followed)
      (depths j g i.arguments i.memory k low s h.sound n h.followed) (32 - k)
      (within j g i.arguments i.memory k low s h.sound n h.followed E) in
      let same : s.count * (32 - (32 - depth_in i) - 1) ≡ i.cores * (depth_in i - 1) = (λ ι. cores ι * (levels ι - 1)) in
      omega (arith, most, same)

  pub few-in-use : (size : ℕ) → FewInUse i (scheduled_from (job_in i) (start_in i) size)
  few-in-use size before after e = by (state_after i before).outcome refl
    where
      by : (o : Outcome) → (state_after i before).outcome ≡ o → used_in (state_after i before) ≤ most_used i
      by going o = let (n, h, cores) = (way size).visits before after e o in open-used n (state_after i before) h cores
      by (finished w) o = let z = ((demand-3 i t before).free w o).counted in omega (arith, z)
      by (faulted x y z) o = absurd ((demand-3 i t before).unfaulted v u m finishes x y z o)

  module _ (size : ℕ) (room : most_used i ≤ 16) (buffer : 6 * commands_in i ≤ size) (most : 6 * commands_in i ≤ 32768) where
    small : i.cores * (32 - (32 - depth_in i) - 1) + 1 ≤ 16
    small = let same : i.cores * (32 - (32 - depth_in i) - 1) ≡ i.cores * (depth_in i - 1) = ap (λ n. i.cores * (n - 1)) levels in omega (arith, same, room)

    start-fares : Fares j g i.arguments i.memory k low image E paid 0 i.cores (beginning (start_in i) size)
    start-fares = record { stands = start-stands; fed = omega (arith, counted, buffer, most, nobody-ready); cores = start-count }

    over : (w : ℕ) × ((scheduled_from j (start_in i) size).state.outcome ≡ finished w)
    over = finishing j g i.arguments i.memory k low image E paid i.cores small (usable size) 0 (beginning (start_in i) size) start-fares (omega arith)

    told : (before after : List Entry) → (scheduled_from j (start_in i) size).written ≡ before ++ after → (state_after i before).outcome ≡ going → (c : ℕ)
        → c < i.cores → ((entry_of j (state_after i before) (choice_of j (state_after i before) c)).log ≡ 0)
        ⊎ ((entry_of j (state_after i before) (choice_of j (state_after i before) c)).log ≡ 18)
    told before after e o c l =
        let (n, h, cores) = (way size).visits before after e o in
        ⊎_elim (λ z. inl z) (λ z. inr z.0) (choice-taken j g i.arguments i.memory k low image E paid n (state_after i before) h
        (subst (λ x. x * (32 - (32 - depth_in i) - 1) + 1 ≤ 16) (sym cores) small) c (subst (λ x. c < x) (sym cores) l))

    pub ends : NeverShort i v u m (scheduled_from (job_in i) (start_in i) size)
    ends =
        let end = scheduled_from j (start_in i) size in
        let (w, o) = over in
        let at = (way size).state in
        let a = sym ((demand-3 i t end.written).agrees w (ap (λ s. s.outcome) (sym at) ∙ o)) ∙ finishes in
        let same : w ≡ v = cc in
        record {
          outcome = o ∙ ap finished same;
          memory = ap (λ s. s.store.memory) at ∙ cc;
          units = ap (λ s. s.units) at ∙ cc;
          tries = told;
        }

pub never-short : (i : Input) → Takes i → (size v u : ℕ) (m : List ℕ) → SeveralCores i size v u m → NeverShort i v u m (scheduled_from (job_in i) (start_in i) size)
never-short i t size v u m h = ends i t h.image v u m h.finishes size h.room (omega (arith, h.buffer)) (omega (arith, h.most))
