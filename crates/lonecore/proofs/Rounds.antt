-- The built-in scheduler on a lone core: each round is a step that is accepted, until the machine has finished (`lone`). Before each try at least
-- 3 bytes are left, since a command is left. Assumes what `Steps` does, and a byte more than twice the commands in the buffer.
use mathlib.Core.Bool.{true, cond, ◌&&◌, ◌||◌, not}
use mathlib.Core.List.{List, [], ◌∷◌, ◌++◌, append_assoc}
use mathlib.Core.Path.{◌≡◌, refl, sym, ◌∙◌, ap, subst}
use Prim.Native.Nat.{ℕ, zero, suc, ◌+◌, ◌-◌, ◌*◌, ◌≤◌}
use native.Mathlib.Omega.{arith}
use borrow.Author.Tests.{le-leb}
use lib.Dec.{ltb, leb, eqb}
use lib.ListN.{replicate}
use Rattle.schedule.specs.declared.Entry.TheVariants.{Step, Enable}
use Rattle.thread.specs.Thread.{none}
use Rattle.rules.specs.State.{Job, State, going, finished, is_over}
use Rattle.rules.specs.Rules.{entry_of}
use Rattle.rules.specs.Runs.{run_from}
use Rattle.rules.specs.Sound.{GoodJob}
use Rattle.search.specs.Search.{lowest_suspended}
use Rattle.rounds.specs.Rounds.{Progress, is_written, may_try, recorded, tried, turns, fresh, round, plays_on, wakened, rounds}
use Rattle.lonecore.specs.LforksOnly.{LforksOnly}
use Rattle.lonecore.proofs.Followed.{Ending}
use Rattle.lonecore.proofs.Chain.{core-steps}
use Rattle.lonecore.proofs.Steps.{Lone, Steps, next, last, accepted, steps, left}

pub may-try : (p : Progress) → p.state.outcome ≡ going → 3 ≤ p.left → may_try p ≡ true
may-try p o l = ap (λ x. not (is_over x) && leb 3 p.left) o ∙ le-leb 3 p.left l

module _ (j : Job) (good : GoodJob j) (arguments memory : List ℕ) (k : ℕ) (low : k ≤ 31) (half : 16 ≤ k) (only : LforksOnly j.image)
    (E : Ending j good arguments memory k low) (enough : E.end.units ≤ j.allowance) where
  abbrev Stood : ℕ → State → Type 0
  Stood n s = Lone j good arguments memory k low half only E enough n s

  -- after a step that was accepted
  abbrev stepped : Progress → Progress
  stepped p = record { state = (entry_of j p.state (Step 0)).state; written = p.written ++ (Step 0 ∷ []); left = p.left - 2; moved = true }

  tried-is : (p : Progress) (n : ℕ) → Stood n p.state → 3 ≤ p.left → tried j (Step 0) (fresh p) ≡ stepped p
  unfolding tried recorded
  tried-is p n h l =
      ap (λ b. cond b (recorded (Step 0) (entry_of j p.state (Step 0)) (fresh p)) (fresh p)) (may-try (fresh p) h.stands.ongoing l)
      ∙ ap (λ z. cond (is_written z) (record {
        state = (entry_of j p.state (Step 0)).state;
        written = p.written ++ (Step 0 ∷ []);
        left = p.left - 2;
        moved = eqb z 0;
      }) (fresh p)) (accepted j good arguments memory k low half only E enough n p.state h)

  round_is : (p : Progress) (n : ℕ) → Stood n p.state → 3 ≤ p.left → round j p ≡ stepped p
  unfolding turns
  round_is p n h l =
      ap (λ c. turns c j 0 (fresh p)) h.one ∙ ap (λ e. tried j e (fresh p)) (core-steps j p.state h.alone) ∙ tried-is p n h l

  -- a machine that has finished by r steps, all written
  pub record Ran (before after : Progress) (r : ℕ) : Type 0 where
    pub result : ℕ
    pub over : after.state.outcome ≡ finished result
    pub state : after.state ≡ run_from j before.state (replicate r (Step 0))
    pub written : after.written ≡ before.written ++ replicate r (Step 0)

  -- the round that is followed by another, and the last
  followed-by : (p : Progress) (f : ℕ) → p.state.outcome ≡ going → 3 ≤ p.left → p.moved ≡ true
      → cond (plays_on p) (rounds f j (wakened j p)) p ≡ rounds f j p
  unfolding wakened
  followed-by p f o l m =
      ap (λ b. cond (b && (p.moved || ltb (lowest_suspended p.state) none)) (rounds f j (wakened j p)) p) (may-try p o l)
      ∙ ap (λ b. cond (b || ltb (lowest_suspended p.state) none) (rounds f j (cond b p (tried j (Enable (lowest_suspended p.state)) p))) p) m

  ends_by : (p : Progress) (f v : ℕ) → p.state.outcome ≡ finished v → cond (plays_on p) (rounds f j (wakened j p)) p ≡ p
  ends_by p f v o =
      ap (λ x. cond ((not (is_over x) && leb 3 p.left) && (p.moved || ltb (lowest_suspended p.state) none)) (rounds f j (wakened j p)) p) o

  pub lone : (r f n : ℕ) (p : Progress) → Stood n p.state → n + r ≡ E.count → 2 * r + 1 ≤ p.left → p.left ≤ f → Ran p (rounds (suc f) j p) r
  unfolding rounds run_from
  lone zero f n p h e l m = let z = left j good arguments memory k low half only E enough n p.state h in absurd (omega arith)
  lone (suc r) zero n p h e l m = absurd (omega arith)
  lone (suc r) (suc f) n p h e l m =
      subst (λ q. Ran p (cond (plays_on q) (rounds (suc f) j (wakened j q)) q) (suc r)) (sym (round_is p n h (omega arith)))
      (by (steps j good arguments memory k low half only E enough n p.state h)
      (λ h' _. lone r f (suc n) (stepped p) h' (omega arith) (omega arith) (omega arith)))
    where
      by : Steps j good arguments memory k low half only E enough n p.state (stepped p).state
          → ((h' : Stood (suc n) (stepped p).state) → 1 ≤ r → Ran (stepped p) (rounds (suc f) j (stepped p)) r)
          → Ran p (cond (plays_on (stepped p)) (rounds (suc f) j (wakened j (stepped p))) (stepped p)) (suc r)
      by (last v o q) rest =
          let none_left : 0 ≡ r = omega arith in
          subst (λ x. Ran p x (suc r)) (sym (ends_by (stepped p) (suc f) v o))
          (record {
            result = v;
            over = o;
            state = ap (λ k. run_from j (stepped p).state (replicate k (Step 0))) none_left;
            written = ap (λ k. p.written ++ replicate (suc k) (Step 0)) none_left;
          })
      by (next h') rest =
          let more = left j good arguments memory k low half only E enough (suc n) (stepped p).state h' in
          let q = rest h' (omega arith) in
          subst (λ x. Ran p x (suc r)) (sym (followed-by (stepped p) (suc f) h'.stands.ongoing (omega arith) refl))
          (record {
            result = q.result;
            over = q.over;
            state = q.state;
            written = q.written ∙ append_assoc p.written (Step 0 ∷ []) (replicate r (Step 0));
          })
