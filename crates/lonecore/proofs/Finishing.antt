-- The scheduler on several cores finishes (`finishing`): each round writes an entry or reaches the end, for where all cores were idle and no thread
-- ready, a sound machine would have finished. Assumes what `Feeding` does.
use mathlib.Core.Bool.{true, cond, ◌&&◌, ◌||◌, not}
use mathlib.Core.List.{List, []}
use mathlib.Core.Path.{◌≡◌, refl, sym, ◌∙◌, ap, subst}
use Prim.Native.Nat.{ℕ, zero, suc, ◌+◌, ◌-◌, ◌*◌, ◌≤◌, ◌<◌}
use native.Mathlib.Decide.{ℕ_discrete}
use native.Mathlib.Omega.{arith}
use lib.Dec.{ltb, leb}
use Rattle.schedule.specs.declared.Entry.TheVariants.{Enable}
use Rattle.thread.specs.Thread.{none}
use Rattle.rules.specs.State.{Job, finished, is_over, on_core}
use Rattle.rules.specs.Rules.{entry_of}
use Rattle.rules.specs.Sound.{GoodJob}
use Rattle.search.specs.Search.{choice_of, lowest_suspended}
use Rattle.rounds.specs.Rounds.{Progress, recorded, tried, turns, fresh, round, plays_on, wakened, rounds}
use Rattle.soundness.proofs.Jam.{no-jam}
use Rattle.soundness.proofs.Parts.{going-unfinished}
use Rattle.lonecore.specs.LforksOnly.{LforksOnly}
use Rattle.lonecore.proofs.Followed.{Ending}
use Rattle.lonecore.proofs.Feeding.{Fares, three-left, may, Tried, ended, went, nothing, try}

-- a machine that is over: no core tries anything
over-turns : (j : Job) (n c : ℕ) (p : Progress) (v : ℕ) → p.state.outcome ≡ finished v → turns n j c p ≡ p
unfolding turns tried
over-turns j zero c p v o = refl
over-turns j (suc n) c p v o = ap (turns n j (suc c)) still ∙ over-turns j n (suc c) p v o
  where
    still : tried j (choice_of j p.state c) p ≡ p
    still = ap (λ x. cond (not (is_over x) && leb 3 p.left) (recorded (choice_of j p.state c) (entry_of j p.state (choice_of j p.state c)) p) p) o

module _ (j : Job) (good : GoodJob j) (arguments memory : List ℕ) (k : ℕ) (low : k ≤ 31) (only : LforksOnly j.image)
    (E : Ending j good arguments memory k low) (enough : E.end.units ≤ j.allowance) (count : ℕ) (small : count * (32 - k - 1) + 1 ≤ 16) where
  abbrev Well : ℕ → Progress → Type 0
  Well n p = Fares j good arguments memory k low only E enough n count p

  -- what the tries of n cores, from core c on, have led to
  data Went (c n : ℕ) (p q : Progress) : Type 0 where
    is-over : (v : ℕ) → q.state.outcome ≡ finished v → Went c n p q
    moved : (m : ℕ) → Well m q → q.moved ≡ true → q.left < p.left → Went c n p q
    idle : q ≡ p → ((d : ℕ) → c ≤ d → d < c + n → none ≤ on_core p.state d) → (1 ≤ n → p.state.queues.ready ≡ []) → Went c n p q

  turns-lead : (n c m : ℕ) (p : Progress) → Well m p → c + n ≤ count → Went c n p (turns n j c p)
  unfolding turns
  turns-lead zero c m p f l = idle refl (λ d a b. absurd (omega arith)) (λ z. absurd (omega arith))
  turns-lead (suc n) c m p f l = by (tried j (choice_of j p.state c) p) (try j good arguments memory k low only E enough m count p f c (omega arith) small)
      (λ r x g. turns-lead n (suc c) x r g (omega arith))
    where
      Rest : Type 0
      Rest = (r : Progress) (x : ℕ) → Well x r → Went (suc c) n r (turns n j (suc c) r)

      behind : (q r : Progress) (x : ℕ) → Well x q → q.moved ≡ true → q.left < p.left → Went (suc c) n q r → Went c (suc n) p r
      behind q r x g v d (is-over w o) = is-over w o
      behind q r x g v d (moved y h w e) = moved y h w (omega arith)
      behind q r x g v d (idle e _ _) = subst (Went c (suc n) p) (sym e) (moved x g v d)

      after_none : (r : Progress) → none ≤ on_core p.state c → p.state.queues.ready ≡ [] → Went (suc c) n p r → Went c (suc n) p r
      after_none r i e (is-over w o) = is-over w o
      after_none r i e (moved y h w d) = moved y h w d
      after_none r i e (idle same others _) = idle same (λ d a b. at d a b (ℕ_discrete d c)) (λ _. e)
        where
          at : (d : ℕ) → c ≤ d → d < c + suc n → Dec (d ≡ c) → none ≤ on_core p.state d
          at d a b (yes x) = subst (λ y. none ≤ on_core p.state y) (sym x) i
          at d a b (no x) = others d (omega arith) (omega arith)

      by : (q : Progress) → Tried j good arguments memory k low only E enough count c p q → Rest → Went c (suc n) p (turns n j (suc c) q)
      by q (ended v o) rest = is-over v (ap (λ x. x.state.outcome) (over-turns j n (suc c) q v o) ∙ o)
      by q (went x g v d) rest = behind q (turns n j (suc c) q) x g v d (rest q x g)
      by q (nothing e i r) rest = after_none (turns n j (suc c) q) i r (subst (λ x. Went (suc c) n p (turns n j (suc c) x)) (sym e) (rest p m f))

  -- a round, which reaches the end or writes an entry: with all cores idle and nobody ready the machine would have finished
  data Rounded (p q : Progress) : Type 0 where
    last : (v : ℕ) → q.state.outcome ≡ finished v → Rounded p q
    more : (m : ℕ) → Well m q → q.moved ≡ true → q.left < p.left → Rounded p q

  round-leads : (m : ℕ) (p : Progress) → Well m p → Rounded p (round j p)
  round-leads m p f = by (subst (λ n. Went 0 n (fresh p) (turns n j 0 (fresh p))) (sym f.cores)
      (turns-lead count 0 m (fresh p) (record { stands = f.stands; fed = f.fed; cores = f.cores }) (omega arith)))
    where
      jammed : ((d : ℕ) → 0 ≤ d → d < 0 + p.state.count → none ≤ on_core p.state d) → (1 ≤ p.state.count → p.state.queues.ready ≡ []) → ⊥
      jammed all empty =
          no-jam j p.state f.stands.sound (λ c l. all c (omega arith) (omega arith)) (empty f.stands.sound.sized.some) f.stands.few.awake
          (going-unfinished p.state f.stands.ongoing)

      by : Went 0 p.state.count (fresh p) (round j p) → Rounded p (round j p)
      by (is-over v o) = last v o
      by (moved x g v d) = more x g v d
      by (idle e all empty) = absurd (jammed all empty)

  pub finishing : (f m : ℕ) (p : Progress) → Well m p → p.left ≤ f → (v : ℕ) × ((rounds (suc f) j p).state.outcome ≡ finished v)
  unfolding rounds wakened
  finishing zero m p g l = let z = three-left j good arguments memory k low only E enough m count p g in absurd (omega arith)
  finishing (suc f) m p g l = by (round-leads m p g) (λ x h d. finishing f x (round j p) h (omega arith))
    where
      Last : Progress → Type 0
      Last q = (v : ℕ) × ((cond (plays_on q) (rounds (suc f) j (wakened j q)) q).state.outcome ≡ finished v)

      by : Rounded p (round j p) → ((x : ℕ) → Well x (round j p) → (round j p).left < p.left → (v : ℕ) × ((rounds (suc f) j (round j p)).state.outcome ≡ finished v))
          → Last (round j p)
      by (last v o) rec = (
        v,
        ap (λ x. (cond ((not (is_over x) && leb 3 (round j p).left) && ((round j p).moved || ltb (lowest_suspended (round j p).state) none))
            (rounds (suc f) j (wakened j (round j p))) (round j p)).state.outcome) o ∙ o,
      )
      by (more x h v d) rec =
          let (w, e) = rec x h d in (
            w,
            ap (λ b. (cond (b && ((round j p).moved || ltb (lowest_suspended (round j p).state) none)) (rounds (suc f) j (wakened j (round j p))) (round j p)).state.outcome)
                (may j good arguments memory k low only E enough x count (round j p) h)
                ∙ ap (λ b. (cond (b || ltb (lowest_suspended (round j p).state) none)
                (rounds (suc f) j (cond b (round j p) (tried j (Enable (lowest_suspended (round j p).state)) (round j p)))) (round j p)).state.outcome) v ∙ e,
          )
