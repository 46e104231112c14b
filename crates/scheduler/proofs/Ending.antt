-- The built-in scheduler ends only as document 01 says: over, with nothing to enable, or with fewer than 3 bytes left. Each round that another
-- follows has written an entry, so that its rounds are never cut off. Assumes nothing.
use borrow.Author.Tests.{leb-true, leb-false, ltb-true, ltb-false}
use mathlib.Core.Bool.{Bool, true, false, cond, ◌&&◌, ◌||◌, not}
use mathlib.Core.List.{List, [], ◌∷◌, ◌++◌}
use mathlib.Core.Logic.{◌⊎◌, inl, inr, ⊎_elim}
use mathlib.Core.Path.{◌≡◌, refl}
use Prim.Native.Nat.{ℕ, zero, suc, ◌+◌, ◌-◌, ◌≤◌, ◌<◌}
use native.Mathlib.Omega.{arith}
use lib.Dec.{ltb, leb, eqb}
use lib.ListN.{length, get_or}
use native.Mathlib.Decide.{ℕ_discrete}
use Rattle.command.proofs.Bools.{both}
use Rattle.schedule.specs.declared.Entry.{Entry}
use Rattle.schedule.specs.declared.Entry.TheVariants.{Enable}
use Rattle.schedule.specs.Format.{bytes_of_entry}
use Rattle.thread.specs.declared.Thread.{Thread}
use Rattle.thread.specs.declared.Status.TheVariants.{Suspended}
use Rattle.thread.specs.Thread.{blank_thread, none, ◌is◌}
use Rattle.rules.specs.State.{Job, After, is_over}
use Rattle.rules.specs.Rules.{entry_of}
use Rattle.search.specs.Search.{choice_of, suspended_from, lowest_suspended}
use Rattle.rounds.specs.Rounds.{Progress, is_written, may_try, recorded, tried, turns, fresh, round, plays_on, wakened, rounds}
use Rattle.turns.proofs.Keeping.{short}
use Rattle.turns.proofs.Refusing.{enables}

false-not : {A : Type 0} → false ≡ true → A
false-not e = let z : ◌≡◌ {A = ℕ} 0 1 = cc in absurd (omega arith)

-- the thread that is found is suspended
found : (n : ℕ) (threads : List Thread) (t : ℕ) → suspended_from n threads t < none
    → ((get_or threads (suspended_from n threads t) blank_thread).status is Suspended) ≡ true
unfolding suspended_from
found zero threads t l = absurd (omega (arith, l))
found (suc n) threads t l = go (found n threads (suc t)) ((get_or threads t blank_thread).status is Suspended) refl l
  where
    go : (suspended_from n threads (suc t) < none → ((get_or threads (suspended_from n threads (suc t)) blank_thread).status is Suspended) ≡ true)
        → (b : Bool) → ((get_or threads t blank_thread).status is Suspended) ≡ b → cond b t (suspended_from n threads (suc t)) < none
        → ((get_or threads (cond b t (suspended_from n threads (suc t))) blank_thread).status is Suspended) ≡ true
    go next true e l = e
    go next false e l = next l

-- and where none is found none is
pub none_found : (n : ℕ) (threads : List Thread) (t u : ℕ) → none ≤ suspended_from n threads t → t + n ≤ 32 → t ≤ u → u < t + n
    → ((get_or threads u blank_thread).status is Suspended) ≡ false
unfolding suspended_from
none_found zero threads t u l fits low high = absurd (omega arith)
none_found (suc n) threads t u l fits low high =
    go (λ k d. none_found n threads (suc t) u k (omega arith) d (omega arith)) ((get_or threads t blank_thread).status is Suspended) refl l
  where
    later : (suc t ≤ u → ((get_or threads u blank_thread).status is Suspended) ≡ false) → Dec (u ≡ t)
        → ((get_or threads t blank_thread).status is Suspended) ≡ false → ((get_or threads u blank_thread).status is Suspended) ≡ false
    later next (yes e) h = rw e h
    later next (no d) h = next (omega (arith, d))

    go : (none ≤ suspended_from n threads (suc t) → suc t ≤ u → ((get_or threads u blank_thread).status is Suspended) ≡ false)
        → (b : Bool) → ((get_or threads t blank_thread).status is Suspended) ≡ b → none ≤ cond b t (suspended_from n threads (suc t))
        → ((get_or threads u blank_thread).status is Suspended) ≡ false
    go next true e k = absurd (omega arith)
    go next false e k = later (next k) (ℕ_discrete u t) e

-- what is left does not grow, and is less where an entry was accepted
record Less (p q : Progress) : Type 0 where
  fewer : q.left ≤ p.left
  moves : q.moved ≡ true → (p.moved ≡ true) ⊎ (q.left < p.left)

less-refl : (p : Progress) → Less p p
less-refl p = record { fewer = omega arith; moves = λ d. inl d }

less-trans : (p q r : Progress) → Less p q → Less q r → Less p r
less-trans p q r x y = record {
  fewer = omega (arith, x.fewer, y.fewer);
  moves = λ d. ⊎_elim (λ m. ⊎_elim (λ k. inl k) (λ k. inr (omega (arith, k, y.fewer))) (x.moves m)) (λ k. inr (omega (arith, k, x.fewer))) (y.moves d);
}

left-three : (p : Progress) → may_try p ≡ true → 3 ≤ p.left
left-three p h = leb-true 3 p.left (both (not (is_over p.state.outcome)) (leb 3 p.left) h).1

recorded-less : (e : Entry) (a : After) (p : Progress) → 3 ≤ p.left → Less p (recorded e a p)
unfolding recorded
recorded-less e a p three = go (is_written a.log)
  where
    go : (b : Bool) → Less p (cond b (record {
      state = a.state;
      written = p.written ++ (e ∷ []);
      left = p.left - length (bytes_of_entry e);
      moved = p.moved || eqb a.log 0;
    }) p)
    go true = record { fewer = omega arith; moves = λ d. inr (omega (arith, short e, three)) }
    go false = less-refl p

module _ (j : Job) where
  tried-less : (e : Entry) (p : Progress) → Less p (tried j e p)
  unfolding tried
  tried-less e p = go (may_try p) refl
    where
      go : (b : Bool) → may_try p ≡ b → Less p (cond b (recorded e (entry_of j p.state e) p) p)
      go true h = recorded-less e (entry_of j p.state e) p (left-three p h)
      go false h = less-refl p

  turns-less : (n c : ℕ) (p : Progress) → Less p (turns n j c p)
  unfolding turns
  turns-less zero c p = less-refl p
  turns-less (suc n) c p =
      let q = tried j (choice_of j p.state c) p in
      less-trans p q (turns n j (suc c) q) (tried-less (choice_of j p.state c) p) (turns-less n (suc c) q)

  round-less : (p : Progress) → Less (fresh p) (round j p)
  round-less p = turns-less p.state.count 0 (fresh p)

  -- the lowest suspended thread is enabled, and its entry written
  enabled-less : (q : Progress) → may_try q ≡ true → lowest_suspended q.state < none → (tried j (Enable (lowest_suspended q.state)) q).left < q.left
  unfolding tried recorded
  enabled-less q may low =
      let going = (both (not (is_over q.state.outcome)) (leb 3 q.left) may).0 in
      let log : (entry_of j q.state (Enable (lowest_suspended q.state))).log ≡ 0 = enables j q.state (lowest_suspended q.state) (not-true _ going) low (found 32 q.state.threads 0 low) in
      rw (may, log) (omega (arith, left-three q may))
    where
      not-true : (b : Bool) → not b ≡ true → b ≡ false
      not-true true e = false-not e
      not-true false e = refl

  plays-try : (q : Progress) → plays_on q ≡ true → may_try q ≡ true
  plays-try q e = (both (may_try q) (q.moved || ltb (lowest_suspended q.state) none) e).0

  wakened-less : (k : ℕ) (q : Progress) → plays_on q ≡ true → (q.moved ≡ true → q.left < k) → q.left ≤ k → (wakened j q).left < k
  unfolding wakened
  wakened-less k q e moved most = go q.moved refl
    where
      low : (b : Bool) → q.moved ≡ b → b ≡ false → lowest_suspended q.state < none
      low b h f = ltb-true (lowest_suspended q.state) none (rw (h, f) at (both (may_try q) (q.moved || ltb (lowest_suspended q.state) none) e).1)

      go : (b : Bool) → q.moved ≡ b → (cond b q (tried j (Enable (lowest_suspended q.state)) q)).left < k
      go true h = moved h
      go false h = omega (arith, most, enabled-less q (plays-try q e) (low false h refl))

  -- no round is left where it ends
  pub stops : (n : ℕ) (p : Progress) → p.left < n → plays_on (rounds n j p) ≡ false
  unfolding rounds
  stops zero p l = absurd (omega (arith, l))
  stops (suc n) p l = go (λ k. stops n (wakened j (round j p)) k) (plays_on (round j p)) refl
    where
      less : (round j p).moved ≡ true → (round j p).left < p.left
      less d = ⊎_elim (λ m. false-not m) (λ k. k) ((round-less p).moves d)

      go : ((wakened j (round j p)).left < n → plays_on (rounds n j (wakened j (round j p))) ≡ false) → (b : Bool) → plays_on (round j p) ≡ b
          → plays_on (cond b (rounds n j (wakened j (round j p))) (round j p)) ≡ false
      go next true e = next (omega (arith, l, wakened-less p.left (round j p) e less (round-less p).fewer))
      go next false e = e

-- so it is over, or few bytes are left, or nothing was accepted and no thread is suspended
pub ended : (p : Progress) → plays_on p ≡ false
    → (is_over p.state.outcome ≡ true) ⊎ ((p.left < 3) ⊎ ((p.moved ≡ false) × (none ≤ lowest_suspended p.state)))
ended p = go (is_over p.state.outcome) (leb 3 p.left) p.moved (ltb (lowest_suspended p.state) none) refl refl refl refl
  where
    go : (o l m s : Bool) → is_over p.state.outcome ≡ o → leb 3 p.left ≡ l → p.moved ≡ m → ltb (lowest_suspended p.state) none ≡ s
        → ((not o && l) && (m || s)) ≡ false
        → (is_over p.state.outcome ≡ true) ⊎ ((p.left < 3) ⊎ ((p.moved ≡ false) × (none ≤ lowest_suspended p.state)))
    go true l m s a b c d e = inl a
    go false false m s a b c d e = inr (inl (leb-false 3 p.left b))
    go false true true s a b c d e = let z : ◌≡◌ {A = ℕ} 0 1 = cc in absurd (omega arith)
    go false true false true a b c d e = let z : ◌≡◌ {A = ℕ} 0 1 = cc in absurd (omega arith)
    go false true false false a b c d e = inr (inr (c, ltb-false (lowest_suspended p.state) none d))
