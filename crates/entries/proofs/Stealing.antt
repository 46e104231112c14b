-- A steal: the tests in their order, and a seed that is carried out. Assumes nothing.
use Rattle.std.proofs.Common.{◌≡◌, ℕ, ◌+◌, ◌-◌, ◌<◌, ◌≤◌, Bool, true, false, cond, ◌||◌, eqb, ◌⊎◌, List, ◌∷◌, length, get_or, sym, refl, ap, ◌∙◌, inl, inr, arith, le-ltb, lt-ltb, eqb-true, le-leb}
use borrow.Author.Tests.{lt-leb}
use Rattle.command.specs.Command.{decoded, width_of}
use Rattle.command.specs.Weight.{weight_of}
use Rattle.image.specs.Layout.{arguments_of}
use Rattle.stacklets.specs.Frames.{slot_of}
use Rattle.thread.specs.declared.Thread.{Thread}
use Rattle.thread.specs.declared.Effect.{Effect}
use Rattle.thread.specs.declared.Fault.TheVariants.{SlotPending, CutOutOfRange}
use Rattle.thread.specs.declared.Effect.TheVariants.{Faults, Lforks, Forks}
use Rattle.thread.specs.declared.Status.TheVariants.{Lent}
use Rattle.thread.specs.Thread.{is_pending, status_number, ◌is◌}
use Rattle.thread.specs.Effect.{Context, run, any_pending, unless_pending, provided, forking, effect_of}
use Rattle.thread.specs.View.{context_of, may_cut}
use Rattle.rules.specs.State.{Job, State, After, is_over, thread_at, on_core}
use Rattle.rules.specs.Update.{refused}
use Rattle.rules.specs.Turn.{Turn, turn_at, offset_of, byte_of, effect_at}
use Rattle.rules.specs.Rules.{is_seed, stolen_of, steal_of}
use Rattle.rules.specs.Sound.{Used}
use Rattle.tables.specs.Meaning.{size}
use Rattle.thread.proofs.Routines.{InRange}
use Rattle.entries.specs.Given.{Forking, SeedMet, seed_of, turn_with}

-- both forks are carried out alike as a seed
module _ (j : Job) (s : State) (o : Turn) where
  alike : (p q : Bool) (r d a e : ℕ)
      → stolen_of j s o (cond p (Faults SlotPending) (cond q (Lforks r d a e) (Faults CutOutOfRange))) ≡ stolen_of j s o (cond p (Faults SlotPending) (cond q (Forks r d a e) (Faults CutOutOfRange)))
  unfolding stolen_of
  alike true q r d a e = refl
  alike false true r d a e = refl
  alike false false r d a e = refl

  pub either-fork : (own : Context) (arguments : ℕ → ℕ) (byte r d a w : ℕ) → (byte ≡ 8) ⊎ (byte ≡ 9)
      → stolen_of j s o (effect_of arguments own (decoded byte r d a w)) ≡ stolen_of j s o (forking arguments own r d a w (Forks r d a (own.slot w)))
  unfolding effect_of forking unless_pending provided decoded
  either-fork own arguments byte r d a w (inl e) =
      rw e (alike (any_pending own.pending (d ∷ w ∷ run a (arguments r))) (own.may_cut (own.slot w)) r d a (own.slot w))
  either-fork own arguments byte r d a w (inr e) = rw e

pub either-byte : (byte : ℕ) (b : Bool) → b ≡ (eqb byte 8 || eqb byte 9) → b ≡ true → (byte ≡ 8) ⊎ (byte ≡ 9)
either-byte byte b e f = go (eqb byte 8) refl
  where
    go : (x : Bool) → eqb byte 8 ≡ x → (byte ≡ 8) ⊎ (byte ≡ 9)
    go true g = inl (eqb-true byte 8 g)
    go false g = inr (eqb-true byte 9 (rw g at (sym e ∙ f)))

pub fork-wide : (byte : ℕ) → (byte ≡ 8) ⊎ (byte ≡ 9) → width_of byte ≡ 5
fork-wide byte (inl e) = rw e
fork-wide byte (inr e) = rw e

-- the tests in their order
module _ (j : Job) (s : State) (c t : ℕ) (b : Bool) (e : b ≡ is_over s.outcome) where
  pub steal-over : b ≡ true → refused 19 s ≡ steal_of j s c t
  unfolding steal_of
  steal-over f = rw (← e, f)

  module _ (n : ℕ) (going : b ≡ false) (count : n ≡ s.count) where
    pub steal-no-core : n ≤ c → refused 14 s ≡ steal_of j s c t
    unfolding steal_of
    steal-no-core l = rw (← e, going, ← count, le-leb _ _ l)

    module _ (k : ℕ) (core : c < n) (on : k ≡ on_core s c) where
      pub steal-busy : k < 32 → refused 15 s ≡ steal_of j s c t
      unfolding steal_of
      steal-busy l = rw (← e, going, ← count, lt-leb _ _ core, ← on, lt-ltb _ _ l)

      module _ (idle : 32 ≤ k) where
        pub steal-no-thread : 32 ≤ t → refused 18 s ≡ steal_of j s c t
        unfolding steal_of is_seed
        steal-no-thread l = rw (← e, going, ← count, lt-leb _ _ core, ← on, le-ltb _ _ idle, le-ltb _ _ l)

        module _ (low : t < 32) (th : Thread) (met : th ≡ thread_at s t) (lent : Bool) (is-lent : lent ≡ (th.status is Lent)) where
          pub steal-not-lent : lent ≡ false → refused 18 s ≡ steal_of j s c t
          unfolding steal_of is_seed
          steal-not-lent f = rw (← e, going, ← count, lt-leb _ _ core, ← on, le-ltb _ _ idle, lt-ltb _ _ low, ← met, ← is-lent, f)

          module _ (is_true : lent ≡ true) (byte : ℕ) (first : byte ≡ byte_of j th) (forks : Bool) (is-fork : forks ≡ (eqb byte 8 || eqb byte 9)) where
            pub steal-no-fork : forks ≡ false → refused 18 s ≡ steal_of j s c t
            unfolding steal_of is_seed
            steal-no-fork f =
                rw (← e, going, ← count, lt-leb _ _ core, ← on, le-ltb _ _ idle, lt-ltb _ _ low, ← met, ← is-lent, is_true, ← first, ← is-fork, f)

            module _ (seed : forks ≡ true) (w u : ℕ) (weight : w ≡ weight_of j.weights byte) (units : u ≡ s.units) where
              pub steal-dear : j.allowance - u < w → refused 22 s ≡ steal_of j s c t
              unfolding steal_of is_seed
              steal-dear l =
                  rw (← e, going, ← count, lt-leb _ _ core, ← on, le-ltb _ _ idle, lt-ltb _ _ low, ← met, ← is-lent, is_true, ← first, ← is-fork, seed, ← weight, ← units, lt-ltb _ _ l)

              pub stolen : w ≤ j.allowance - u → (a : After) → a ≡ stolen_of j s (turn_at j s c t) (effect_at j s (thread_at s t)) → a ≡ steal_of j s c t
              unfolding steal_of is_seed
              stolen l a f =
                  f ∙ rw (← e, going, ← count, lt-leb _ _ core, ← on, le-ltb _ _ idle, lt-ltb _ _ low, ← met, ← is-lent, is_true, ← first, ← is-fork, seed, ← weight, ← units, le-ltb _ _ l)

-- a lent thread is in use
pub lent-used : (s : State) (t : ℕ) (th : Thread) → th ≡ thread_at s t → (th.status is Lent) ≡ true → Used s t
lent-used s t th met lent = rw (← met) (omega (arith, eqb-true (status_number th.status) 5 lent))

pub fork-small : (byte r d a w : ℕ) → (byte ≡ 8) ⊎ (byte ≡ 9) → InRange (decoded byte r d a w) → d < 16
unfolding decoded
fork-small byte r d a w (inl e) i = rw e at i
fork-small byte r d a w (inr e) i = rw e at i

-- what the seed's effect relies on
pub seed-ready : (xs image words : List ℕ) (c t w r d a k : ℕ) (th : Thread) → length xs ≡ size
    → (may_cut th.family.window (slot_of words th.origin.base k) ≡ true → Forking xs c t w d (slot_of words th.origin.base k)) → SeedMet xs c t w (seed_of image words th r d a k)
unfolding forking unless_pending provided
seed-ready xs image words c t w r d a k th l f =
    go (any_pending (is_pending th.family.pending) (d ∷ k ∷ run a (arguments_of image r))) (may_cut th.family.window (slot_of words th.origin.base k)) f
  where
    go : (p q : Bool) → (q ≡ true → Forking xs c t w d (slot_of words th.origin.base k))
        → SeedMet xs c t w (cond p (Faults SlotPending) (cond q (Forks r d a (slot_of words th.origin.base k)) (Faults CutOutOfRange)))
    go true q g = l
    go false true g = g refl
    go false false g = l

-- the seed as the rule has it
pub seed-carried : (j : Job) (s : State) (c t w place next byte r d a k : ℕ) (th : Thread) (seed : Effect) (x : After)
    → th ≡ thread_at s t → place ≡ offset_of j th → byte ≡ get_or j.image place 0 → r ≡ get_or j.image (place + 1) 0 → d ≡ get_or j.image (place + 2) 0
    → a ≡ get_or j.image (place + 3) 0 → k ≡ get_or j.image (place + 4) 0 → (byte ≡ 8) ⊎ (byte ≡ 9) → w ≡ weight_of j.weights byte
    → next ≡ th.position + 5 → seed ≡ seed_of j.image s.store.words th r d a k → x ≡ stolen_of j s (turn_with c t th w next place) seed
    → x ≡ stolen_of j s (turn_at j s c t) (effect_at j s (thread_at s t))
unfolding effect_at
seed-carried j s c t w place next byte r d a k th seed x met ep eb er ed ea ek which ew en es ex =
    ex ∙ ap (stolen_of j s (turn_with c t th w next place)) es
    ∙ sym (either-fork j s (turn_with c t th w next place) (context_of (slot_of s.store.words th.origin.base) (is_pending th.family.pending) th.family.window) (arguments_of j.image) byte r d a k which)
    ∙ rw (← met, ← ep, ← eb, ← er, ← ed, ← ea, ← ek, fork-wide byte which, ← ew, ← en)
