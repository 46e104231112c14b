-- What a sound state gives of the command that a thread in use meets. Assumes nothing.
use Rattle.std.proofs.Common.{◌≡◌, ℕ, ◌+◌, ◌%◌, ◌^◌, ◌<◌, Bool, true, List, [], length, sym, refl, ap, ◌∙◌, ⊎_elim, mod-eq_of_lt, arith}
use Rattle.command.specs.Command.{decoded_at, width_of}
use Rattle.image.specs.Layout.{arguments_of}
use Rattle.window.specs.declared.Window.{Window}
use Rattle.window.proofs.Laws.{store-means}
use Rattle.thread.specs.declared.Thread.{Thread}
use Rattle.thread.specs.declared.Effect.{Effect}
use Rattle.thread.specs.declared.Effect.TheVariants.{Faults, Sets, Loads, Stores, Goes, Continues, Lforks, Forks, Joins, Suspends, Yields, Returns, Shares}
use Rattle.thread.specs.Effect.{Context, effect_of}
use Rattle.thread.specs.Bytes.{bytes_by}
use Rattle.thread.specs.View.{context_of}
use Rattle.thread.proofs.EffectFacts.{Guarded}
use Rattle.thread.proofs.Routines.{InRange}
use Rattle.thread.proofs.Widths.{Widened}
use Rattle.rules.specs.State.{Job, State, thread_at}
use Rattle.rules.specs.Turn.{offset_of, byte_of}
use Rattle.rules.specs.Return.{return_of, return_to_parent}
use Rattle.rules.specs.Rules.{carried_of}
use Rattle.rules.specs.Sound.{Sound, Used}
use Rattle.met.proofs.CommandMet.{cut_inside, share-inside, place-small, next_small, byte-few, operands-few, tested-here, width-here}
use Rattle.tables.specs.Meaning.{meaning}
use Rattle.entries.specs.Own.{Stored, IsOther}
use Rattle.entries.specs.Given.{Seated, Carrying, record_in, turn_with}
use Rattle.dispatch.specs.Orderly.{HeadBelow}
use Rattle.dispatch.proofs.Able.{children-few}

module _ (j : Job) (s : State) (ok : Sound j s) (t : ℕ) (th : Thread) (met : th ≡ thread_at s t) (used : Used s t) where
  pub place-low : offset_of j th < 65536
  place-low = rw met (place-small j ok.job (thread_at s t).origin.routine (thread_at s t).position (ok.placed.routine t used) (ok.placed.position t used))

  pub next_low : th.position + width_of (byte_of j th) < 65536
  next_low = rw met (next_small j ok.job (thread_at s t).origin.routine (thread_at s t).position (ok.placed.routine t used) (ok.placed.position t used))

  pub known-byte : byte_of j th < length j.weights
  known-byte = rw met (byte-few j ok.job (thread_at s t).origin.routine (thread_at s t).position (ok.placed.routine t used) (ok.placed.position t used))

  pub range : InRange (decoded_at j.image (offset_of j th))
  range = rw met (operands-few j ok.job (thread_at s t).origin.routine (thread_at s t).position (ok.placed.routine t used) (ok.placed.position t used))

  pub tested : (own : Context) → Guarded (arguments_of j.image) own (effect_of (arguments_of j.image) own (decoded_at j.image (offset_of j th)))
  tested own = rw met (tested-here j ok.job (thread_at s t).origin.routine (thread_at s t).position (ok.placed.routine t used) (ok.placed.position t used) own)

  pub wide : (own : Context) → Widened (width_of (byte_of j th)) (effect_of (arguments_of j.image) own (decoded_at j.image (offset_of j th)))
  wide own = rw met (width-here j ok.job (thread_at s t).origin.routine (thread_at s t).position (ok.placed.routine t used) (ok.placed.position t used) own)

  pub few : th.family.children < 255
  few = rw met (children-few j s ok t used)

  pub based : th.origin.base < 1024
  based = rw met (ok.frames.bounded t used)

  pub not-own-parent : t < 32 → th.origin.parent ≡ t → ⊥
  not-own-parent low e = ⊎_elim (λ z. let y = z.1 in let x = same in omega arith) (λ z. let y = ap ok.tree.rank same in let x = z.2 in omega arith) (ok.tree.tree t used)
    where
      same : (thread_at s t).origin.parent ≡ t
      same = ap (λ (h : Thread). h.origin.parent) (sym met) ∙ e

small : (x : ℕ) → x < 65536 → x % 2 ^ 16 ≡ x
small x h = mod-eq_of_lt h

-- the position behind the command, as the effect tells it and as the rule has it
pub carried-wide : (j : Job) (s : State) (c t w offset p n : ℕ) (h : Thread) (e : Effect) → Widened n e → p + n < 65536
    → carried_of j s (turn_with c t h w ((p + bytes_by e) % 2 ^ 16) offset) e ≡ carried_of j s (turn_with c t h w (p + n) offset) e
unfolding carried_of return_of return_to_parent
carried-wide j s c t w offset p n h (Faults x) k l = refl
carried-wide j s c t w offset p n h (Sets d v) k l = let e : n ≡ 4 = k.is in rw (e, small (p + 4) (omega arith))
carried-wide j s c t w offset p n h (Loads d a) k l = let e : n ≡ 3 = k.is in rw (e, small (p + 3) (omega arith))
carried-wide j s c t w offset p n h (Stores a v) k l = let e : n ≡ 3 = k.is in rw (e, small (p + 3) (omega arith))
carried-wide j s c t w offset p n h (Goes q) k l = refl
carried-wide j s c t w offset p n h Continues k l = let e : n ≡ 4 = k.is in rw (e, small (p + 4) (omega arith))
carried-wide j s c t w offset p n h (Lforks r d a e) k l = let e : n ≡ 5 = k.is in rw (e, small (p + 5) (omega arith))
carried-wide j s c t w offset p n h (Forks r d a e) k l = let e : n ≡ 5 = k.is in rw (e, small (p + 5) (omega arith))
carried-wide j s c t w offset p n h Joins k l = let e : n ≡ 1 = k.is in rw (e, small (p + 1) (omega arith))
carried-wide j s c t w offset p n h Suspends k l = let e : n ≡ 1 = k.is in rw (e, small (p + 1) (omega arith))
carried-wide j s c t w offset p n h Yields k l = let e : n ≡ 1 = k.is in rw (e, small (p + 1) (omega arith))
carried-wide j s c t w offset p n h (Returns v) k l = refl
carried-wide j s c t w offset p n h (Shares x) k l = let e : n ≡ 2 = k.is in rw (e, small (p + 2) (omega arith))

-- what was tested is what carrying out relies on
module _ (arguments slot : ℕ → ℕ) (pending : ℕ → Bool) (w : Window) where
  pub stored : (e : Effect) → Guarded arguments (context_of slot pending w) e → Stored e
  stored (Faults n) g = tt
  stored (Sets d v) g = tt
  stored (Loads d a) g = tt
  stored (Stores a v) g = (store-means w a g.facts).0
  stored (Goes p) g = tt
  stored Continues g = tt
  stored (Lforks r d a e) g = tt
  stored (Forks r d a e) g = tt
  stored Joins g = tt
  stored Suspends g = tt
  stored Yields g = tt
  stored (Returns v) g = tt
  stored (Shares x) g = tt

  module _ (xs : List ℕ) (c t weight : ℕ) (is-window : w ≡ (record_in xs t).family.window) (seated : Seated xs c t weight)
      (linked : (record_in xs t).connected ≡ true → (record_in xs t).origin.parent < 32) (other : (record_in xs t).origin.parent ≡ t → ⊥)
      (fewer : (record_in xs t).family.children < 255)
      (numbers : HeadBelow 32 (meaning xs [] []).queues.free_threads) (stacklets : HeadBelow 16 (meaning xs [] []).queues.free_stacklets) where
    pub carrying : (e : Effect) → Guarded arguments (context_of slot pending w) e → IsOther e → Carrying xs c t weight e
    carrying (Faults n) g o = seated.sized
    carrying (Sets d v) g o = absurd o
    carrying (Loads d a) g o = absurd o
    carrying (Stores a v) g o = absurd o
    carrying (Goes p) g o = absurd o
    carrying Continues g o = absurd o
    carrying (Lforks r d a e) g o = let inside = cut_inside w e g.facts.allowed in record {
      seated = seated;
      children = fewer;
      numbers = numbers;
      stacklets = stacklets;
      result = g.facts.in-range;
      low = rw is-window at inside.0;
      high = rw is-window at inside.1;
    }
    carrying (Forks r d a e) g o = let inside = cut_inside w e g.facts.allowed in record {
      seated = seated;
      children = fewer;
      numbers = numbers;
      stacklets = stacklets;
      result = g.facts.in-range;
      low = rw is-window at inside.0;
      high = rw is-window at inside.1;
    }
    carrying Joins g o = seated
    carrying Suspends g o = record { seated = seated; linked = linked }
    carrying Yields g o = record { seated = seated; linked = linked }
    carrying (Returns v) g o = record { seated = seated; other = other }
    carrying (Shares x) g o = let inside = share-inside w x g.facts in
        record { seated = seated; low = rw is-window at inside.0; high = rw is-window at inside.1 }
