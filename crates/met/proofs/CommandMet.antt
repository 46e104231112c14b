-- What an accepted image tells of the command that is met at a position of a routine, by its effect: the position behind it, or its target,
-- is a command's start, what a fork asks for is in range, and its numbers are small. The machine and the serial run both stand on it.
-- Assumes a good job, and that the position is a command's start.
use mathlib.Core.Bool.{Bool, true, false, cond, ◌&&◌}
use mathlib.Core.List.{List}
use mathlib.Core.Path.{◌≡◌, refl, sym, ◌∙◌, ap}
use Prim.Native.Nat.{ℕ, ◌+◌, ◌≤◌, ◌<◌}
use native.Mathlib.Decide.{dec_lt}
use native.Mathlib.Omega.{arith}
use borrow.Author.Tests.{ltb-true, leb-true}
use lib.Dec.{ltb, leb, eqb}
use lib.ListN.{get_or, length, get_or-eq_default}
use Rattle.command.specs.declared.Command.{Command}
use Rattle.command.specs.declared.Command.TheVariants.{Set, Add, Subtract, Load, Store, JumpIfZero, Jump, Lfork, Fork, Join, Suspend, Yield, Return, Share}
use Rattle.command.specs.Command.{decoded_at, width_of}
use Rattle.command.specs.Weight.{weight_of}
use Rattle.command.proofs.Bools.{both}
use Rattle.command.proofs.RoundTrip.{Stands, stands}
use Rattle.command.proofs.Tables.{width-most}
use Rattle.image.specs.Layout.{routine_count, slots_of, arguments_of, start_of, code_of}
use Rattle.image.specs.Code.{commands_of, is_start, ends, target_good}
use Rattle.image.specs.Image.{in_range}
use Rattle.image.proofs.Accepted.{Accepts, accepted}
use Rattle.image.proofs.Laws.{Placed, placed, slots-most}
use Rattle.window.specs.declared.Window.{Window}
use Rattle.window.specs.declared.Cut.{Cut}
use Rattle.std.specs.Prelude.{Option, Some, None, is_some}
use Rattle.window.specs.Rights.{cut_at, share_at}
use Rattle.window.proofs.Laws.{cut-means, share-means}
use Rattle.thread.specs.declared.Effect.{Effect}
use Rattle.thread.specs.declared.Fault.{Fault}
use Rattle.thread.specs.declared.Effect.TheVariants.{Faults, Sets, Loads, Stores, Goes, Continues, Lforks, Forks, Joins, Suspends, Yields, Returns, Shares}
use Rattle.thread.specs.Effect.{Context, any_pending, unless_pending, provided, forking, effect_of}
use Rattle.thread.specs.View.{context_of, may_cut, may_share}
use Rattle.thread.specs.Job.{Job, GoodJob, offset_at, byte_at}
use Rattle.thread.proofs.Routines.{InRange}
use Rattle.met.proofs.Operands.{in_frame, in-range}
use Rattle.thread.proofs.EffectFacts.{AllClear, all-clear, Guarded, guarded}
use Rattle.thread.proofs.Widths.{Widened, decoded-wide}

-- a cut that is allowed lies between the mark and the ceiling
pub cut_inside : (w : Window) (e : ℕ) → may_cut w e ≡ true → (w.mark ≤ e) × (e ≤ w.ceiling)
cut_inside w e h = go (cut_at w e) refl h
  where
    go : (c : Option Cut) → cut_at w e ≡ c → is_some c ≡ true → (w.mark ≤ e) × (e ≤ w.ceiling)
    go (Some c) f g = let m = cut-means w e c f in (m.low, m.high)
    go None f g = absurd (let z : ◌≡◌ {A = ℕ} 0 1 = cc in omega arith)

-- and so does what may be shared
pub share-inside : (w : Window) (x : ℕ) → may_share w x ≡ true → (w.mark ≤ x) × (x ≤ w.ceiling)
share-inside w x h = go (share_at w x) refl h
  where
    go : (c : Option Window) → share_at w x ≡ c → is_some c ≡ true → (w.mark ≤ x) × (x ≤ w.ceiling)
    go (Some rest) f g = let m = share-means w x rest f in (m.low, m.high)
    go None f g = absurd (let z : ◌≡◌ {A = ℕ} 0 1 = cc in omega arith)

-- what a fork asks for
pub record ForkMet (image : List ℕ) (slots : ℕ) (w : Window) (r d a e : ℕ) : Type 0 where
  pub routine : r < routine_count image
  pub result : d < slots
  pub arguments : a + arguments_of image r ≤ slots
  pub low : w.mark ≤ e
  pub high : e ≤ w.ceiling

-- what a 0E asks for
pub record ShareMet (w : Window) (x : ℕ) : Type 0 where
  pub low : w.mark ≤ x
  pub high : x ≤ w.ceiling

-- in a routine of so many slots, with commands at certain starts; `next` is the position behind the command that is met
module _ (image : List ℕ) (slots : ℕ) (start : ℕ → Bool) (next : ℕ) (slot : ℕ → ℕ) (pending : ℕ → Bool) (w : Window) where
  abbrev pub Facts : Effect → Type 0
  Facts (Faults n) = Unit {0}
  Facts (Sets d v) = (d < slots) × (start next ≡ true)
  Facts (Loads d a) = (d < slots) × (start next ≡ true)
  Facts (Stores a v) = start next ≡ true
  Facts (Goes t) = start t ≡ true
  Facts Continues = start next ≡ true
  Facts (Lforks r d a e) = ForkMet image slots w r d a e × (start next ≡ true)
  Facts (Forks r d a e) = ForkMet image slots w r d a e × (start next ≡ true)
  Facts Joins = start next ≡ true
  Facts Suspends = start next ≡ true
  Facts Yields = start next ≡ true
  Facts (Returns v) = Unit {0}
  Facts (Shares x) = ShareMet w x × (start next ≡ true)

  -- a record, so that the effect can be read off it
  pub record Met (e : Effect) : Type 0 where
    pub facts : Facts e

  met-unless : (n : Fault) (ks : List ℕ) (e : Effect) → (AllClear pending ks → Met e) → Met (unless_pending n pending ks e)
  unfolding unless_pending
  met-unless n ks e f = go (any_pending pending ks) (λ h. f (all-clear pending ks h))
    where
      go : (t : Bool) → (t ≡ false → Met e) → Met (cond t (Faults n) e)
      go true f = record { facts = tt }
      go false f = f refl

  met-provided : (t : Bool) (n : Fault) (e : Effect) → (t ≡ true → Met e) → Met (provided t n e)
  unfolding provided
  met-provided true n e f = f refl
  met-provided false n e f = record { facts = tt }

  met-choice : (t : Bool) (x y : Effect) → Met x → Met y → Met (cond t x y)
  met-choice true x y f g = f
  met-choice false x y f g = g

  met-fork : (r d a k : ℕ) (e : Effect) → in_range image slots (Lfork r d a k) ≡ true → (ForkMet image slots w r d a (slot k) → Met e)
      → Met (forking (arguments_of image) (context_of slot pending w) r d a k e)
  unfolding forking in_range
  met-fork r d a k e i f = met-unless _ _ _ (λ none. met-provided _ _ _ (λ allowed. f (asks (cut_inside w (slot k) allowed))))
    where
      range : (ltb r (routine_count image) ≡ true) × ((ltb d slots && (ltb k slots && true)) && leb (a + arguments_of image r) slots ≡ true)
      range = both (ltb r (routine_count image)) ((ltb d slots && (ltb k slots && true)) && leb (a + arguments_of image r) slots) i

      slots-range : (ltb d slots && (ltb k slots && true) ≡ true) × (leb (a + arguments_of image r) slots ≡ true)
      slots-range = both (ltb d slots && (ltb k slots && true)) (leb (a + arguments_of image r) slots) range.1

      asks : (w.mark ≤ slot k) × (slot k ≤ w.ceiling) → ForkMet image slots w r d a (slot k)
      asks c = record {
        routine = ltb-true r (routine_count image) range.0;
        result = ltb-true d slots (both (ltb d slots) (ltb k slots && true) slots-range.0).0;
        arguments = leb-true (a + arguments_of image r) slots slots-range.1;
        low = c.0;
        high = c.1;
      }

  first_slot : (d : ℕ) (rest : Bool) → (ltb d slots && rest) ≡ true → d < slots
  first_slot d rest h = ltb-true _ _ (both _ _ h).0

  -- by the command
  pub met : (c : Command) → in_range image slots c ≡ true → target_good start c ≡ true → (ends c ≡ false → start next ≡ true)
      → Met (effect_of (arguments_of image) (context_of slot pending w) c)
  unfolding effect_of in_range
  met (Set d v) i t n = met-unless _ _ _ (λ none. record { facts = (first_slot d true i, n refl) })
  met (Add d x y) i t n = met-unless _ _ _ (λ none. record { facts = (first_slot d (ltb x slots && (ltb y slots && true)) i, n refl) })
  met (Subtract d x y) i t n = met-unless _ _ _ (λ none. record { facts = (first_slot d (ltb x slots && (ltb y slots && true)) i, n refl) })
  met (Load d a) i t n = met-unless _ _ _ (λ none. met-provided _ _ _ (λ allowed. record { facts = (first_slot d (ltb a slots && true) i, n refl) }))
  met (Store x y) i t n = met-unless _ _ _ (λ none. met-provided _ _ _ (λ allowed. record { facts = n refl }))
  met (JumpIfZero a p) i t n = met-unless _ _ _ (λ none. met-choice (eqb (slot a) 0) (Goes p) Continues (record { facts = t }) (record { facts = n refl }))
  met (Jump p) i t n = record { facts = t }
  met (Lfork r d a k) i t n = met-fork r d a k _ i (λ f. record { facts = (f, n refl) })
  met (Fork r d a k) i t n = met-fork r d a k _ i (λ f. record { facts = (f, n refl) })
  met Join i t n = record { facts = n refl }
  met Suspend i t n = record { facts = n refl }
  met Yield i t n = record { facts = n refl }
  met (Return a) i t n = met-unless _ _ _ (λ none. record { facts = tt })
  met (Share a) i t n = met-unless _ _ _ (λ none. met-provided _ _ _ (λ allowed. let c = share-inside w (slot a) allowed in
      record { facts = (record { low = c.0; high = c.1 }, n refl) }))

-- at position p of routine r
module _ (j : Job) (good : GoodJob j) (r p : ℕ) (routine : r < routine_count j.image) (position : is_start (commands_of (code_of j.image r)) p ≡ true) where
  accepts : Accepts j.image
  accepts = accepted j.image good.image

  here : Placed j.image r p
  here = placed j.image accepts r routine p position

  found : Stands j.image (start_of j.image r + p) here.command here.width
  found = stands j.image (start_of j.image r + p) here.command here.width here.found

  offset-is : offset_at j r p ≡ start_of j.image r + p
  offset-is = ap (λ z. z + p) (good.starts r routine)

  width_is : here.width ≡ width_of (byte_at j r p)
  width_is = found.width ∙ ap (λ z. width_of (get_or j.image z 0)) (sym offset-is)

  command-is : here.command ≡ decoded_at j.image (offset_at j r p)
  command-is = found.is ∙ ap (λ z. decoded_at j.image z) (sym offset-is)

  pub slots-few : slots_of j.image r ≤ 16
  slots-few = slots-most j.image accepts r routine

  -- it has bytes, which lie in the image
  pub some_bytes : 1 ≤ width_of (byte_at j r p)
  some_bytes = rw width_is at here.some

  pub place-small : offset_at j r p < 65536
  place-small = omega (arith, offset-is, found.whole, accepts.size)

  pub next_small : p + width_of (byte_at j r p) < 65536
  next_small = omega (arith, offset-is, found.whole, accepts.size, width-most (byte_at j r p))

  -- it weighs 1 at least
  pub weighs : 1 ≤ weight_of j.weights (byte_at j r p)
  weighs = good.weighs (byte_at j r p) some_bytes

  -- so its first byte is one of the table's
  pub byte-few : byte_at j r p < length j.weights
  byte-few = go (dec_lt (byte_at j r p) (length j.weights))
    where
      go : Dec (byte_at j r p < length j.weights) → byte_at j r p < length j.weights
      go (yes h) = h
      go (no h) = omega (arith, weighs, get_or-eq_default j.weights 0 {n = byte_at j r p} (omega arith))

  pub operands-few : InRange (decoded_at j.image (offset_at j r p))
  operands-few = rw command-is at (in-range j.image (slots_of j.image r) here.command slots-few (in_frame j.image (slots_of j.image r) here.command here.range))

  -- what was tested where it has its effect
  pub tested-here : (own : Context) → Guarded (arguments_of j.image) own (effect_of (arguments_of j.image) own (decoded_at j.image (offset_at j r p)))
  tested-here own = guarded (arguments_of j.image) own (decoded_at j.image (offset_at j r p)) operands-few

  -- the effect tells the command's bytes
  pub width-here : (own : Context) → Widened (width_of (byte_at j r p)) (effect_of (arguments_of j.image) own (decoded_at j.image (offset_at j r p)))
  width-here own = decoded-wide (arguments_of j.image) own j.image (offset_at j r p) some_bytes

  -- what the image tells of the effect
  pub met-here : (slot : ℕ → ℕ) (pending : ℕ → Bool) (w : Window)
      → Met j.image (slots_of j.image r) (is_start (commands_of (code_of j.image r))) (p + width_of (byte_at j r p)) slot pending w
      (effect_of (arguments_of j.image) (context_of slot pending w) (decoded_at j.image (offset_at j r p)))
  met-here slot pending w = rw (← command-is) (met _ _ _ _ _ _ _ here.command here.range here.target
      (λ k. ap (λ z. is_start (commands_of (code_of j.image r)) (p + z)) (sym width_is) ∙ here.next k))
