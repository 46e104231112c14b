-- What test 6 says of a command's operands, as facts on numbers; so a command's effect depends on the thread's own frame alone. Assumes
-- nothing.
use mathlib.Core.Bool.{Bool, true, cond, ◌&&◌}
use mathlib.Core.List.{List, [], ◌∷◌}
use mathlib.Core.Path.{◌≡◌, refl, ap, ap₂}
use Prim.Native.Nat.{ℕ, ◌+◌, ◌≤◌, ◌<◌}
use native.Mathlib.Omega.{arith}
use lib.Dec.{ltb, leb, eqb}
use borrow.Author.Tests.{ltb-true, leb-true}
use Rattle.command.specs.declared.Command.{Command}
use Rattle.command.specs.declared.Command.TheVariants.{Set, Add, Subtract, Load, Store, JumpIfZero, Jump, Lfork, Fork, Join, Suspend, Yield, Return, Share}
use Rattle.command.proofs.Bools.{both}
use Rattle.image.specs.Layout.{routine_count, arguments_of}
use Rattle.image.specs.Image.{all_slots, fork_in_range, in_range}
use Rattle.window.specs.declared.Window.{Window}
use Rattle.window.specs.Rights.{may_load, may_store}
use Rattle.thread.specs.declared.Fault.TheVariants.{SlotPending, AddressNotAllowed, CutOutOfRange, ReturnPending, ShareOutOfRange}
use Rattle.thread.specs.declared.Effect.TheVariants.{Sets, Loads, Stores, Goes, Continues, Lforks, Forks, Returns, Shares}
use Rattle.thread.specs.Effect.{run, unless_pending, provided, sum, difference, forking, effect_of}
use Rattle.thread.specs.View.{context_of, may_cut, may_share}
use Rattle.thread.proofs.Routines.{InRange}

-- the operands of a fork, in a routine of n slots
pub record ForkOperands (s : List ℕ) (n r d a w : ℕ) : Type 0 where
  pub routine : r < routine_count s
  pub result : d < n
  pub cut : w < n
  pub arguments : a + arguments_of s r ≤ n

-- the operands of a command, in a routine of n slots
abbrev pub InFrame : List ℕ → ℕ → Command → Type 0
InFrame s n (Set d v) = d < n
InFrame s n (Add d a b) = (d < n) × (a < n) × (b < n)
InFrame s n (Subtract d a b) = (d < n) × (a < n) × (b < n)
InFrame s n (Load d a) = (d < n) × (a < n)
InFrame s n (Store a b) = (a < n) × (b < n)
InFrame s n (JumpIfZero a t) = a < n
InFrame s n (Jump t) = Unit {0}
InFrame s n (Lfork r d a w) = ForkOperands s n r d a w
InFrame s n (Fork r d a w) = ForkOperands s n r d a w
InFrame s n Join = Unit {0}
InFrame s n Suspend = Unit {0}
InFrame s n Yield = Unit {0}
InFrame s n (Return a) = a < n
InFrame s n (Share a) = a < n

slot-one : (n a : ℕ) → all_slots n (a ∷ []) ≡ true → a < n
slot-one n a h = ltb-true a n (both (ltb a n) true h).0

slot-two : (n a b : ℕ) → all_slots n (a ∷ b ∷ []) ≡ true → (a < n) × (b < n)
slot-two n a b h = let p = both (ltb a n) (all_slots n (b ∷ [])) h in (ltb-true a n p.0, slot-one n b p.1)

slot-three : (n a b c : ℕ) → all_slots n (a ∷ b ∷ c ∷ []) ≡ true → (a < n) × (b < n) × (c < n)
slot-three n a b c h = let p = both (ltb a n) (all_slots n (b ∷ c ∷ [])) h in let q = slot-two n b c p.1 in (ltb-true a n p.0, q.0, q.1)

fork-operands : (s : List ℕ) (n r d a w : ℕ) → fork_in_range s n r d a w ≡ true → ForkOperands s n r d a w
fork-operands s n r d a w h =
    let p = both (ltb r (routine_count s)) (all_slots n (d ∷ w ∷ []) && leb (a + arguments_of s r) n) h in
    let q = both (all_slots n (d ∷ w ∷ [])) (leb (a + arguments_of s r) n) p.1 in
    let o = slot-two n d w q.0 in
    record {
      routine = ltb-true r (routine_count s) p.0;
      result = o.0;
      cut = o.1;
      arguments = leb-true (a + arguments_of s r) n q.1;
    }

pub in_frame : (s : List ℕ) (n : ℕ) (c : Command) → in_range s n c ≡ true → InFrame s n c
unfolding in_range
in_frame s n (Set d v) h = slot-one n d h
in_frame s n (Add d a b) h = slot-three n d a b h
in_frame s n (Subtract d a b) h = slot-three n d a b h
in_frame s n (Load d a) h = slot-two n d a h
in_frame s n (Store a b) h = slot-two n a b h
in_frame s n (JumpIfZero a t) h = slot-one n a h
in_frame s n (Jump t) h = tt
in_frame s n (Lfork r d a w) h = fork-operands s n r d a w h
in_frame s n (Fork r d a w) h = fork-operands s n r d a w h
in_frame s n Join h = tt
in_frame s n Suspend h = tt
in_frame s n Yield h = tt
in_frame s n (Return a) h = slot-one n a h
in_frame s n (Share a) h = slot-one n a h

-- "slots (1 to 16)": so they are in the range that the theory asks for
pub in-range : (s : List ℕ) (n : ℕ) (c : Command) → n ≤ 16 → InFrame s n c → InRange c
in-range s n (Set d v) l h = tt
in-range s n (Add d a b) l h = tt
in-range s n (Subtract d a b) l h = tt
in-range s n (Load d a) l h = tt
in-range s n (Store a b) l h = tt
in-range s n (JumpIfZero a t) l h = tt
in-range s n (Jump t) l h = tt
in-range s n (Lfork r d a w) l h = omega (arith, h.result)
in-range s n (Fork r d a w) l h = omega (arith, h.result)
in-range s n Join l h = tt
in-range s n Suspend l h = tt
in-range s n Yield l h = tt
in-range s n (Return a) l h = omega arith
in-range s n (Share a) l h = tt

-- two functions that agree on a frame's slots give a command the same effect
module _ (s : List ℕ) (n : ℕ) (f g : ℕ → ℕ) (alike : (k : ℕ) → k < n → f k ≡ g k) (pending : ℕ → Bool) (w : Window) where
  pub effect-alike : (c : Command) → InFrame s n c
      → effect_of (arguments_of s) (context_of f pending w) c ≡ effect_of (arguments_of s) (context_of g pending w) c
  unfolding effect_of forking
  effect-alike (Set d v) h = refl
  effect-alike (Add d a b) h =
      ap₂ (λ x y. unless_pending SlotPending pending (d ∷ a ∷ b ∷ []) (Sets d (sum x y))) (alike a h.1) (alike b h.2)
  effect-alike (Subtract d a b) h =
      ap₂ (λ x y. unless_pending SlotPending pending (d ∷ a ∷ b ∷ []) (Sets d (difference x y))) (alike a h.1) (alike b h.2)
  effect-alike (Load d a) h = ap (λ x. unless_pending SlotPending pending (d ∷ a ∷ []) (provided (may_load w x) AddressNotAllowed (Loads d x))) (alike a h.1)
  effect-alike (Store a b) h =
      ap₂ (λ x y. unless_pending SlotPending pending (a ∷ b ∷ []) (provided (may_store w x) AddressNotAllowed (Stores x y))) (alike a h.0) (alike b h.1)
  effect-alike (JumpIfZero a t) h = ap (λ x. unless_pending SlotPending pending (a ∷ []) (cond (eqb x 0) (Goes t) Continues)) (alike a h)
  effect-alike (Jump t) h = refl
  effect-alike (Lfork r d a e) h = ap (λ x. unless_pending SlotPending pending (d ∷ e ∷ run a (arguments_of s r)) (provided (may_cut w x) CutOutOfRange (Lforks r d a x)))
      (alike e h.cut)
  effect-alike (Fork r d a e) h = ap (λ x. unless_pending SlotPending pending (d ∷ e ∷ run a (arguments_of s r)) (provided (may_cut w x) CutOutOfRange (Forks r d a x)))
      (alike e h.cut)
  effect-alike Join h = refl
  effect-alike Suspend h = refl
  effect-alike Yield h = refl
  effect-alike (Return a) h = ap (λ x. unless_pending ReturnPending pending (run 0 16) (Returns x)) (alike a h)
  effect-alike (Share a) h = ap (λ x. unless_pending SlotPending pending (a ∷ []) (provided (may_share w x) ShareOutOfRange (Shares x))) (alike a h)
