-- The serial run over any command language, each fork a call: a child runs to its end before its parent goes on. The recursion
-- is by fuel, which `SerialFuel` shows never runs out; what may recurse is bound by `let`, so that nothing is computed before
-- the allowance's test has passed.
use mathlib.Core.Bool.{cond}
use Prim.Native.Nat.{◌+◌, suc, zero, ℕ}
use lib.Dec.{leb}
use Rattle.forkjoin.proofs.Update.{update}
use Rattle.forkjoin.proofs.Language.{Act, Language, advance, fork, halt, join, load, ret, store}

pub data Outcome : Type 0 where
  -- the routine returned this value, with these words and units
  done : ℕ → (ℕ → ℕ) → ℕ → Outcome
  -- it ended by this number
  stopped : ℕ → (ℕ → ℕ) → ℕ → Outcome
  -- the fuel was too little
  out-of-fuel : Outcome

abbrev pub and-then : Outcome → (ℕ → (ℕ → ℕ) → ℕ → Outcome) → Outcome
and-then (done v m u) f = f v m u
and-then (stopped x m u) f = stopped x m u
and-then out-of-fuel f = out-of-fuel

abbrev pub zeros : ℕ → ℕ
zeros _ = 0

module _ (𝓛 : Language) (allowance : ℕ) where
  open 𝓛 use {Local, act, cost}

  -- an open routine: its depth, its state, the values of its children that have ended; words and units so far
  abbrev pub SerialCall : Type 0
  SerialCall = ℕ → Local → (ℕ → ℕ) → (ℕ → ℕ) → ℕ → Outcome

  -- what is done by a command that may be carried out, where rec runs a routine on
  unfoldable pub serial-act : SerialCall → ℕ → Act Local → (ℕ → ℕ) → (ℕ → ℕ) → ℕ → ℕ → Outcome
  serial-act rec n (halt x) vs m u w = stopped x m u
  serial-act rec n (advance l) vs m u w = rec n l vs m (u + w)
  serial-act rec n (load a f) vs m u w = rec n (f (m a)) vs m (u + w)
  serial-act rec n (store a v l) vs m u w = rec n l vs (update m a v) (u + w)
  serial-act rec n (fork d c l) vs m u w = and-then (rec (suc n) c zeros m (u + w)) (λ v m' u'. rec n l (update vs d v) m' u')
  serial-act rec n (join f) vs m u w = rec n (f vs) zeros m (u + w)
  serial-act rec n (ret v) vs m u w = done v m (u + w)

  -- 22 is the number of a used-up allowance
  unfoldable pub serial-call : ℕ → SerialCall
  serial-call zero n l vs m u = out-of-fuel
  serial-call (suc f) n l vs m u =
      let next = serial-act (λ n l vs m u. serial-call f n l vs m u) n (act n l) vs m u (cost l) in
      cond (leb (u + cost l) allowance) next (stopped 22 m u)

  -- the serial run of a root task
  unfoldable pub serial-run : Local → (ℕ → ℕ) → Outcome
  serial-run l m = serial-call (suc allowance) 0 l zeros m 0
