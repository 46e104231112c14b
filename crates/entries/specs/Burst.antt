-- Steps of one core in a row: what they rely on, and the command that ends them.
use Rattle.std.specs.Prelude.{◌≡◌, ℕ, ◌<◌, Bool, false, cond, List}
use Rattle.thread.specs.declared.Effect.{Effect}
use Rattle.thread.specs.declared.Status.TheVariants.{Waiting}
use Rattle.rules.specs.State.{Job, State, After, is_over, on_core}
use Rattle.rules.specs.Update.{accepted, refused}
use Rattle.rules.specs.Turn.{Turn}
use Rattle.rules.specs.Leave.{leaves}
use Rattle.rules.specs.Rules.{carried_of}
use Rattle.tables.specs.Meaning.{meaning}
use Rattle.tables.specs.Change.{moves_on, set_units}
use Rattle.entries.specs.Given.{Sounding}

-- a sound state in which thread t runs on core c
pub record Busy (image starts parameters : List ℕ) (allowance : ℕ) (xs words memory : List ℕ) (c t : ℕ) : Type 0 where
  pub sounding : Sounding image starts parameters allowance xs words memory
  pub going : is_over (meaning xs words memory).outcome ≡ false
  pub core : c < (meaning xs words memory).count
  pub on : t ≡ on_core (meaning xs words memory) c
  pub number : t < 32

-- thread t's next command is at p, and the units are n
abbrev pub stands_at : ℕ → ℕ → ℕ → State → State
stands_at t p n s = set_units n (moves_on t p s)

-- a join whose children have not all ended waits, and nothing is charged
abbrev pub waits_of : ℕ → ℕ → State → After
waits_of c t s = accepted (leaves c t Waiting s)

-- a command that is too dear, unless it waits
abbrev pub short_of : ℕ → ℕ → Bool → State → After
short_of c t waits s = cond waits (waits_of c t s) (refused 22 s)

-- a command whose weight is left, by its effect, unless it waits
abbrev pub rest_given : Job → State → Turn → Effect → Bool → After
rest_given j s o e waits = cond waits (waits_of o.core o.number s) (carried_of j s o e)
