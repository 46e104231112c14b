-- `entries::steal::seed_of` meets its contract. Assumes nothing.
use mathlib.Core.Path.{◌∙◌, ap}
use lib.ListN.{get_or}
use Rattle.image.specs.Layout.{arguments_of}
use Rattle.thread.specs.declared.Effect.TheVariants.{Forks}
use Rattle.thread.specs.Effect.{Context, forking}
use Rattle.entries.proofs.steal.seed_of.Goals as goal

pub returns : goal.returns
returns c =
    let at = get_or c.args.five in
    c.fork.ensures ∙ ap (λ (x : Context). forking (arguments_of c.args.image.now) x (at 1 0) (at 2 0) (at 3 0) (at 4 0) (Forks (at 1 0) (at 2 0) (at 3 0) (x.slot (at 4 0)))) c.of.ensures
