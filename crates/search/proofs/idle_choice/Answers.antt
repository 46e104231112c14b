-- `search::idle_choice` meets its contract. Assumes nothing.
use mathlib.Core.Path.{ap, ◌∙◌}
use native.Mathlib.Omega.{arith}
use lib.ListN.{length}
use Rattle.search.proofs.Searching.{takes, steals}
use Rattle.search.proofs.idle_choice.Goals as goal

pub returns-then-len-gt0 : goal.returns-then-len-gt0
returns-then-len-gt0 c =
    let ready' = c.queue_of-q in
    let len' = c.len in
    λ ps al.
    record {
      means = λ l words memory. takes _ _ _ len'.result (len'.ensures ∙ ap length (ready'.ensures.means l words memory)) c.if-len-gt0.true;
      other = λ n. absurd (omega (arith, c.if-len-gt0.true, len'.ensures ∙ ap length (ready'.ensures.other n)));
    }

pub returns : goal.returns
returns c =
    let ready' = c.queue_of-q in
    let len' = c.len in
    λ ps al.
    record {
      means = λ l words memory. steals _ _ _ len'.result _ (len'.ensures ∙ ap length (ready'.ensures.means l words memory)) c.if-len-gt0.false ((c.find_seed.ensures ps al).means l words memory);
      other = λ n. rw ((c.find_seed.ensures ps al).other n);
    }
