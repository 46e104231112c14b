-- `cases::reading::lines` meets its contract: a `Vec` of the parts that `split` gives. Assumes nothing.
use Rattle.std.proofs.Common.{rules, tests, ◌==◌, ◌∙◌}
use Rattle.std.specs.List.{slice_split}
use Rattle.std.proofs.lemmas.List.{map-id}
use Rattle.std.proofs.lemmas.Result.{IfOk-weaker}
use Rattle.std.proofs.lemmas.Iterator.{YieldsList-from_map_by}
use Rattle.std.proofs.lemmas.Iterator.Consumers.{YieldsList-at, map_from_collect}
use Rattle.std.proofs.lemmas.Iterator.Splits.{YieldsList-from_slice_split}
use Rattle.cases.proofs.reading.lines.Goals as goal

pub returns : goal.returns
returns c = IfOk-weaker c.collect.result _ _ (λ lines h. h ∙ map-id (slice_split (λ byte. byte == 10) c.args.input.now))
    (map_from_collect {v = λ line. line.text.now} c.collect.result c.collect.ensures.ran
    (YieldsList-from_map_by _ (λ line. line.text.now) (λ text. text) (YieldsList-at c.map.ensures.source
    (YieldsList-from_slice_split _ (λ byte. byte == 10) c.args.input.now c.split.ensures.rest c.split.ensures.done c.split.ensures.closure
    (λ x b q k. search (rules, tests)))) c.map.ensures.closure (λ x r q k. search (rules, tests))))
