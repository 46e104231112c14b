-- `image::range::all_slots` meets its contract. Assumes nothing.
use Rattle.std.proofs.Common.{ltb, ◌&&◌, refl, ◌∙◌, rules, tests}
use Rattle.std.specs.List.{list_all}
use Rattle.std.proofs.lemmas.Iterator.{YieldsList-from_slice}
use Rattle.std.proofs.lemmas.Iterator.Search.{all_from_yields_List}
use Rattle.std.proofs.lemmas.List.Recursion.{same_from_clauses}
use Rattle.image.specs.Image.{all_slots}
use Rattle.image.proofs.range.all_slots.Goals as goal

pub returns : goal.returns
returns c =
    let slots = c.args.slots in
    all_from_yields_List (λ d. ltb d slots) _ _ c.all.result c.all.ensures.ran (YieldsList-from_slice c.args.operands.now cc) (λ x b q k. search (rules, tests))
    ∙ same_from_clauses (list_all (λ d. ltb d slots)) (all_slots slots) (λ d rest. ltb d slots && rest) refl (λ _ _. refl) (λ _ _. refl) c.args.operands.now
