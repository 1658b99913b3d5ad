-- `map::apart_from_later` meets its contract: std's `all` is `every`, and the closure is `stretches_apart`.
use Rattle.std.proofs.Common.{rules, tests, ◌∙◌}
use Rattle.std.proofs.lemmas.Iterator.{YieldsList-from_slice}
use Rattle.std.proofs.lemmas.Iterator.Search.{all_from_yields_List}
use Rattle.map.specs.Map.{stretches_apart}
use Rattle.map.proofs.All.{every_is}
use Rattle.map.proofs.apart_from_later.Goals as goal

pub returns : goal.returns
unfolding stretches_apart
returns c =
    let l = c.args.later.now in
    let f = stretches_apart c.args.s in
    all_from_yields_List f _ _ _ c.all.ensures.ran (YieldsList-from_slice l cc) (λ x b q k. search (rules, tests)) ∙ every_is f l
