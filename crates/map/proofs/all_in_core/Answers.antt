-- `map::all_in_core` meets its contract: std's `all` is `every`, and the closure is `in_core`.
use Rattle.std.proofs.Common.{rules, tests, ◌∙◌}
use Rattle.std.proofs.lemmas.Iterator.{YieldsList-from_slice}
use Rattle.std.proofs.lemmas.Iterator.Search.{all_from_yields_List}
use Rattle.map.specs.Map.{in_core}
use Rattle.map.proofs.All.{every_is}
use Rattle.map.proofs.all_in_core.Goals as goal

pub returns : goal.returns
unfolding in_core
returns c =
    all_from_yields_List (in_core c.args.core) _ _ _ c.all.ensures.ran (YieldsList-from_slice c.args.m cc) (λ x b q k. search (rules, tests))
    ∙ every_is (in_core c.args.core) c.args.m
