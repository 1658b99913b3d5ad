-- `map::map_obeys` meets its contract, by what its two callees ensure.
use Rattle.std.proofs.Common.{sym, ◌∙◌}
use Rattle.map.specs.Map.{map_obeys}
use Rattle.map.proofs.map_obeys.Goals as goal

pub returns-then-all_in_core : goal.returns-then-all_in_core
unfolding map_obeys
returns-then-all_in_core c = rw (sym c.all_in_core.ensures ∙ c.if-all_in_core.true) c.all_apart.ensures

pub returns-else-all_in_core : goal.returns-else-all_in_core
unfolding map_obeys
returns-else-all_in_core c = rw (c.if-all_in_core.false, sym c.all_in_core.ensures ∙ c.if-all_in_core.false)
