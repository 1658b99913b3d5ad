-- `map::map_fits` meets its contract: stretches in order obey, and all others are compared with each other.
use Rattle.std.proofs.Common.{sym, ◌∙◌}
use Rattle.map.proofs.Order.{order_obeys}
use Rattle.map.proofs.map_fits.Goals as goal

pub returns-then-in_order : goal.returns-then-in_order
returns-then-in_order c = sym (order_obeys _ _ (sym c.in_order.ensures ∙ c.if-in_order.true))
