-- `map::in_order` meets its contract: what is left of the core and the stretches not yet looked at decide.
use Rattle.std.proofs.Common.{◌≡◌, ◌-◌, ◌≤◌, drop}
use Rattle.map.specs.Map.{map_of}
use Rattle.map.specs.HowOrder.{in_order}
use Rattle.map.proofs.in_order.Given as goal

abbrev pub invariant-loop-r : goal.invariant-loop-r
invariant-loop-r l = record {
  most : l.left ≤ l.core;
  rest : in_order l.core 0 (map_of l.numbers) ≡ in_order l.core (l.core - l.left) (drop l.r (map_of l.numbers));
}
