-- `map::all_apart` meets its contract: the stretches not yet looked at decide.
use Rattle.std.proofs.Common.{◌≡◌, drop}
use Rattle.word.specs.Lists.{every_two}
use Rattle.map.specs.Map.{stretches_apart}
use Rattle.map.proofs.all_apart.Given as goal

abbrev pub invariant-loop-r : goal.invariant-loop-r
invariant-loop-r l = every_two stretches_apart l.fn.m ≡ every_two stretches_apart (drop l.r l.fn.m)
