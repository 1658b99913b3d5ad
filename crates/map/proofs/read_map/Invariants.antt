-- `map::read_map` meets its contract: after r turns the first r stretches are those that the list tells.
use Rattle.std.proofs.Common.{◌≡◌, length}
use Rattle.map.specs.Map.{stretch_of}
use Rattle.word.proofs.Fill.{filled}
use Rattle.map.proofs.read_map.Given as goal

abbrev pub invariant-loop-r : goal.invariant-loop-r
invariant-loop-r l = record { rooms : length l.m ≡ 8; told : l.m ≡ filled (stretch_of l.numbers) l.initial.m l.r }
