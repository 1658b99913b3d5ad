-- `map::stretch_at` meets its contract: the two numbers are read where they stand.
use Rattle.std.proofs.Common.{refl}
use Rattle.map.specs.Map.{stretch_of}
use Rattle.map.proofs.stretch_at.Goals as goal

pub returns : goal.returns
unfolding stretch_of
returns c = refl
