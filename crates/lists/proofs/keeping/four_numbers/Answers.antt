-- `lists::keeping::four_numbers` meets its contract: the four numbers are those at these places.
use Rattle.std.proofs.Common.{refl}
use Rattle.lists.specs.HowKeep.{four_from}
use Rattle.lists.proofs.keeping.four_numbers.Goals as goal

pub returns : goal.returns
unfolding four_from
returns c = refl
