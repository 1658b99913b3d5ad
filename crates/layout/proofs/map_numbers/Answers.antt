-- `layout::map_numbers` meets its contract: each return by the tests that led to it.
use Rattle.word.proofs.Lists.{range-lent}
use Rattle.layout.specs.Layout.{map_numbers}
use Rattle.layout.proofs.map_numbers.Goals as goal

pub returns : goal.returns
unfolding map_numbers
returns c = range-lent c.args.desk.now 1 16
