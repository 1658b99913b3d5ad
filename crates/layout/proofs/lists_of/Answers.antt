-- `layout::lists_of` meets its contract: each return by the tests that led to it.
use Rattle.lists.specs.Load.{list_words}
use Rattle.word.proofs.Lists.{range-lent}
use Rattle.layout.specs.Layout.{lists_in}
use Rattle.layout.proofs.lists_of.Goals as goal

pub returns : goal.returns
unfolding lists_in
returns c = range-lent c.args.place.now 15 list_words
