-- `lists::load::kept_fits` meets its contract: the test of the load's kept words.
use Rattle.word.proofs.Lists.{range-lent}
use Rattle.lists.specs.Load.{words_in}
use Rattle.lists.proofs.load.kept_fits.Goals as goal

pub returns : goal.returns
unfolding words_in
returns c = rw range-lent at c.chain_fits.ensures
