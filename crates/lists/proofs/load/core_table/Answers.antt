-- `lists::load::core_table` meets its contract: the table that the load's kept words and ranks tell.
use Rattle.word.proofs.Lists.{range-lent}
use Rattle.lists.specs.Load.{core_table, words_in, ranks_in}
use Rattle.lists.proofs.load.core_table.Goals as goal

pub returns : goal.returns
unfolding core_table words_in ranks_in
returns c = rw (range-lent, range-lent) at c.table_at.ensures
