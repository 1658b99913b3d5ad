-- `lists::tables::lent_table` meets its contract: the pair at places 2 k and 2 k + 1 is table k.
use Rattle.std.proofs.Common.{sym}
use Rattle.lists.proofs.Lent.{lent_at}
use Rattle.lists.proofs.tables.lent_table.Goals as goal

pub returns : goal.returns
returns c = sym (lent_at c.args.tables.now c.args.k c.requires)
