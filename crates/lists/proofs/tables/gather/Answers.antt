-- `lists::tables::gather` meets its contract: at every turn the rest of the tables completes the word.
use Rattle.std.proofs.Common.{arith}
use Rattle.lists.specs.Obey.{tables_of}
use Rattle.lists.proofs.Lent.{lent_length}
use Rattle.lists.proofs.Gathered.{gathered_more, gathered_end}
use Rattle.lists.proofs.tables.gather.Goals as goal

pub loop-k-preserved : goal.loop-k-preserved
loop-k-preserved g c = λ r q.
    let n = lent_length c.args.tables.now in
    c.loop-k.invariant r
    (gathered_more _ (tables_of c.args.tables.now) c.loop-k.k c.loop-k.any _ _ r (omega arith) c.lent_table.ensures c.f-any.ensures q)

pub returns : goal.returns
returns g c =
    let n = lent_length c.args.tables.now in
    c.loop-k.invariant _ (gathered_end _ (tables_of c.args.tables.now) c.loop-k.k c.loop-k.any (omega arith))
