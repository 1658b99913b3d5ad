-- `lists::keeping::away_ranks` meets its contract: at every turn the ranks before place k are written.
use Rattle.std.proofs.Common.{map, sym, ap, ◌∙◌, arith}
use lib.ListN.{length-map}
use Rattle.word.proofs.Lists.{copied_none, copied_next, copied_all}
use Rattle.lists.specs.Obey.{tables_of}
use Rattle.lists.specs.HowKeep.{away_rank}
use Rattle.lists.proofs.Lent.{lent_length}
use Rattle.lists.proofs.Exact.{lent_room}
use Rattle.lists.proofs.Ranks.{away_at}
use Rattle.lists.proofs.keeping.away_ranks.Goals as goal

pub loop-k-init : goal.loop-k-init
loop-k-init c = copied_none _ _ _

pub overflow_mul-ranks : goal.overflow_mul-ranks
overflow_mul-ranks c =
    let r = lent_room c.args.tables.now c.loop-k.k _ c.requires.0 (omega arith) c.lent_table.ensures in
    omega arith

pub overflow_add-ranks : goal.overflow_add-ranks
overflow_add-ranks c =
    let r = lent_room c.args.tables.now c.loop-k.k _ c.requires.0 (omega arith) c.lent_table.ensures in
    omega arith

pub loop-k-preserved : goal.loop-k-preserved
unfolding away_rank
loop-k-preserved c =
    let ts = tables_of c.args.tables.now in
    let n = lent_length c.args.tables.now in
    let m = length-map ts away_rank in
    copied_next _ _ c.loop-k.k _ _ (omega arith) (omega arith)
    (ap away_rank c.lent_table.ensures ∙ sym (away_at ts c.loop-k.k (omega arith))) c.loop-k.invariant

pub returns : goal.returns
returns c =
    let ts = tables_of c.args.tables.now in
    let n = lent_length c.args.tables.now in
    let m = length-map ts away_rank in
    copied_all _ _ (map away_rank ts) _ _ (omega arith) c.loop-k.invariant
