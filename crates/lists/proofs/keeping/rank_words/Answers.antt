-- `lists::keeping::rank_words` meets its contract: at every turn the words that are left still rank what was to be ranked.
use Rattle.std.proofs.Common.{length, arith}
use Rattle.lists.proofs.Ranks.{number_at}
use Rattle.lists.proofs.Ranking.{ranked_more, ranked_end}
use Rattle.lists.proofs.keeping.rank_words.Goals as goal

pub bounds-ranks-w : goal.bounds-ranks-w
bounds-ranks-w c =
    let h = number_at (length c.args.ranks.now) c.args.words.now c.loop-p.p (omega arith) c.requires in
    omega arith

pub loop-p-preserved : goal.loop-p-preserved
loop-p-preserved c = ranked_more c.args.words.now c.loop-p.ranks c.loop-p.p _ (omega arith) c.loop-p.invariant

pub returns : goal.returns
returns c = ranked_end c.args.words.now c.loop-p.ranks c.loop-p.p _ (omega arith) c.loop-p.invariant
