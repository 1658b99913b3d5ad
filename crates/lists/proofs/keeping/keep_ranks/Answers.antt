-- `lists::keeping::keep_ranks` meets its contract: the words alone (ranking_full), or the two calls one after the other
-- (ranking_kept).
use Rattle.std.proofs.Common.{sym, ap, ◌∙◌, arith}
use Rattle.lists.specs.HowKeep.{ranked}
use Rattle.lists.proofs.Lent.{lent_length}
use Rattle.lists.proofs.Ranking.{ranking_below, ranking_kept, ranking_full}
use Rattle.lists.proofs.keeping.keep_ranks.Goals.{then-words-tables, else-words-tables}
use Rattle.lists.proofs.keeping.keep_ranks.Goals as goal

pub away_ranks-requires : goal.away_ranks-requires
away_ranks-requires c =
    let n = lent_length c.args.tables.now in
    (c.requires.room, omega (arith, c.requires.ranks))

pub rank_words-requires : goal.rank_words-requires
rank_words-requires c = ranking_below _ _ c.args.ranks.now c.requires _ (omega (arith, c.requires.ranks))

pub returns : goal.returns
returns c =
    c.rank_words.ensures
    ∙ elim c.if-words-tables.branch [
      | then-words-tables w ↦
          ap (ranked 0 c.args.words.now) (w.ranks-is ∙ w.away_ranks.ensures) ∙ ranking_kept _ _ _ c.requires
      | else-words-tables w ↦
          ap (ranked 0 c.args.words.now) w.ranks-is
          ∙ ranking_full _ _ _ c.requires (w.if-words-tables.false ∙ sym (lent_length c.args.tables.now))
    ]
