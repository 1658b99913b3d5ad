-- `lists::tables::fill_all` meets its contract: at every turn what is written and the words of the tables that are left are all of
-- them.
use Rattle.std.proofs.Common.{◌≡◌, ◌/◌, length, arith}
use Rattle.word.proofs.Every.{every-place}
use Rattle.lists.specs.Obey.{tables_of, no_table}
use Rattle.lists.specs.HowKeep.{has_words}
use Rattle.lists.proofs.Lent.{lent_length}
use Rattle.lists.proofs.Exact.{lent_room}
use Rattle.lists.proofs.Take.{has_words_lem, fill_put, past_put, fill_ends}
use Rattle.lists.proofs.tables.fill_all.Goals as goal

pub table_word-requires : goal.table_word-requires
table_word-requires c =
    let n = lent_length c.args.tables.now in
    let r = lent_room c.args.tables.now c.loop-k.k _ c.requires.0.room (omega arith) c.lent_table.ensures in
    (r.0, r.1, omega (arith, c.requires.0.few, c.requires.0.stretch))

pub bounds-words-k : goal.bounds-words-k
bounds-words-k c = let n = lent_length c.args.tables.now in omega (arith, c.requires.0.few)

pub loop-k-preserved : goal.loop-k-preserved
loop-k-preserved c =
    let l = c.loop-k in
    let ts = tables_of c.args.tables.now in
    let n = lent_length c.args.tables.now in (
      rw (c.table_word.ensures, c.lent_table.ensures)
          (fill_put ts l.k l.words _ l.k (omega arith) (omega (arith, c.requires.0.few))
          (has_words_lem _ (every-place no_table has_words ts l.k (omega arith) c.requires.1)) l.invariant.0),
      past_put l.words _ l.k _ l.invariant.1,
    )

pub returns : goal.returns
returns c =
    let l = c.loop-k in
    let n = lent_length c.args.tables.now in
    let e : l.k ≡ length c.args.tables.now / 2 = omega arith in
    rw (← e)
    (fill_ends (tables_of c.args.tables.now) l.words _ l.k l.k (omega arith) (omega (arith, c.requires.0.few)) l.invariant.0
    l.invariant.1)
