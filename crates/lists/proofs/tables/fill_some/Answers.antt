-- `lists::tables::fill_some` meets its contract: at every turn what is written and the words of the tables that are left are all of
-- them.
use Rattle.std.proofs.Common.{ℕ, List, ◌++◌, take, ap, ◌∙◌, arith}
use Rattle.lists.specs.Obey.{tables_of}
use Rattle.lists.proofs.Lent.{lent_length}
use Rattle.lists.proofs.Exact.{lent_room}
use Rattle.lists.proofs.Take.{fill_skip, fill_put, past_put, fill_ends}
use Rattle.lists.proofs.tables.fill_some.Goals as goal

pub loop-k-preserved-then-t-eq0 : goal.loop-k-preserved-then-t-eq0
loop-k-preserved-then-t-eq0 c =
    let l = c.loop-k in
    let ts = tables_of c.args.tables.now in
    let n = lent_length c.args.tables.now in (
      omega arith,
      l.invariant.1 ∙ ap (λ (r : List ℕ). take l.n l.words ++ r)
          (fill_skip ts l.k (omega arith) (rw c.lent_table-t.ensures at c.if-t-eq0.true)),
      l.invariant.2,
    )

pub table_word-requires : goal.table_word-requires
table_word-requires c =
    let n = lent_length c.args.tables.now in
    let r = lent_room c.args.tables.now c.loop-k.k _ c.requires.room (omega arith) c.lent_table-t.ensures in
    (r.0, r.1, omega (arith, c.requires.few, c.requires.stretch))

pub bounds-words-n : goal.bounds-words-n
bounds-words-n c = let n = lent_length c.args.tables.now in omega (arith, c.requires.few)

pub loop-k-preserved : goal.loop-k-preserved
loop-k-preserved c =
    let l = c.loop-k in
    let ts = tables_of c.args.tables.now in
    let n = lent_length c.args.tables.now in (
      omega arith,
      rw (c.table_word.ensures, c.lent_table-t.ensures)
          (fill_put ts l.k l.words _ l.n (omega arith) (omega (arith, c.requires.few))
          (rw c.lent_table-t.ensures at c.if-t-eq0.false) l.invariant.1),
      past_put l.words _ l.n _ l.invariant.2,
    )

pub returns : goal.returns
returns c =
    let l = c.loop-k in
    let n = lent_length c.args.tables.now in
    fill_ends (tables_of c.args.tables.now) l.words _ l.k l.n (omega arith) (omega (arith, c.requires.few)) l.invariant.1
    l.invariant.2
