-- `book::look_up` meets its contract: each answer by what the passes over the records told.
use mathlib.Core.Path.{refl, sym, ◌∙◌}
use Rattle.book.proofs.Given.{all-given, io-numbers, table-numbers}
use Rattle.book.proofs.Answers.{gives_25_or_26, gives_27, gives_lists}
use Rattle.book.proofs.look_up.Goals as goal

pub take_records-requires : goal.take_records-requires
take_records-requires c = record { look = c.requires.look; none = refl }

pub returns-then-not-take_records : goal.returns-then-not-take_records
returns-then-not-take_records c =
    gives_25_or_26 _ _ _ _ _ (sym c.take_records.ensures.told ∙ c.if-not-take_records.true)
    c.not_taken.ensures

pub returns-then-not-all_given : goal.returns-then-not-all_given
returns-then-not-all_given c =
    let p = c.requires in
    let q = c.if-not-take_records.false in
    gives_27 _ _ _ _ _ c.take_records.ensures.told q
    (sym (all-given _ _ _ _ p.look.long p.look.carried (c.take_records.ensures.left q)) ∙ sym
    c.all_given.ensures
    ∙ c.if-not-all_given.true)

pub write_lists-requires : goal.write_lists-requires
write_lists-requires c =
    let p = c.requires in
    record {
      carried = p.look.carried;
      long = (c.take_records.ensures.left (c.if-not-take_records.false)).long;
      all = sym c.all_given.ensures ∙ c.if-not-all_given.false;
      io-long = p.io-long;
      tables-long = p.tables-long;
    }

pub returns : goal.returns
returns c =
    let p = c.requires in
    let q = c.if-not-take_records.false in
    let m = c.take_records.ensures.left q in
    gives_lists _ _ _ _ _ c.take_records.ensures.told q _ _
    (sym (all-given _ _ _ _ p.look.long p.look.carried m) ∙ sym c.all_given.ensures
    ∙ c.if-not-all_given.false)
    (c.write_lists.ensures.io-left ∙ io-numbers _ _ _ _ p.look.long p.look.carried m)
    (c.write_lists.ensures.tables-left ∙ table-numbers _ _ _ _ p.look.long p.look.carried m)
