-- `book::records::read_record` meets its contract: a record of a book has its letter and its digits.
use mathlib.Core.Path.{◌≡◌}
use Rattle.word.specs.Lists.{range}
use Rattle.book.specs.Book.{record_at, kind_of, assignment_of}
use Rattle.book.proofs.Record.{kind_is, digits_spell, tag_spelled, number_spelled, book_record}
use Rattle.book.proofs.records.read_record.Goals as goal
use lib.ListN.{get_or}

pub unwrap-requires : goal.unwrap-requires
unwrap-requires c =
    let p = c.requires in
    rw (c.kind_of.ensures, c.record_at-bytes.ensures.bytes, kind_is _ (book_record _ _ p.0 p.1))

pub spelled-requires-2 : goal.spelled-requires-2
unfolding range
spelled-requires-2 c =
    let p = c.requires in
    rw c.record_at-bytes.ensures.bytes (digits_spell _ (book_record _ _ p.0 p.1))

pub returns : goal.returns
unfolding assignment_of range
returns c =
    let p = c.requires in
    let r = c.record_at-bytes.ensures.bytes in
    let k : c.unwrap.result ≡ kind_of (get_or (record_at c.args.book.now c.args.i) 0 0) =
    cc (c.unwrap.ensures, rw r at c.kind_of.ensures, kind_is _ (book_record _ _ p.0 p.1)) in
    rw (k, c.spelled.ensures, c.spelled-2.ensures, r, tag_spelled, number_spelled)
