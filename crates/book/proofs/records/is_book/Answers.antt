-- `book::records::is_book` meets its contract: by the length, and by each record.
use mathlib.Core.Path.{refl, ◌∙◌}
use mathlib.Core.List.{[]}
use native.Mathlib.Omega.{arith}
use Rattle.std.proofs.Common.{rules, tests}
use Rattle.std.proofs.lemmas.Iterator.{YieldsList-from_range}
use Rattle.std.proofs.lemmas.Iterator.Search.{all_from_yields_List}
use Rattle.book.specs.Book.{is_record, record_at, record_count, is_book, all_records}
use Rattle.book.proofs.Chains.{every-range}
use Rattle.book.proofs.records.is_book.Goals as goal

pub returns-then-book-eq0 : goal.returns-then-book-eq0
unfolding is_book all_records
returns-then-book-eq0 c =
    let b = c.args.book.now in
    rw c.if-book-eq0.true
    (all_from_yields_List (λ i. is_record (record_at b i)) _ _ _ c.all.ensures.ran
    (YieldsList-from_range 0 _ (record_count b) refl (omega (arith, c.count.ensures))) (λ x r q k. search (rules, tests))
    ∙ every-range is_record (record_at b) (record_count b) [])
