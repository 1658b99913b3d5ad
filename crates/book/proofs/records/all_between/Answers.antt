-- `book::records::all_between` meets its contract: by the library's test of every element.
use mathlib.Core.Path.{◌∙◌}
use Rattle.std.proofs.Common.{rules, tests}
use Rattle.std.proofs.lemmas.Iterator.{YieldsList-from_slice}
use Rattle.std.proofs.lemmas.Iterator.Search.{all_from_yields_List}
use Rattle.book.specs.Book.{between}
use Rattle.book.proofs.Chains.{every-all}
use Rattle.book.proofs.records.all_between.Goals as goal

pub returns : goal.returns
returns c =
    all_from_yields_List (between c.args.low c.args.high) _ _ _ c.all.ensures.ran (YieldsList-from_slice c.args.bytes.now cc)
    (λ x b q k. search (rules, tests))
    ∙ every-all (between c.args.low c.args.high) c.args.bytes.now
