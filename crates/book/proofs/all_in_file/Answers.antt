-- `book::all_in_file` meets its contract: by the library's test of every number, and what record i says.
use mathlib.Core.Path.{refl, ◌∙◌}
use native.Mathlib.Omega.{arith}
use Rattle.std.proofs.Common.{rules, tests}
use Rattle.std.proofs.lemmas.Iterator.{YieldsList-from_range}
use Rattle.std.proofs.lemmas.Iterator.Search.{all_from_yields_List}
use Rattle.book.specs.Book.{record_at, assignment_of, record_count, assignments_of}
use Rattle.book.specs.Assign.{in_file, no_assignment}
use Rattle.book.specs.HowKept.{kept_tags}
use Rattle.book.proofs.Chains.{every-range}
use Rattle.book.proofs.all_in_file.Goals as goal

pub returns : goal.returns
unfolding assignments_of
returns c =
    let b = c.args.book.now in
    let ts = kept_tags c.args.tags.now c.args.l in
    all_from_yields_List (λ i. in_file ts (assignment_of (record_at b i))) _ _ _ c.all.ensures.ran
    (YieldsList-from_range 0 _ (record_count b) refl (omega (arith, c.count.ensures))) (λ x r q k. search (rules, tests))
    ∙ every-range (in_file ts) (λ i. assignment_of (record_at b i)) (record_count b) no_assignment
