-- `book::take_record` meets its contract: by whether the tag is found, by the mark there, and then by what marking leaves.
use mathlib.Core.Path.{sym, ◌∙◌}
use native.Mathlib.Omega.{arith}
use Rattle.book.proofs.Finding.{found}
use Rattle.book.proofs.Marking.{marks_in, lent-long, marked-none_such, marked-before, marked_now}
use Rattle.book.proofs.take_record.Goals as goal

pub slice_bounds-marks-end : goal.slice_bounds-marks-end
slice_bounds-marks-end c =
    omega (arith, marks_in _ _ _ _ _ _ c.requires c.start_of-a.ensures c.kept_of-tags.ensures)

pub returns-in_default : goal.returns-in_default
returns-in_default c =
    marked-none_such _ _ _ _ _ _ c.requires c.start_of-a.ensures c.kept_of-tags.ensures _ (sym c.find.ensures ∙ c.in_default.is)

pub returns-then-old-ne0 : goal.returns-then-old-ne0
returns-then-old-ne0 c =
    marked-before _ _ _ _ _ _ c.requires c.start_of-a.ensures c.kept_of-tags.ensures c.in-Some.first
    (sym c.find.ensures ∙ c.in-Some.is) _ c.if-old-ne0.true

pub mark-requires : goal.mark-requires
mark-requires c = (
  lent-long _ _ _ _ _ _ c.requires c.start_of-a.ensures c.kept_of-tags.ensures,
  (found _ _ _ (sym c.find.ensures ∙ c.in-Some.is)).0,
)

pub returns : goal.returns
returns c =
    marked_now _ _ _ _ _ _ c.requires c.start_of-a.ensures c.kept_of-tags.ensures c.in-Some.first
    (sym c.find.ensures ∙ c.in-Some.is) _ c.if-old-ne0.false c.mark.ensures
