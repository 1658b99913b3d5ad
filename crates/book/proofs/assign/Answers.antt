-- `book::assign` meets its contract: by the front of the file.
use mathlib.Core.Path.{◌≡◌, sym, ◌∙◌}
use Rattle.std.specs.Prelude.{Err}
use Rattle.std.proofs.Common.{rules}
use Rattle.front.proofs.Carried.{front-carried}
use Rattle.book.proofs.Answers.{gives-front, gives-fault}
use Rattle.book.proofs.assign.Goals as goal

pub assign_by-requires : goal.assign_by-requires
assign_by-requires c =
    front-carried _ _
    (sym c.read_front.ensures ∙ c.in_ok-l.was)

pub returns : goal.returns
returns c =
    gives-front _ _ _ _ _ (sym c.in_ok-l.was
    ∙ c.read_front.ensures) _ _ _
    c.assign_by.ensures

pub returns-in_err-l : goal.returns-in_err-l
returns-in_err-l c =
    let e : c.from_residual.result ≡ Err c.in_err-l.field-0.0 = search rules in
    rw e (gives-fault _ _ _ _ _ c.read_front.ensures _ c.in_err-l.was)
