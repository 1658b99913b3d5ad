-- `book::in_file` meets its contract: by the place where the tag is found in its kind's stretch.
use mathlib.Core.Path.{◌∙◌}
use Rattle.book.specs.Assign.{in_file}
use Rattle.book.proofs.Finding.{any_place}
use Rattle.book.proofs.Kept.{of_kept}
use Rattle.book.proofs.in_file.Goals as goal

pub returns : goal.returns
unfolding in_file
returns c = rw (of_kept c.args.tags.now c.args.l c.args.r.kind, ← c.kept_of.ensures) (c.contains.ensures.value ∙ any_place _ _)
