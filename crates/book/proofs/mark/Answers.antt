-- `book::mark` meets its contract: at every turn the places passed are marked that have the tag.
use mathlib.Core.Path.{◌∙◌}
use native.Mathlib.Omega.{arith}
use Rattle.book.proofs.Finding.{place_most}
use Rattle.book.proofs.Marking.{marks_begin, marked-here, marked_pass, marks_end}
use Rattle.book.proofs.mark.Goals as goal
use Rattle.book.proofs.mark.Goals.{then-tags-j, else-tags-j}

pub loop-j-init : goal.loop-j-init
loop-j-init c = marks_begin _ _ _ _ c.args.first c.requires.1 c.requires.0

pub loop-j-preserved : goal.loop-j-preserved
loop-j-preserved c =
    let l = c.loop-j in
    elim c.if-tags-j.branch [
      | then-tags-j w ↦ rw w.marks-is (marked-here _ _ _ _ l.j _ (omega arith) w.if-tags-j.true l.invariant)
      | else-tags-j w ↦ rw w.marks-is (l.invariant ∙ marked_pass _ _ _ _ l.j (omega arith) w.if-tags-j.false)
    ]

pub returns : goal.returns
returns c =
    let l = c.loop-j in
    marks_end _ _ _ _ l.j _ (omega (arith, place_most c.args.tag c.args.tags.now)) l.invariant
