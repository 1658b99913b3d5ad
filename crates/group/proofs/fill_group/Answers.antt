-- `fill_group`: the tests of the code are those of the definition.
use borrow.Author.Tests.{lt-leb, le-leb}
use Rattle.group.specs.HowGroup.{fill_of}
use Rattle.group.proofs.fill_group.Goals as goal

pub returns-then-i-g-gt-LAST_WORD : goal.returns-then-i-g-gt-LAST_WORD
unfolding fill_of
returns-then-i-g-gt-LAST_WORD c =
    rw (lt-leb _ _ c.if-i-g-gt-LAST_WORD.true)
    (rw c.requires.room at c.refuse.ensures)

pub returns-then-g : goal.returns-then-g
unfolding fill_of
returns-then-g c =
    rw (
      le-leb _ _ c.if-i-g-gt-LAST_WORD.false,
      lt-leb _ _
          c.if-g.true,
    )
    (rw c.requires.room at
    c.refuse-then-g.ensures)

pub returns : goal.returns
unfolding fill_of
returns c =
    rw (
      le-leb _ _ c.if-i-g-gt-LAST_WORD.false,
      le-leb _ _
          c.if-g.false,
    ) c.count_group.ensures
