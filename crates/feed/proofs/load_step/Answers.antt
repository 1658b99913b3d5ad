-- `feed::load_step`: each return by the test that led to it.
use mathlib.Core.Path.{refl, sym, ◌∙◌}
use Rattle.feed.specs.Block.{block_step}
use Rattle.feed.proofs.load_step.Goals as goal

pub returns-then-not-of_record : goal.returns-then-not-of_record
unfolding block_step
returns-then-not-of_record c =
    rw (← c.record_due.ensures, sym c.of_record.ensures ∙ c.if-not-of_record.true)
    (record { told = refl; left = refl })

pub returns : goal.returns
unfolding block_step
returns c =
    rw (
      ← c.record_due.ensures,
      sym
          c.of_record.ensures ∙ c.if-not-of_record.false,
    )
    c.due_step.ensures
