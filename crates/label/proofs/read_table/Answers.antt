-- `label::read_table` meets its contract: each return by the tests that led to it.
use mathlib.Core.Path.{sym, ◌∙◌}
use Rattle.label.specs.HowTables.{table_read}
use Rattle.label.proofs.Tables.{few, counted_few}
use Rattle.label.proofs.read_table.Goals as goal

pub returns-then-not-may_follow : goal.returns-then-not-may_follow
unfolding table_read
returns-then-not-may_follow c = rw (sym c.may_follow.ensures ∙ c.if-not-may_follow.true)

pub count_with-d-requires : goal.count_with-d-requires
count_with-d-requires c = few _ c.requires

pub within_limits-requires : goal.within_limits-requires
within_limits-requires c = rw c.count_with-d.ensures (counted_few _ _ c.requires)

pub returns-then-not-within_limits : goal.returns-then-not-within_limits
unfolding table_read
returns-then-not-within_limits c =
    rw (
      sym c.may_follow.ensures ∙ c.if-not-may_follow.false,
      ← c.count_with-d.ensures,
      sym c.within_limits.ensures ∙ c.if-not-within_limits.true,
    )

pub returns : goal.returns
unfolding table_read
returns c =
    rw (
      sym c.may_follow.ensures ∙ c.if-not-may_follow.false,
      ← c.count_with-d.ensures,
      sym c.within_limits.ensures ∙ c.if-not-within_limits.false,
    )
