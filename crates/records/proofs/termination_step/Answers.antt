-- `records::termination_step` meets its contract: each return by the tests that led to it.
use mathlib.Core.Path.{sym, ◌∙◌}
use native.Mathlib.Omega.{arith}
use Rattle.records.specs.Termination.{termination_step}
use Rattle.records.proofs.termination_step.Goals as goal

pub returns-then-not-in_bank : goal.returns-then-not-in_bank
unfolding termination_step
returns-then-not-in_bank c =
    rw (
      c.further.ensures,
      ← c.read_start-start.ensures,
      sym c.in_bank.ensures ∙ c.if-not-in_bank.true,
    )

pub placed-requires : goal.placed-requires
placed-requires c = rw c.read_start-start.ensures (omega arith)

pub returns : goal.returns
unfolding termination_step
returns c =
    rw (
      ← c.read_start-start.ensures,
      sym c.in_bank.ensures
          ∙ c.if-not-in_bank.false,
      c.placed.ensures,
      c.read_start-start.ensures,
    )
