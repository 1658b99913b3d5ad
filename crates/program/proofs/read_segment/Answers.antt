-- `program::read_segment` meets its contract: each return by the tests that led to it.
use borrow.Author.Tests.{eq-eqb, ne_eqb}
use borrow.Author.Rules.{rules}
use Rattle.program.specs.Sections.{segment_of}
use Rattle.program.proofs.read_segment.Goals as goal

pub returns-in_err-ibank : goal.returns-in_err-ibank
unfolding segment_of
returns-in_err-ibank c = search rules

pub returns-in_err-dbank : goal.returns-in_err-dbank
unfolding segment_of
returns-in_err-dbank c = search (rules, ne_eqb _ _ c.if-ibank-eq0.false)

pub returns-then-ibank-eq0 : goal.returns-then-ibank-eq0
unfolding segment_of
returns-then-ibank-eq0 c = search (rules, eq-eqb _ _ c.if-ibank-eq0.true)

pub returns : goal.returns
unfolding segment_of
returns c = search (rules, ne_eqb _ _ c.if-ibank-eq0.false)
