-- `desk::counts_fit` meets its contract: each return by the tests that led to it.
use Rattle.std.proofs.Common.{inl, inr, arith}
use Rattle.word.proofs.Tests.{tests}
use Rattle.desk.specs.Sound.{counts_fit}
use Rattle.desk.proofs.counts_fit.Goals.{then-g, else-g}
use Rattle.desk.proofs.counts_fit.Goals as goal

pub returns-then-g-2 : goal.returns-then-g-2
unfolding counts_fit
returns-then-g-2 c = elim c.if-g.branch [ then-g w ↦ search tests | else-g w ↦ search tests ]

pub returns-else-g-2 : goal.returns-else-g-2
unfolding counts_fit
returns-else-g-2 c = elim c.if-g.branch [
  | then-g w ↦ elim c.if-g-2.either [ inl h ↦ rw w.t-3-is (search (tests, h.1)) | inr h ↦ absurd (omega arith) ]
  | else-g w ↦ search tests
]
