-- `program::in_bank` meets its contract: each return by the tests that led to it.
use Prim.Native.Nat.{◌+◌, ◌-◌}
use native.Mathlib.Omega.{arith}
use borrow.Author.Tests.{le-ltb}
use Rattle.word.proofs.Cases.{ltb_iff}
use Rattle.word.proofs.Tests.{tests}
use Rattle.program.specs.Start.{in_bank}
use Rattle.program.proofs.in_bank.Goals as goal

pub returns-then-r-bank : goal.returns-then-r-bank
unfolding in_bank
returns-then-r-bank c = search tests

pub returns : goal.returns
unfolding in_bank
returns c =
    let a = c.args in
    let h = c.if-r-bank.false in
    rw (le-ltb a.r.0 a.bank.at.0 h)
    (ltb_iff (a.r.0 - a.bank.at.0) a.bank.count a.r.0 (a.bank.at.0 + a.bank.count) (omega arith))
