-- `changes::moved_word`: the test of the code is that of the definition.
use native.Mathlib.Omega.{arith}
use borrow.Author.Tests.{lt-ltb, le-ltb}
use Rattle.group.specs.HowHalves.{moved_word}
use borrow.Author.Rules.{rules}
use Rattle.group.proofs.changes.moved_word.Goals as goal

pub move_right-requires : goal.move_right-requires
move_right-requires c =
    let e = rw c.field.ensures at c.placed-a.ensures in
    let t = rw e at c.if-a-lt-VALUE_LIMIT.true in
    (search rules, omega (arith, t))

pub returns-then-a-lt-VALUE_LIMIT : goal.returns-then-a-lt-VALUE_LIMIT
unfolding moved_word
returns-then-a-lt-VALUE_LIMIT c =
    let e = rw c.field.ensures at
    c.placed-a.ensures in
    let t = rw e at c.if-a-lt-VALUE_LIMIT.true in
    rw (lt-ltb _ _ t, c.move_right.ensures, c.pass_bits.ensures)

pub returns : goal.returns
unfolding moved_word
returns c =
    let e = rw c.field.ensures at c.placed-a.ensures in
    let t = rw e at c.if-a-lt-VALUE_LIMIT.false in
    rw (le-ltb _ _ t)
