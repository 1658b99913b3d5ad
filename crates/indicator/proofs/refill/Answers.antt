-- `refill`: the test of the code is that of the definition; the sum fits since it is a number of 64 bits.
use native.Mathlib.Omega.{arith}
use lib.ListN.{length}
use Prim.Native.Nat.{◌-◌}
use Rattle.indicator.specs.HowCursor.{place_of, refilled}
use Rattle.indicator.proofs.Bits.{number_below_lem}
use Rattle.indicator.proofs.Reading.{beyond_most, few_wants, refill_number}
use Rattle.word.proofs.Tests.{tests}
use borrow.Author.Tests.{le-ltb}
use Rattle.indicator.proofs.refill.Goals as goal

pub returns-then-c-gt-FEW : goal.returns-then-c-gt-FEW
unfolding refilled
returns-then-c-gt-FEW c = search tests

pub overflow_sub-next : goal.overflow_sub-next
overflow_sub-next c = omega (arith, few_wants _ _ c.args.c _ c.requires.sees c.requires.near c.if-c-gt-FEW.false)

pub bounds-words-next : goal.bounds-words-next
bounds-words-next c = omega (arith, few_wants _ _ c.args.c _ c.requires.sees c.requires.near c.if-c-gt-FEW.false, c.requires.sees.most)

pub overflow_add-result : goal.overflow_add-result
overflow_add-result c =
    omega (
      arith,
      refill_number c.args.words.now c.args.n c.args.c _ c.requires.sees c.requires.near
          c.if-c-gt-FEW.false c.requires.all,
      number_below_lem c.args.words.now (length c.args.words.now) (length c.args.words.now - (c.args.c.next - 1))
          (place_of (length c.args.words.now) c.args.n c.args.c) 64,
    )

pub overflow_add-result-3 : goal.overflow_add-result-3
overflow_add-result-3 c = omega (arith, c.beyond_last.ensures, beyond_most c.args.n (c.args.c.next - 1))

pub returns : goal.returns
unfolding refilled
returns c = rw (c.beyond_last.ensures, le-ltb _ _ c.if-c-gt-FEW.false)
