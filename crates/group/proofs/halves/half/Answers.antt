-- `halves::half`: a bit 0 leaves the word; else it is one field step, by the type that comes next.
use mathlib.Core.Path.{◌∙◌}
use native.Mathlib.Omega.{arith}
use Rattle.field.specs.Field.{assigned_by}
use Rattle.group.proofs.Both.{half_same, half_steps}
use Rattle.group.proofs.halves.half.Goals as goal

pub returns-then-c-lt-NEXT_BIT : goal.returns-then-c-lt-NEXT_BIT
returns-then-c-lt-NEXT_BIT c =
    let a = c.args in
    rw (c.pass_bits.ensures, half_same (assigned_by a.s a.lists.now) a.h a.w a.c c.if-c-lt-NEXT_BIT.true)

pub passed-requires : goal.passed-requires
passed-requires c = rw c.pass_bits-d.ensures (omega (arith, c.requires.near))

pub returns : goal.returns
returns c =
    let a = c.args in
    c.passed.ensures
    ∙ rw c.pass_bits-d.ensures (half_steps (assigned_by a.s a.lists.now) a.h a.w a.c _ _ _
    c.if-c-lt-NEXT_BIT.false c.bits-t.ensures
    c.bits-x.ensures c.step.ensures)
