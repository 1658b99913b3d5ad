-- `count_group`: from what its callees ensure; the count says which answer stands.
use native.Mathlib.Omega.{arith}
use Rattle.group.proofs.Steps.{lent_ready, fault_ready, bits_most, counted_done, counted_wrong, counted_stop}
use Rattle.group.proofs.count_group.Goals as goal

pub change_group-requires : goal.change_group-requires
change_group-requires c =
    lent_ready _ _ _ _ _ _ c.requires.0
    c.requires.1

pub just_enough-requires : goal.just_enough-requires
just_enough-requires c =
    let p = c.requires in
    let m = bits_most _ _ _ _ _ _ p.0 p.1 _ _ _ c.change_group.ensures _
    c.in-Some.is in
    (omega (arith, m, p.0.sized.program), omega (arith, p.0.sized.words))

pub returns-then-just_enough : goal.returns-then-just_enough
returns-then-just_enough c =
    let p = c.requires in
    counted_done _ _ _ _ _ _ p.0 p.1 _ _ _ c.change_group.ensures _
    c.in-Some.is _ c.just_enough.ensures c.if-just_enough.true

pub group_fault-requires : goal.group_fault-requires
group_fault-requires c =
    fault_ready _ _ _ _ _ _ c.requires.0
    c.requires.1

pub returns : goal.returns
returns c =
    let p = c.requires in
    counted_wrong _ _ _ _ _ _ p.0 p.1 _ _ _ c.change_group.ensures _
    c.in-Some.is _ c.just_enough.ensures
    c.if-just_enough.false _ _
    c.refuse-2.ensures

pub returns-in_default : goal.returns-in_default
returns-in_default c =
    let p = c.requires in
    counted_stop _ _ _ _ _ _ p.0 p.1 _ _ _ c.change_group.ensures
    c.in_default.is _
    c.group_fault.ensures _ _ c.refuse.ensures
