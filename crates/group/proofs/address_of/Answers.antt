-- `address_of`: by section, from what the two conversions ensure.
use native.Mathlib.Omega.{arith}
use Rattle.group.specs.Group.{address_of}
use Rattle.group.proofs.address_of.Goals as goal

pub from_table-requires : goal.from_table-requires
from_table-requires c =
    let p = c.requires in
    let r = rw c.in-Table.is at p.room in
    omega (arith, r.0, r.1, r.2, p.inside, p.sized.at)

pub returns-in-Segment : goal.returns-in-Segment
unfolding address_of
returns-in-Segment c = rw c.in-Segment.is c.placed.ensures

pub returns-in-Table : goal.returns-in-Table
unfolding address_of
returns-in-Table c = rw c.in-Table.is c.from_table.ensures
