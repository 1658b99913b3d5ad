-- `clamp::clamp_assign` meets its contract: what assigning leaves, packed.
use Rattle.clamp.proofs.Assigned.{refused_small, packed_assigned}
use Rattle.clamp.proofs.clamp_assign.Goals as goal

pub pack_file-requires-in-Err : goal.pack_file-requires-in-Err
pack_file-requires-in-Err c =
    refused_small _ _ _ _ _ _ _ _ c.assign.ensures
    c.in-Err.is

pub returns-in-Ok : goal.returns-in-Ok
returns-in-Ok c = packed_assigned _ _ _ _ _ _ _ _ c.assign.ensures (rw c.in-Ok.is c.pack_file.ensures)

pub returns-in-Err : goal.returns-in-Err
returns-in-Err c = packed_assigned _ _ _ _ _ _ _ _ c.assign.ensures (rw c.in-Err.is c.pack_file-in-Err.ensures)
