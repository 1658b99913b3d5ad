-- `clamp::clamp_open` meets its contract: what the call leaves, packed.
use Rattle.calls.proofs.Opened.{open_small}
use Rattle.clamp.proofs.Returned.{packed_returned}
use Rattle.clamp.proofs.clamp_open.Goals as goal

pub pack-requires : goal.pack-requires
pack-requires c =
    let a = c.args in
    rw c.open_load.ensures.told
    (open_small a.desk.now a.core.now a.room (record { at = record { 0 = a.area }; size = a.size }) a.io.now
    a.tables.now)

pub returns : goal.returns
returns c = packed_returned _ _ _ _ _ c.open_load.ensures c.pack.ensures
