-- `clamp::clamp_make` meets its contract: what the call leaves, packed.
use Rattle.calls.proofs.Made.{make_small}
use Rattle.clamp.proofs.Returned.{packed_returned}
use Rattle.clamp.proofs.clamp_make.Goals as goal

pub pack-requires : goal.pack-requires
pack-requires c =
    let a = c.args in rw
    c.make_desk.ensures.told (make_small a.desk.now a.core a.numbers.now)

pub returns : goal.returns
returns c = packed_returned _ _ _ _ _ c.make_desk.ensures c.pack.ensures
