-- `clamp::clamp_release` meets its contract: what the call leaves, packed.
use Rattle.calls.proofs.Freed.{release_small}
use Rattle.clamp.proofs.Returned.{packed_returned}
use Rattle.clamp.proofs.clamp_release.Goals as goal

pub pack-requires : goal.pack-requires
pack-requires c =
    let a = c.args in rw c.release_place.ensures.told
    (release_small a.desk.now a.core a.room a.place)

pub returns : goal.returns
returns c = packed_returned _ _ _ _ _ c.release_place.ensures c.pack.ensures
