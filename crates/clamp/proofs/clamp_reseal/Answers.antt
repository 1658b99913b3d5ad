-- `clamp::clamp_reseal` meets its contract: what resealing leaves, packed.
use mathlib.Core.Path.{sym, ◌∙◌}
use Rattle.clamp.proofs.Resealed.{reseal_small, packed-resealed}
use Rattle.clamp.proofs.clamp_reseal.Goals as goal

pub pack_file-requires-in-Err : goal.pack_file-requires-in-Err
pack_file-requires-in-Err c =
    let a = c.args in
    rw (sym c.reseal.ensures.told ∙ c.in-Err.is)
    at (reseal_small a.index a.block.now)

pub returns-in-Ok : goal.returns-in-Ok
returns-in-Ok c =
    packed-resealed _ _ _ _ _ c.reseal.ensures
    (rw c.in-Ok.is c.pack_file.ensures)

pub returns-in-Err : goal.returns-in-Err
returns-in-Err c =
    packed-resealed _ _ _ _ _ c.reseal.ensures
    (rw c.in-Err.is c.pack_file-in-Err.ensures)
