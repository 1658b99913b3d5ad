-- `calls::open::open_load` meets its contract: refusals 1, 2 and 4, or what `grant` leaves.
use Rattle.calls.specs.Open.{open_of}
use Rattle.calls.proofs.Entry.{entry_passed, entered-refused, entered_on}
use Rattle.calls.proofs.open.open_load.Goals as goal

pub returns-in-Err : goal.returns-in-Err
unfolding open_of
returns-in-Err c = entered-refused _ _ _ _ _ _ c.in-Err.ensures

pub grant-requires : goal.grant-requires
grant-requires c = entry_passed _ _ _ _ c.in_default.ensures

pub returns : goal.returns
unfolding open_of
returns c =
    let k = entry_passed _ _ _ _ c.in_default.ensures in
    rw (entered_on _ _ _ _ _ k) c.grant.ensures
