-- `rooms::lowest_free` meets its contract: std's search goes as the definition does.
use Rattle.std.proofs.Common.{arith, rules, tests, ◌≡◌, eqb, position, length}
use Rattle.std.specs.Option.{unwrap_or}
use Rattle.std.proofs.lemmas.Iterator.{YieldsList-from_slice}
use Rattle.std.proofs.lemmas.Iterator.Search.{position_from_yields_List}
use Rattle.rooms.specs.Rooms.{lowest_free}
use Rattle.rooms.proofs.Count.{lowest_is}
use Rattle.rooms.proofs.lowest_free.Goals as goal

pub returns : goal.returns
returns c =
    let l = c.args.holders.now in
    let e : c.position.result ≡ position (λ a. eqb a 0) l = position_from_yields_List (λ a. eqb a 0) _ _ c.position.result
    c.position.ensures.ran (YieldsList-from_slice l cc) (λ x b q k. search (rules, tests)) in
    let n : unwrap_or c.position.result (length l) ≡ lowest_free l = rw e (lowest_is l) in
    omega arith
