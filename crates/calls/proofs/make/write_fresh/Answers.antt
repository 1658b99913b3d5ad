-- `calls::make::write_fresh` meets its contract: what its three writes leave is the fresh desk.
use mathlib.Core.Path.{sym, ap, ◌∙◌}
use native.Mathlib.Omega.{arith}
use lib.ListN.{length, length-set}
use Rattle.calls.specs.Make.{freed}
use Rattle.calls.proofs.Made.{length-freed, fixed_length, fresh_as}
use Rattle.calls.proofs.make.write_fresh.Goals as goal

pub write_map-requires : goal.write_map-requires
write_map-requires c = (simp length-set (omega arith), omega arith)

pub clear_places-requires : goal.clear_places-requires
clear_places-requires c =
    ap length c.write_map.ensures
    ∙ fixed_length c.args.desk.now c.args.core c.args.numbers.now c.requires.0 c.requires.1

pub shape_of-desk : goal.shape_of-desk
shape_of-desk c =
    ap length c.clear_places.ensures
    ∙ length-freed 12 _
    ∙ ap length c.write_map.ensures
    ∙ fixed_length c.args.desk.now c.args.core c.args.numbers.now c.requires.0 c.requires.1
    ∙ sym c.requires.0

pub returns : goal.returns
returns c =
    c.clear_places.ensures
    ∙ ap (freed 12) c.write_map.ensures
    ∙ fresh_as c.args.desk.now c.args.core c.args.numbers.now c.requires.0 c.requires.1
