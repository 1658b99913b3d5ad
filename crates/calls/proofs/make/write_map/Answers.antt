-- `calls::make::write_map` meets its contract: the copy holds the numbers that are lent.
use mathlib.Core.Path.{ap, ◌∙◌}
use Rattle.word.specs.Lists.{splice}
use Rattle.calls.proofs.Made.{map-copied}
use Rattle.calls.proofs.make.write_map.Goals as goal

pub returns : goal.returns
returns c =
    c.copy_in-2.ensures
    ∙ ap (splice c.args.desk.now 1)
    (map-copied _ _ c.requires.1 c.copy_in.ensures)
