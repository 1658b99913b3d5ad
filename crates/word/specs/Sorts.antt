-- "Addresses relative to the Program Name and absolute core addresses are two sorts of number throughout, and so are
-- reference numbers." An area's address is all that turns one of the first sort into one of the second.
use Rattle.std.specs.Prelude.{ℕ, ◌+◌}
use Rattle.word.specs.declared.Relative.{Relative}
use Rattle.word.specs.declared.Absolute.{Absolute}
use Rattle.word.specs.declared.Area.{Area}
use Rattle.word.specs.declared.Half.TheVariants.{Right}
use Rattle.word.specs.Word.{field_of, field_stored}

abbrev pub absolute_of : Area → Relative → Absolute
absolute_of area r = record { 0 = area.at.0 + r.0 }

-- "Group addresses count from the Program Name, or from the table's first word": the second way, by a table's address
abbrev pub from_table : Absolute → Relative → Absolute
from_table at r = record { 0 = at.0 + r.0 }

-- the word w with its right field, which is a relative address, made an absolute one
abbrev pub right_moved : Area → ℕ → ℕ
right_moved area w = field_stored Right w (absolute_of area (record { 0 = field_of Right w })).0
