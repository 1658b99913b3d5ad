-- The hand deck as a load: "area 512 of size 64, no lists". Its blocks are those of crate hand_deck.
use Rattle.std.specs.Prelude.{[]}
use Rattle.lists.specs.Load.{Load}

abbrev pub deck_given : Load
deck_given = record { area = record { at = record { 0 = 512 }; size = 64 }; tables = []; ios = [] }
