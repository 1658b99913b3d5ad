-- The tags of a file, by kind (#101): "A finds a core entry's first word, L its second, P an I/O entry's first."
use Rattle.std.specs.Prelude.{ℕ, ◌+◌, List}
use Rattle.word.specs.Lists.{tab}
use Rattle.label.specs.Label.{io_count}
use Rattle.label.specs.declared.Label.{Label}
use Rattle.modification.specs.Entries.{io_entry, core_entry}
use Rattle.front.specs.Front.{entry_word}
use Rattle.book.specs.declared.Kind.{Kind}
use Rattle.book.specs.declared.Kind.TheVariants.{Address, Length, Peripheral}

-- how many entries have a tag of the kind
abbrev pub entries_of : Label → Kind → ℕ
entries_of l Peripheral = io_count l
entries_of l Address = l.tables
entries_of l Length = l.tables

-- the entry word in which entry j has it
abbrev pub tag_word : Label → Kind → ℕ → ℕ
tag_word l Peripheral j = io_entry (record { 0 = j })
tag_word l Address j = core_entry (io_count l) (record { 0 = j })
tag_word l Length j = core_entry (io_count l) (record { 0 = j }) + 1

-- the tag of entry j, of any kind
unfoldable pub tag_of : List ℕ → Label → Kind → ℕ → ℕ
tag_of blocks l k j = entry_word blocks (tag_word l k j)

unfoldable pub tags_of : List ℕ → Label → Kind → List ℕ
tags_of blocks l k = tab (tag_of blocks l k) (entries_of l k)

-- all tags of a file
pub record FileTags : Type 0 where
  pub peripherals : List ℕ
  pub addresses : List ℕ
  pub lengths : List ℕ

abbrev pub file_tags : List ℕ → Label → FileTags
file_tags blocks l = record {
  peripherals = tags_of blocks l Peripheral;
  addresses = tags_of blocks l Address;
  lengths = tags_of blocks l Length;
}

abbrev pub of_kind : Kind → FileTags → List ℕ
of_kind Peripheral ts = ts.peripherals
of_kind Address ts = ts.addresses
of_kind Length ts = ts.lengths
