-- The image that a program file defines, from its blocks, the area and the two lists alone: the label's counts, the program blocks
-- cut into pieces, the stores in order, and of each word the last store that reaches it. No loader, no desk and no stage in it. Of
-- the modification blocks only the number matters here: their words hold the lengths of the tables, and a file whose lengths are
-- not met is refused with 16.
use Rattle.std.specs.Prelude.{ℕ, ◌+◌, ◌-◌, Bool, false, cond, ◌&&◌, ◌||◌, List, [], ◌∷◌, ◌++◌, map, length, get_or, drop, eqb, leb, ltb, Result, Ok, Err}
use Rattle.word.specs.Lists.{tab}
use Rattle.word.specs.Sorts.{absolute_of}
use Rattle.word.specs.declared.Absolute.{Absolute}
use Rattle.word.specs.declared.Area.{Area}
use Rattle.label.specs.declared.Label.{Label}
use Rattle.word.specs.declared.Fault.{Fault}
use Rattle.label.specs.Label.{label_of, channel_count, io_count}
use Rattle.modification.specs.Entries.{entry_blocks}
use Rattle.program.specs.declared.TableSection.{TableSection}
use Rattle.program.specs.declared.Group.{Group}
use Rattle.program.specs.Pieces.{Head, Piece, pieces_of}
use Rattle.program.specs.Pieces.Head.{SegmentHead, TableHead, GroupHead, NoHead}
use Rattle.program.specs.Start.{start_of}
use Rattle.lists.specs.declared.Table.{Table as CoreTable}
use Rattle.lists.specs.Obey.{no_table}
use Rattle.field.specs.Field.{Assignments}
use Rattle.group.specs.declared.Section.{Section}
use Rattle.group.specs.declared.Section.TheVariants.{Segment as InSegment, Table as InTable}
use Rattle.group.specs.Group.{Words, changed_words, program_words, indicator_bits_in, words_lie, address_of}
use Rattle.group.specs.Group.Words.{Become, Refuse}

-- ---- the pieces of the program blocks, one block after another
unfoldable pub pieces : List (List ℕ) → List Piece
pieces [] = []
pieces (block ∷ blocks) = pieces_of block ++ pieces blocks

-- ---- the stores
pub record Store : Type 0 where
  pub at : ℕ
  pub words : List ℕ

-- a group whose fields are refused, or whose words do not lie where they must, stores nothing; in a file that is loaded there is
-- none
abbrev pub words_or : Words → List ℕ
words_or (Become vs) = vs
words_or (Refuse f) = []

-- a group of a section: its program words, changed by their indicators, where the section puts them
unfoldable pub store_of : Assignments → Section → List ℕ → ℕ → Group → Store
store_of a section block i g =
    cond (words_lie section g)
    (record {
      at = (address_of a.area section g).0;
      words = words_or
          (changed_words a (indicator_bits_in block i g) 0 (program_words block i g));
    })
    (record { at = 0; words = [] })

-- ---- the groups in order, each with the section that it stands in
pub record SectionGroup : Type 0 where
  pub section : Section
  pub block : List ℕ
  pub at : ℕ
  pub group : Group

-- before the first head no bank has a word
abbrev pub no_section : Section
no_section = InSegment (record {
  ibank = record { at = record { 0 = 0 }; count = 0 };
  dbank = record { at = record { 0 = 0 }; count = 0 };
})

abbrev pub table_section : List CoreTable → TableSection → Section
table_section tables t = InTable (get_or tables t.number.0 no_table) t.count

-- a section's head leads to its groups; `next` are the groups of the pieces after it, by the section that they begin in
abbrev pub groups_by : List CoreTable → Section → List ℕ → ℕ → Head → (Section → List SectionGroup) → List SectionGroup
groups_by tables section block i (SegmentHead g) next = next (InSegment g)
groups_by tables section block i (TableHead t) next = next (table_section tables t)
groups_by tables section block i (GroupHead g) next = record { section = section; block = block; at = i; group = g } ∷ next section
groups_by tables section block i NoHead next = next section

unfoldable pub groups_from : List CoreTable → Section → List Piece → List SectionGroup
groups_from tables section [] = []
groups_from tables section (p ∷ ps) = groups_by tables section p.block p.at p.head (λ s. groups_from tables s ps)

-- "bit 17 set on the section's last group"; "After the last section's last group the rest of the block is disregarded": the groups
-- up to the n-th that is the last of its section
unfoldable pub up_to_last : ℕ → List SectionGroup → List SectionGroup
up_to_last n [] = []
up_to_last n (g ∷ gs) = cond (eqb n 0) [] (g ∷ up_to_last (cond g.group.last (n - 1) n) gs)

-- what they store
abbrev pub store_in : Assignments → SectionGroup → Store
store_in a g = store_of a g.section g.block g.at g.group

unfoldable pub stores_from : Assignments → ℕ → Section → List Piece → List Store
stores_from a n section ps = map (store_in a) (up_to_last n (groups_from a.tables section ps))

-- ---- "Where groups overlap, the later word stands": the word at address j is that of the last store that reaches it, and zero
-- where none does
abbrev pub reaches : Store → ℕ → Bool
reaches s j = leb s.at j && ltb j (s.at + length s.words)

unfoldable pub reached : List Store → ℕ → Bool
reached [] j = false
reached (s ∷ later) j = reached later j || reaches s j

unfoldable pub word_from : List Store → ℕ → ℕ
word_from [] j = 0
word_from (s ∷ later) j =
    cond (reached later j) (word_from later j) (cond (reaches s j) (get_or s.words (j - s.at) 0) 0)

-- ---- the file: "one label, modification blocks, program blocks, one termination block"
abbrev pub first_block : List (List ℕ) → List ℕ
first_block file = get_or file 0 []

abbrev pub last_block : List (List ℕ) → List ℕ
last_block file = get_or file (length file - 1) []

abbrev pub assignments_of : Area → List CoreTable → List ℕ → Label → Assignments
assignments_of area tables ios l =
    record { area = area; tables = tables; ios = ios; channels = channel_count l }

-- one segment section and as many table sections as the label says
unfoldable pub stores_beyond : Area → List CoreTable → List ℕ → Result Label Fault → List (List ℕ) → List Store
stores_beyond area tables ios (Ok l) file =
    stores_from (assignments_of area tables ios l) (1 + l.sections) no_section
    (pieces (drop (1 + entry_blocks (io_count l) l.tables) file))
stores_beyond area tables ios (Err f) file = []

unfoldable pub stores_of : Area → List CoreTable → List ℕ → List (List ℕ) → List Store
stores_of area tables ios file = stores_beyond area tables ios (label_of (first_block file)) file

-- the area's words
unfoldable pub image_of : Area → List CoreTable → List ℕ → List (List ℕ) → List ℕ
image_of area tables ios file = tab (λ k. word_from (stores_of area tables ios file) (area.at.0 + k)) area.size

-- "Termination: word 1 bits 15-0 give the start, relative to the Program Name": moved by the area's address
abbrev pub file_start : Area → List (List ℕ) → Absolute
file_start area file = absolute_of area (start_of (last_block file))
