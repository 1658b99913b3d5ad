-- A program block cut into its pieces, by what each head word says of itself: no load, no desk and no stage in it. What is due where
-- a piece stands, and whether it may stand there, is the loader's to say (crate `sections`); here is only seen where each begins.
use Rattle.std.specs.Prelude.{ℕ, zero, suc, ◌+◌, ◌≡◌, Bool, cond, ◌||◌, List, [], ◌∷◌, ◌⊎◌, get_or, eqb, leb, Result, Ok, Err}
use Rattle.word.specs.declared.Fault.{Fault}
use Rattle.program.specs.declared.Segment.{Segment}
use Rattle.program.specs.declared.TableSection.{TableSection}
use Rattle.program.specs.declared.Group.{Group}
use Rattle.program.specs.Sections.{segment_of, table_section_of, last_word}
use Rattle.program.specs.Groups.{group_of}

-- "where an identifier's first word is due, a zero word or the end at word 254 closes the block"
unfoldable pub closes : List ℕ → ℕ → Bool
closes block i = leb (last_word + 1) i || eqb (get_or block i 0) 0

-- a word says by its bits 35-34 what it heads: 10 a group, 01 a table section, zeros the segment section, of four words
pub data Head : Type 0 where
  SegmentHead : Segment → Head
  TableHead : TableSection → Head
  GroupHead : Group → Head
  NoHead : Head

abbrev pub by_group : Result Group Fault → Head → Head
by_group (Ok g) else = GroupHead g
by_group (Err f) else = else

abbrev pub by_section : Result TableSection Fault → Head → Head
by_section (Ok t) else = TableHead t
by_section (Err f) else = else

abbrev pub by_segment : Result Segment Fault → Head
by_segment (Ok g) = SegmentHead g
by_segment (Err f) = NoHead

unfoldable pub head_at : List ℕ → ℕ → Head
head_at block i =
    by_group (group_of (get_or block i 0))
    (by_section (table_section_of (get_or block i 0))
    (by_segment (segment_of (get_or block i 0) (get_or block (i + 1) 0))))

-- the head that stands at a place of a block
pub record Piece : Type 0 where
  pub block : List ℕ
  pub at : ℕ
  pub head : Head

-- the place after it
abbrev pub after : ℕ → Head → ℕ
after i (SegmentHead g) = i + 4
after i (TableHead t) = i + 1
after i (GroupHead g) = i + 1 + g.words
after i NoHead = i

abbrev pub piece_then : List ℕ → ℕ → Head → List Piece → List Piece
piece_then block i (SegmentHead g) rest = record { block = block; at = i; head = SegmentHead g } ∷ rest
piece_then block i (TableHead t) rest = record { block = block; at = i; head = TableHead t } ∷ rest
piece_then block i (GroupHead g) rest = record { block = block; at = i; head = GroupHead g } ∷ rest
piece_then block i NoHead rest = []

-- n pieces at most, from place i on
unfoldable pub pieces_from : ℕ → List ℕ → ℕ → List Piece
pieces_from zero block i = []
pieces_from (suc n) block i =
    cond (closes block i)
    []
    (piece_then block i (head_at block i) (pieces_from n block (after i (head_at block i))))

-- from word 1 on; each piece takes a word or more, so 254 are all there can be
abbrev pub pieces_of : List ℕ → List Piece
pieces_of block = pieces_from last_word block 1

-- ---- one of the pieces
unfoldable pub OneOf : Piece → List Piece → Type 0
OneOf p [] = ⊥
OneOf p (q ∷ qs) = (p ≡ q) ⊎ OneOf p qs

-- the group g, whose identifier is word i of the block
abbrev pub HasGroup : List ℕ → ℕ → Group → Type 0
HasGroup block i g = OneOf (record { block = block; at = i; head = GroupHead g }) (pieces_of block)
