-- The stores of a program block from a head on: of a section's head those of the pieces after it, of a group's its own first.
use Prim.Native.Nat.{ℕ, suc, ◌+◌, ◌-◌}
use mathlib.Core.Path.{◌≡◌, refl}
use mathlib.Core.Bool.{false, cond}
use mathlib.Core.List.{List, [], ◌∷◌, ◌++◌}
use native.Mathlib.Omega.{arith}
use borrow.Author.Tests.{ne_eqb}
use Rattle.program.specs.declared.Segment.{Segment}
use Rattle.program.specs.declared.TableSection.{TableSection}
use Rattle.program.specs.declared.Group.{Group}
use Rattle.program.specs.Pieces.{closes, Piece, head_at, pieces_from}
use Rattle.program.specs.Pieces.Head.{SegmentHead, TableHead, GroupHead}
use Rattle.program.proofs.Pieces.{pieces_on}
use Rattle.field.specs.Field.{Assignments}
use Rattle.group.specs.declared.Section.{Section}
use Rattle.group.specs.declared.Section.TheVariants.{Segment as InSegment}
use Rattle.demands.specs.Image.{store_of, SectionGroup, table_section, groups_from, up_to_last, stores_from}

-- `rest` are the pieces of later blocks
module _ (block : List ℕ) (i : ℕ) (a : Assignments) (m : ℕ) (section : Section) (n : ℕ) (rest : List Piece)
    (more : closes block i ≡ false) where
  pub stores_segment : (g : Segment) → head_at block i ≡ SegmentHead g
      → stores_from a (suc m) section (pieces_from (suc n) block i ++ rest) ≡ stores_from a (suc m) (InSegment g)
      (pieces_from n block (i + 4) ++ rest)
  unfolding stores_from groups_from
  stores_segment g e = rw (pieces_on block i n more (SegmentHead g) e)

  pub stores_table : (t : TableSection) → head_at block i ≡ TableHead t
      → stores_from a (suc m) section (pieces_from (suc n) block i ++ rest) ≡ stores_from a (suc m) (table_section a.tables t)
      (pieces_from n block (i + 1) ++ rest)
  unfolding stores_from groups_from
  stores_table t e = rw (pieces_on block i n more (TableHead t) e)

  pub stores_group : (g : Group) → head_at block i ≡ GroupHead g
      → stores_from a (suc m) section (pieces_from (suc n) block i ++ rest)
      ≡ store_of a section block i g
      ∷ stores_from a (cond g.last m (suc m)) section (pieces_from n block (i + 1 + g.words) ++ rest)
  unfolding stores_from groups_from up_to_last
  stores_group g e =
      let k : suc m - 1 ≡ m = omega arith in
      rw (pieces_on block i n more (GroupHead g) e, ne_eqb (suc m) 0 (omega arith), k)

-- after the last section there is no store
none_left : (gs : List SectionGroup) → up_to_last 0 gs ≡ []
unfolding up_to_last
none_left [] = refl
none_left (g ∷ gs) = refl

pub no_stores : (a : Assignments) (section : Section) (ps : List Piece) → stores_from a 0 section ps ≡ []
unfolding stores_from
no_stores a section ps = rw (none_left (groups_from a.tables section ps))
