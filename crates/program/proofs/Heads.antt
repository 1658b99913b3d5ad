-- What stands at a place of a program block, read by its head word alone: the head that a reader finds there who knows what is due.
use Prim.Native.Nat.{ℕ, ◌+◌}
use mathlib.Core.Path.{◌≡◌, refl}
use mathlib.Core.List.{List}
use native.Mathlib.Omega.{arith}
use lib.ListN.{get_or}
use lib.Dec.{eqb}
use borrow.Author.Tests.{eqb-true, ne_eqb}
use Rattle.std.specs.Prelude.{Result, Ok, Err}
use Rattle.word.specs.declared.Fault.{Fault}
use Rattle.word.specs.Word.{part}
use Rattle.word.specs.Fault.{fault}
use Rattle.word.proofs.Cases.{by-test}
use Rattle.program.specs.declared.Bank.{Bank}
use Rattle.program.specs.declared.Segment.{Segment}
use Rattle.program.specs.declared.TableSection.{TableSection}
use Rattle.program.specs.declared.Group.{Group}
use Rattle.program.specs.Sections.{bank_of, with_ibank, segment_of, table_section_of}
use Rattle.program.specs.Groups.{group_of}
use Rattle.program.specs.Pieces.{head_at}
use Rattle.program.specs.Pieces.Head.{SegmentHead, TableHead, GroupHead}

-- ---- bits 35-34 tell a head: 00 the segment's, 01 a table section's, 10 a group's
module _ (w : ℕ) where
  no_group_here : (part 34 2 w ≡ 2 → ⊥) → group_of w ≡ Err (fault 18)
  unfolding group_of
  no_group_here h = rw (ne_eqb (part 34 2 w) 2 h)

  no_section_here : (part 34 2 w ≡ 1 → ⊥) → table_section_of w ≡ Err (fault 17)
  unfolding table_section_of
  no_section_here h = rw (ne_eqb (part 34 2 w) 1 h)

  section_bits : (t : TableSection) → table_section_of w ≡ Ok t → part 34 2 w ≡ 1
  unfolding table_section_of
  section_bits t e =
      by-test (eqb (part 34 2 w) 1) (λ q. eqb-true (part 34 2 w) 1 q)
      (λ q. let f : Err (fault 17) ≡ Ok t = rw q at e in let z : ◌≡◌ {A = ℕ} 0 1 = cc in absurd (omega arith))

  bank_bits : (b : Bank) → bank_of w ≡ Ok b → part 34 2 w ≡ 0
  unfolding bank_of
  bank_bits b e =
      by-test (eqb (part 34 2 w) 0) (λ q. eqb-true (part 34 2 w) 0 q)
      (λ q. let f : Err (fault 17) ≡ Ok b = rw q at e in let z : ◌≡◌ {A = ℕ} 0 1 = cc in absurd (omega arith))

  segment_by : (second : ℕ) (g : Segment) (r : Result Bank Fault) → bank_of w ≡ r → with_ibank r (bank_of second) ≡ Ok g
      → part 34 2 w ≡ 0
  segment_by second g (Ok b) q e = bank_bits b q
  segment_by second g (Err f) q e = let z : ◌≡◌ {A = ℕ} 0 1 = cc in absurd (omega arith)

  segment-bits : (second : ℕ) (g : Segment) → segment_of w second ≡ Ok g → part 34 2 w ≡ 0
  unfolding segment_of
  segment-bits second g e = segment_by second g (bank_of w) refl e

module _ (block : List ℕ) (i : ℕ) where
  abbrev here : ℕ
  here = get_or block i 0

  pub head_group : (g : Group) → group_of here ≡ Ok g → head_at block i ≡ GroupHead g
  unfolding head_at
  head_group g e = rw e

  pub head_table : (t : TableSection) → table_section_of here ≡ Ok t → head_at block i ≡ TableHead t
  unfolding head_at
  head_table t e = let b = section_bits here t e in rw (no_group_here here (omega arith), e)

  pub head_segment : (g : Segment) → segment_of here (get_or block (i + 1) 0) ≡ Ok g → head_at block i ≡ SegmentHead g
  unfolding head_at
  head_segment g e =
      let b = segment-bits here (get_or block (i + 1) 0) g e in
      rw (no_group_here here (omega arith), no_section_here here (omega arith), e)
