-- Every front that is refused is refused with 11 to 15, at a word that the slice could have, and at no half of one.
use Prim.Native.Nat.{ℕ, zero, suc, ◌*◌, ◌≤◌}
use mathlib.Core.Path.{◌≡◌, refl}
use mathlib.Core.List.{List}
use native.Mathlib.Omega.{arith}
use lib.ListN.{length}
use lib.Dec.{ltb}
use Rattle.word.specs.Limits.{words_in_block}
use Rattle.word.specs.Fault.{fault, Verdict}
use Rattle.word.specs.declared.Fault.{Fault}
use Rattle.word.proofs.Cases.{both}
use Rattle.block.specs.Block.{verdict}
use Rattle.block.specs.Checksum.{checksum}
use Rattle.block.specs.Records.{checksum_place, of_record}
use Rattle.block.specs.declared.Record.{Record}
use Rattle.block.specs.declared.Record.TheVariants.{Label as label-record, Modification, Program}
use Rattle.std.specs.Prelude.{Result, Ok, Err, None}
use Rattle.block.proofs.OnePass.{seal-cases}
use Rattle.label.specs.Label.{label_of, Carried}
use Rattle.label.specs.declared.Label.{Label}
use Rattle.label.proofs.Faults.{label_faults}
use Rattle.front.specs.Front.{on_pass, label_on_pass, label_block, block_at, wrong_record, modification_at, modifications_to}
use Rattle.front.specs.Front.{over_at, behind_label, blocks_due, with_blocks, front_of}
use Rattle.front.proofs.Carried.{label-block-carried}

-- the words of five blocks: a label, the three modification blocks that a file has at most, and one that is over
abbrev pub front_most : ℕ
front_most = 5 * words_in_block

pub record FrontFault (f : Fault) : Type 0 where
  pub least : 11 ≤ f.number
  pub most : f.number ≤ 15
  pub word : f.word ≤ front_most
  pub half : f.half ≡ None

abbrev Ends : Verdict → Type 0
Ends (Ok t) = Unit {0}
Ends (Err f) = FrontFault f

abbrev Reads : Result Label Fault → Type 0
Reads (Ok l) = Unit {0}
Reads (Err f) = FrontFault f

-- ---- one after another
ends_on : (v w : Verdict) → Ends v → Ends w → Ends (on_pass v w)
ends_on (Ok t) w p q = q
ends_on (Err f) w p q = p

reads_on : (v : Verdict) (r : Result Label Fault) → Ends v → Reads r → Reads (label_on_pass v r)
reads_on (Ok t) r p q = q
reads_on (Err f) r p q = p

plain : (n : ℕ) → 11 ≤ n → n ≤ 15 → FrontFault (fault n)
plain n h k = record { least = h; most = k; word = omega arith; half = refl }

ends-verdict : (r : Record) (block : List ℕ) → Ends (verdict r block)
unfolding verdict
ends-verdict r block =
    seal-cases checksum (checksum_place r) block Ends (λ _ _. tt) (plain 11 (omega arith) (omega arith))
    (plain 12 (omega arith) (omega arith))

-- ---- the label
reads_label : (block : List ℕ) (r : Result Label Fault) → label_of block ≡ r → Reads r
reads_label block (Ok l) e = tt
reads_label block (Err f) e =
    let p = label_faults block f e in
    record { least = omega (arith, p.least); most = p.most; word = omega (arith, p.word); half = p.half }

label_reads : (block : List ℕ) → Reads (label_block block)
unfolding label_block
label_reads block =
    reads_on (verdict label-record block) (label_of block) (ends-verdict label-record block) (reads_label block (label_of block) refl)

pub label-block_faults : (block : List ℕ) (f : Fault) → label_block block ≡ Err f → FrontFault f
label-block_faults block f e = rw e at (label_reads block)

-- ---- the blocks behind it
wrong_ends : (i : ℕ) → i ≤ 4 → FrontFault (wrong_record i)
wrong_ends i h = record { least = omega arith; most = omega arith; word = omega arith; half = refl }

module _ (blocks : List ℕ) where
  modification-ends : (i : ℕ) → i ≤ 4 → Ends (modification_at blocks i)
  unfolding modification_at
  modification-ends i h =
      both Ends (ltb (words_in_block * i) (length blocks))
      (ends_on (verdict Modification (block_at blocks i)) _ (ends-verdict Modification (block_at blocks i))
      (both Ends (of_record Modification (block_at blocks i)) tt (wrong_ends i h)))
      (wrong_ends i h)

  modifications_end : (m : ℕ) → m ≤ 3 → Ends (modifications_to blocks m)
  unfolding modifications_to
  modifications_end zero h = tt
  modifications_end (suc m) h =
      ends_on (modifications_to blocks m) (modification_at blocks (suc m)) (modifications_end m (omega arith))
      (modification-ends (suc m) (omega arith))

  over_ends : (i : ℕ) → i ≤ 4 → Ends (over_at blocks i)
  unfolding over_at
  over_ends i h =
      both Ends (ltb (words_in_block * i) (length blocks))
      (ends_on (verdict Program (block_at blocks i)) (Err (wrong_record i)) (ends-verdict Program (block_at blocks i))
      (wrong_ends i h))
      tt

  behind-ends : (m : ℕ) → m ≤ 3 → Ends (behind_label blocks m)
  unfolding behind_label
  behind-ends m h =
      ends_on (modifications_to blocks m) (over_at blocks (suc m)) (modifications_end m h) (over_ends (suc m) (omega arith))

  -- three modification blocks at most: 128 entries of two words and 128 of three
  few_due : (l : Label) → Carried l → blocks_due l ≤ 3
  few_due l c = omega (arith, c.io, c.core)

  with_reads : (r : Result Label Fault) → label_block (block_at blocks 0) ≡ r → Reads (with_blocks blocks r)
  with_reads (Ok l) e =
      reads_on (behind_label blocks (blocks_due l)) (Ok l)
      (behind-ends (blocks_due l) (few_due l (label-block-carried (block_at blocks 0) l e))) tt
  with_reads (Err f) e = label-block_faults (block_at blocks 0) f e

  front_reads : Reads (front_of blocks)
  unfolding front_of
  front_reads =
      both Reads (ltb (words_in_block * 0) (length blocks)) (with_reads (label_block (block_at blocks 0)) refl)
      (wrong_ends 0 (omega arith))

  pub front_faults : (f : Fault) → front_of blocks ≡ Err f → FrontFault f
  front_faults f e = rw e at front_reads
