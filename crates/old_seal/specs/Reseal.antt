-- Resealing (#104): "a small program reseals a file, block by block, once the old rule has passed". A block is known by its index
-- in the file, 0 for the label; its record and what else stands in it are not looked at.
use Rattle.std.specs.Prelude.{ℕ, ◌≡◌, cond, List, set, eqb, Ok, Err}
use Rattle.block.specs.Records.{checksum_place}
use Rattle.block.specs.Checksum.{checksum, others}
use Rattle.word.specs.Fault.{Verdict}
use Rattle.block.specs.Block.{seal_verdict}
use Rattle.block.specs.declared.Record.TheVariants.{Label, Program}
use Rattle.old_seal.specs.OldRule.{old_checksum}

-- where a block has its checksum: word 254 of the label, word 255 of any other
unfoldable pub seal_place : ℕ → ℕ
seal_place index = cond (eqb index 0) (checksum_place Label) (checksum_place Program)

-- 11 as in feed; 12 where the old rule does not hold of the block as it stands
unfoldable pub old_verdict : ℕ → List ℕ → Verdict
old_verdict index block = seal_verdict old_checksum (seal_place index) block

-- a block with the checksum word that the rule in force gives it, and no other word changed
unfoldable pub sealed_anew : ℕ → List ℕ → List ℕ
sealed_anew p block = set block p (checksum (others p block))

-- what is left of a block: refused, it is as it was
abbrev pub left_by : Verdict → ℕ → List ℕ → List ℕ
left_by (Ok done) p block = sealed_anew p block
left_by (Err f) p block = block

unfoldable pub resealed : ℕ → List ℕ → List ℕ
resealed index block = left_by (old_verdict index block) (seal_place index) block

-- a verdict, and a block afterwards, are those of resealing
pub record Reseals (index : ℕ) (block : List ℕ) (v : Verdict) (after : List ℕ) : Type 0 where
  pub told : v ≡ old_verdict index block
  pub block-left : after ≡ resealed index block
