-- A front that is right has a label within the house's limits; and the laws of the label alone.
use Prim.Native.Nat.{ℕ, ◌*◌, ◌<◌}
use mathlib.Core.Path.{◌≡◌, refl, sym, ◌∙◌}
use mathlib.Core.List.{List}
use native.Mathlib.Omega.{arith}
use lib.ListN.{length}
use lib.Dec.{ltb}
use borrow.Author.Tests.{lt-ltb, le-ltb}
use Rattle.word.specs.Limits.{words_in_block}
use Rattle.word.specs.Fault.{fault, Verdict}
use Rattle.word.specs.declared.Fault.{Fault}
use Rattle.word.proofs.Cases.{when}
use Rattle.block.specs.Block.{verdict}
use Rattle.block.specs.declared.Record.TheVariants.{Label as label-record}
use Rattle.std.specs.Prelude.{Result, Ok, Err}
use Rattle.label.specs.Label.{label_of, Carried}
use Rattle.label.specs.declared.Label.{Label}
use Rattle.label.proofs.Carried.{label-carried}
use Rattle.front.specs.Front.{label_on_pass, label_block, block_at, behind_label, blocks_due, with_blocks, front_of}

-- what is read on a pass was read
on_pass_lem : (v : Verdict) (r : Result Label Fault) (l : Label) → label_on_pass v r ≡ Ok l → r ≡ Ok l
on_pass_lem (Ok t) r l q = q
on_pass_lem (Err f) r l q = let z : ◌≡◌ {A = ℕ} 0 1 = cc in absurd (omega arith)

-- a label as a block
module _ (block : List ℕ) where
  pub label-block-carried : (l : Label) → label_block block ≡ Ok l → Carried l
  unfolding label_block
  label-block-carried l q = label-carried block l (on_pass_lem (verdict label-record block) (label_of block) l q)

-- a front, of which some word is there
module _ (blocks : List ℕ) (h : words_in_block * 0 < length blocks) where
  pub front-label : (r : Result Label Fault) → label_block (block_at blocks 0) ≡ r → with_blocks blocks r ≡ front_of blocks
  unfolding front_of
  front-label r q = rw (lt-ltb (words_in_block * 0) (length blocks) h, q)

  pub front_good : (l : Label) (r : Result Label Fault) → label_block (block_at blocks 0) ≡ Ok l → r ≡ with_blocks blocks (Ok l)
      → r ≡ front_of blocks
  front_good l r q e = e ∙ front-label (Ok l) q

  pub front_bad : (f : Fault) → label_block (block_at blocks 0) ≡ Err f → Err f ≡ front_of blocks
  front_bad f q = front-label (Err f) q

-- no block at all
pub front-none : (blocks : List ℕ) → length blocks ≡ 0 → Err (fault 13) ≡ front_of blocks
unfolding front_of
front-none blocks h = rw (le-ltb (words_in_block * 0) (length blocks) (omega arith))

-- a front that is right
read-carried : (blocks : List ℕ) (r : Result Label Fault) (l : Label) → r ≡ label_block (block_at blocks 0) → with_blocks blocks r ≡ Ok l
    → Carried l
read-carried blocks (Ok k) l e q =
    let z : Ok k ≡ Ok l = on_pass_lem (behind_label blocks (blocks_due k)) (Ok k) l q in
    label-block-carried (block_at blocks 0) l (sym e ∙ z)
read-carried blocks (Err f) l e q = let z : ◌≡◌ {A = ℕ} 0 1 = cc in absurd (omega arith)

pub front-carried : (blocks : List ℕ) (l : Label) → front_of blocks ≡ Ok l → Carried l
unfolding front_of
front-carried blocks l = when (λ (r : Result Label Fault). r ≡ Ok l → Carried l) (ltb (words_in_block * 0) (length blocks))
    (λ _ q. read-carried blocks (label_block (block_at blocks 0)) l refl q)
    (λ _ q. let z : ◌≡◌ {A = ℕ} 0 1 = cc in absurd (omega arith))
