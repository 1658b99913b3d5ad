-- What the readers of a front have seen of a block, put together: one law for each way in which they end.
use Prim.Native.Nat.{ℕ, zero, suc, ◌+◌, ◌-◌, ◌*◌, ◌≤◌, ◌<◌}
use mathlib.Core.Path.{◌≡◌, refl, sym, ◌∙◌}
use mathlib.Core.Bool.{true, false}
use mathlib.Core.List.{List}
use native.Mathlib.Omega.{arith}
use native.Mathlib.Numerals.{add-one}
use native.Mathlib.Nat.{zero-add}
use lib.ListN.{length, take, drop, length-drop}
use lib.Seq.{take_all}
use borrow.Author.Tests.{lt-ltb, le-ltb}
use Rattle.word.specs.Limits.{words_in_block}
use Rattle.word.specs.Lists.{range}
use Rattle.word.specs.declared.Fault.{Fault}
use Rattle.block.specs.Records.{of_record, checksum_place}
use Rattle.word.specs.Fault.{pass}
use Rattle.block.specs.Block.{verdict}
use Rattle.block.specs.declared.Record.{Record}
use Rattle.block.specs.declared.Record.TheVariants.{Modification, Program}
use Rattle.std.specs.Prelude.{Err}
use Rattle.block.proofs.OnePass.{passed_known, whole_long}
use Rattle.block.specs.Checksum.{checksum}
use Rattle.front.specs.Front.{block_at, wrong_record, modification_at, modifications_to, over_at}

-- a block that passes is of 256 words
pub passed_long : (r : Record) (block : List ℕ) → verdict r block ≡ pass → length block ≡ words_in_block
unfolding verdict
passed_long r block q = whole_long block (passed_known checksum (checksum_place r) block q).0

-- the last part of a slice is a block's, where it is no longer than one
pub last-part : (l : List ℕ) (a n : ℕ) → length l - a ≤ n → take (length l - a) (drop a l) ≡ range l a n
unfolding range
last-part l a n h =
    let e = length-drop a l in
    take_all (length l - a) (drop a l) (omega arith) ∙ sym (take_all n (drop a l) (omega arith))

module _ (blocks : List ℕ) (i : ℕ) where
  -- where no block is there
  pub missing : (f : Fault) → f ≡ wrong_record i → length blocks ≤ words_in_block * i → Err f ≡ modification_at blocks i
  unfolding modification_at
  missing f w h = rw (w, le-ltb (words_in_block * i) (length blocks) h)

  pub none_over : length blocks ≤ words_in_block * i → pass ≡ over_at blocks i
  unfolding over_at
  none_over h = rw (le-ltb (words_in_block * i) (length blocks) h)

  -- where one is
  module _ (h : words_in_block * i < length blocks) (b : List ℕ) (e : b ≡ block_at blocks i) where
    pub right_record : verdict Modification b ≡ pass → true ≡ of_record Modification b → pass ≡ modification_at blocks i
    unfolding modification_at
    right_record q r = rw (lt-ltb (words_in_block * i) (length blocks) h, ← e, q, ← r)

    pub other_record : (f : Fault) → f ≡ wrong_record i → verdict Modification b ≡ pass → false ≡ of_record Modification b
        → Err f ≡ modification_at blocks i
    unfolding modification_at
    other_record f w q r = rw (w, lt-ltb (words_in_block * i) (length blocks) h, ← e, q, ← r)

    pub refused-block : (f : Fault) → verdict Modification b ≡ Err f → Err f ≡ modification_at blocks i
    unfolding modification_at
    refused-block f q = rw (lt-ltb (words_in_block * i) (length blocks) h, ← e, q)

    pub over : (f : Fault) → f ≡ wrong_record i → verdict Program b ≡ pass → Err f ≡ over_at blocks i
    unfolding over_at
    over f w q = rw (w, lt-ltb (words_in_block * i) (length blocks) h, ← e, q)

    pub refused_over : (f : Fault) → verdict Program b ≡ Err f → Err f ≡ over_at blocks i
    unfolding over_at
    refused_over f q = rw (lt-ltb (words_in_block * i) (length blocks) h, ← e, q)

  -- the blocks up to i are right, and the next one is or is not
  pub one_more : modifications_to blocks i ≡ pass → modification_at blocks (i + 1) ≡ pass → modifications_to blocks (i + 1) ≡ pass
  unfolding modifications_to
  one_more p q = let r = rw add-one at q in rw (add-one, p, r)

  one_wrong : (f : Fault) → modifications_to blocks i ≡ pass → modification_at blocks (i + 1) ≡ Err f
      → modifications_to blocks (i + 1) ≡ Err f
  unfolding modifications_to
  one_wrong f p q = let r = rw add-one at q in rw (add-one, p, r)

module _ (blocks : List ℕ) where
  -- the first that is not is told, however many are due
  wrong_stays : (f : Fault) (i n : ℕ) → modifications_to blocks i ≡ Err f → modifications_to blocks (n + i) ≡ Err f
  unfolding modifications_to
  wrong_stays f i zero q = rw zero-add q
  wrong_stays f i (suc n) q = let e : suc n + i ≡ suc (n + i) = omega arith in rw (e, wrong_stays f i n q)

  pub first_wrong_lem : (i : ℕ) (f : Fault) (m : ℕ) → i < m → modifications_to blocks i ≡ pass
      → modification_at blocks (i + 1) ≡ Err f
      → Err f ≡ modifications_to blocks m
  first_wrong_lem i f m h p q =
      let e : m - (i + 1) + (i + 1) ≡ m = omega arith in
      sym (rw e at (wrong_stays f (i + 1) (m - (i + 1)) (one_wrong blocks i f p q)))

  -- all that are due are right
  pub all_right : (i m : ℕ) → i ≤ m → m ≤ i → modifications_to blocks i ≡ pass → pass ≡ modifications_to blocks m
  all_right i m h k q = let e : i ≡ m = omega arith in sym (rw e at q)

  pub none_yet : modifications_to blocks 0 ≡ pass
  unfolding modifications_to
  none_yet = refl
