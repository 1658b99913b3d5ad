-- A text line by line: what was read and what is left decide whether it is a block; and what a block's words are.
use Prim.Native.Nat.{ℕ, ◌+◌, ◌*◌, ◌^◌, ◌≤◌, ◌<◌}
use mathlib.Core.Path.{◌≡◌, refl, sym, ◌∙◌}
use mathlib.Core.Bool.{Bool, true, ◌&&◌, false≢true}
use mathlib.Core.List.{List}
use native.Mathlib.Omega.{arith}
use native.Mathlib.Numerals.{add-one}
use lib.ListN.{length, get_or, drop, drop_of_length-le}
use lib.Seq.{drop-cons}
use borrow.Author.Tests.{lt-ltb}
use Rattle.word.specs.Limits.{words_in_block}
use Rattle.word.specs.Word.{is_word}
use Rattle.word.specs.Lists.{every, tab}
use Rattle.word.proofs.Cases.{and_assoc, and_true}
use Rattle.word.proofs.Every.{every-place, every_by}
use Rattle.word.proofs.Lists.{length-tab, get_d_tab}
use Rattle.octal.specs.Lines.{is_good, word_of, line, line_word, is_block, block_of}
use Rattle.std.proofs.Common.{Option, Some, None}
use Rattle.octal.proofs.Digits.{line_word_lem}

-- g: the lines before line i are good
unfoldable pub good_from : List ℕ → Bool → ℕ → Bool
good_from text g i = g && every is_good (drop i (tab (line text) 256))

pub good_all : (text : List ℕ) → is_block text ≡ good_from text true 0
unfolding is_block good_from
good_all text = refl

module _ (text : List ℕ) (g : Bool) (i : ℕ) (b : Bool) (q : b ≡ good_from text g i) where
  pub good_more : (f : Bool) → i < 256 → f ≡ is_good (line text i) → b ≡ good_from text (g && f) (i + 1)
  unfolding good_from every
  good_more f h e =
      let n : length (tab (line text) 256) ≡ words_in_block = length-tab (line text) 256 in
      q ∙ rw (drop-cons (tab (line text) 256) i None (omega arith), get_d_tab (line text) 256 i None h, add-one, e)
      (sym (and_assoc g (is_good (line text i)) _))

  pub good_end : 256 ≤ i → g ≡ b
  unfolding good_from every
  good_end h =
      let n : length (tab (line text) 256) ≡ words_in_block = length-tab (line text) 256 in
      sym (q ∙ rw (drop_of_length-le (tab (line text) 256) {i = i} (omega arith)) (and_true g))

-- a block has 256 words, each of 36 bits, so feed never refuses one with 11
pub length-block : (text : List ℕ) → length (block_of text) ≡ words_in_block
unfolding block_of
length-block text = length-tab (line_word text) 256

pub block_words : (text : List ℕ) → every is_word (block_of text) ≡ true
unfolding block_of
block_words text =
    let n = length-block text in
    every_by 0 is_word (block_of text)
    (λ i h. rw (get_d_tab (line_word text) 256 i 0 (omega arith)) (lt-ltb (line_word text i) (2 ^ 36) (line_word_lem text (i * 13))))

-- where all lines are good, word i of the block is what line i says
pub block-line : (text : List ℕ) (i : ℕ) → is_block text ≡ true → i < 256 → line text i ≡ Some (get_or (block_of text) i 0)
unfolding is_block block_of
block-line text i q h =
    let n : length (tab (line text) 256) ≡ words_in_block = length-tab (line text) 256 in
    rw (get_d_tab (line_word text) 256 i 0 h)
    (said (line text i) (rw (get_d_tab (line text) 256 i None h) at (every-place None is_good (tab (line text) 256) i (omega arith) q)))
  where
    said : (l : Option ℕ) → is_good l ≡ true → l ≡ Some (word_of l)
    said (Some w) g = refl
    said None g = absurd (false≢true g)
