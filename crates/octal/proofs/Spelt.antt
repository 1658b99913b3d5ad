-- Every word has its line, and every block its text: what is written is read back. And what is no line.
use Prim.Native.Nat.{ℕ, zero, suc, ◌+◌, ◌*◌, ◌-◌, ◌/◌, ◌^◌, ◌≤◌, ◌<◌}
use mathlib.Core.Path.{◌≡◌, refl, sym, ap, ◌∙◌}
use mathlib.Core.Bool.{true}
use mathlib.Core.List.{List, [], ◌∷◌, ◌++◌, append_assoc}
use native.Mathlib.Omega.{arith}
use lib.Pow.{shr-shr}
use lib.ListN.{length, replicate, get_or, take, drop}
use lib.Seq.{take_at, drop_at, split_at, get_or_at, get_or-append-add, ext_get_or}
use borrow.Author.Tests.{le-leb, ltb-true}
use Rattle.word.specs.Limits.{words_in_block}
use Rattle.word.specs.Word.{is_word}
use Rattle.word.specs.Lists.{every, tab, range}
use Rattle.word.proofs.Every.{every-place, every_by}
use Rattle.word.proofs.Lists.{length-tab, get_d_tab}
use Rattle.octal.specs.Lines.{is_octal, is_good, newline, octal, line_at, line, line_word, is_block, block_of}
use Rattle.octal.specs.Text.{octal_digit, octal_digits, line_of, text_of}
use Rattle.std.proofs.Common.{Some, None}
use Rattle.octal.proofs.Written.{length_digits, text_append, length_before}

-- ---- a word's digits are octal, and spell it
digits-octal : (w : ℕ) → every is_octal (octal_digits w) ≡ true
unfolding octal_digits
digits-octal w =
    let n = length-tab (octal_digit w) 12 in
    every_by 0 is_octal (octal_digits w)
    (λ i h. rw (
      get_d_tab (octal_digit w) 12 i 0 (omega arith),
      le-leb 48 (octal_digit w i) (omega arith),
      le-leb (octal_digit w i) 55 (omega arith),
    ))

octal_snoc : (v d : ℕ) (ds : List ℕ) → octal v (ds ++ (d ∷ [])) ≡ octal v ds * 8 + (d - 48)
unfolding octal
octal_snoc v d [] = refl
octal_snoc v d (x ∷ ds) = octal_snoc (v * 8 + (x - 48)) d ds

-- the first k digits spell what stands above the bits of the others
spell : (w k : ℕ) → w < 2 ^ 36 → k ≤ 12 → octal 0 (tab (octal_digit w) k) ≡ w / 2 ^ (36 - 3 * k)
unfolding octal tab
spell w zero h l = omega arith
spell w (suc k) h l =
    let e : 33 - 3 * k + 3 ≡ 36 - 3 * k = omega arith in
    let f : 36 - 3 * suc k ≡ 33 - 3 * k = omega arith in
    let u : w / 2 ^ (33 - 3 * k) / 2 ^ 3 ≡ w / 2 ^ (36 - 3 * k) = shr-shr w (33 - 3 * k) 3 ∙ ap (λ (m : ℕ). w / 2 ^ m) e in
    octal_snoc 0 (octal_digit w k) (tab (octal_digit w) k)
    ∙ rw (spell w k h (omega arith), f, ← u) (omega arith)

digits_spell : (w : ℕ) → w < 2 ^ 36 → octal 0 (octal_digits w) ≡ w
unfolding octal_digits
digits_spell w h = spell w 12 h (omega arith) ∙ omega arith

-- the line of a word, wherever it stands in a text, is read as that word
module _ (p q : List ℕ) (w : ℕ) where
  twelve : range (p ++ (line_of w ++ q)) (length p) 12 ≡ octal_digits w
  unfolding range line_of
  twelve =
      ap (take 12) (drop_at p (line_of w ++ q) (length p) refl)
      ∙ ap (take 12) (append_assoc (octal_digits w) (newline ∷ []) q)
      ∙ take_at (octal_digits w) (newline ∷ q) 12 (length_digits w)

  behind : get_or (p ++ (line_of w ++ q)) (length p + 12) 0 ≡ newline
  unfolding line_of
  behind =
      get_or-append-add p (line_of w ++ q) 12 0
      ∙ ap (λ (l : List ℕ). get_or l 12 0) (append_assoc (octal_digits w) (newline ∷ []) q)
      ∙ get_or_at (octal_digits w) newline q 0 12 (length_digits w)

  pub line-spelt : w < 2 ^ 36 → line_at (p ++ (line_of w ++ q)) (length p) ≡ Some w
  unfolding line_at
  line-spelt h = rw (twelve, behind, digits-octal w, digits_spell w h)

-- ---- a block of words of 36 bits is read back from its text
module _ (ws : List ℕ) (n : length ws ≡ words_in_block) (good : every is_word ws ≡ true) where
  -- line i, and the lines before it and behind it
  around : (i : ℕ) → i < 256 → text_of ws ≡ text_of (take i ws) ++ (line_of (get_or ws i 0) ++ text_of (drop (suc i) ws))
  unfolding text_of
  around i h = ap text_of (split_at ws i 0 (omega arith)) ∙ text_append (take i ws) (get_or ws i 0 ∷ drop (suc i) ws)

  line_back : (i : ℕ) → i < 256 → line (text_of ws) i ≡ Some (get_or ws i 0)
  line_back i h =
      ap (λ (t : List ℕ). line t i) (around i h)
      ∙ ap (line_at _) (sym (length_before ws i (omega arith)))
      ∙ line-spelt (text_of (take i ws)) (text_of (drop (suc i) ws)) (get_or ws i 0)
      (ltb-true _ _ (every-place 0 is_word ws i (omega arith) good))

  pub text_is_block : is_block (text_of ws) ≡ true
  unfolding is_block
  text_is_block =
      let m : length (tab (line (text_of ws)) 256) ≡ words_in_block = length-tab (line (text_of ws)) 256 in
      every_by None is_good (tab (line (text_of ws)) 256)
      (λ i h. rw (get_d_tab (line (text_of ws)) 256 i None (omega arith), line_back i (omega arith)))

  pub block_back : block_of (text_of ws) ≡ ws
  unfolding block_of
  block_back =
      let m : length (tab (line_word (text_of ws)) 256) ≡ words_in_block = length-tab (line_word (text_of ws)) 256 in
      ext_get_or 0 _ ws (m ∙ sym n)
      (λ i h. rw (get_d_tab (line_word (text_of ws)) 256 i 0 (omega arith), line_back i (omega arith)))

-- ---- no lines: with a digit 8, of eleven digits, of thirteen, with no newline
pub digit_eight : line_at (replicate 11 48 ++ (56 ∷ newline ∷ [])) 0 ≡ None
unfolding line_at every range
digit_eight = refl

pub eleven_digits : line_at (replicate 11 48 ++ (newline ∷ newline ∷ [])) 0 ≡ None
unfolding line_at every range
eleven_digits = refl

pub thirteen_digits : line_at (replicate 13 48 ++ (newline ∷ [])) 0 ≡ None
unfolding line_at every range
thirteen_digits = refl

pub no_newline : line_at (replicate 12 48) 0 ≡ None
unfolding line_at every range
no_newline = refl
