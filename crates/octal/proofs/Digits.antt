-- Reading a line digit by digit: what is left of it decides, and k digits spell a number below 8^k.
use Prim.Native.Nat.{ℕ, suc, ◌+◌, ◌-◌, ◌*◌, ◌^◌, ◌≤◌, ◌<◌}
use mathlib.Core.Path.{◌≡◌, refl, sym, ◌∙◌}
use mathlib.Core.Bool.{Bool, true, false, cond, ◌&&◌}
use mathlib.Core.List.{List, [], ◌∷◌}
use native.Mathlib.Omega.{arith}
use native.Mathlib.Nat.{pow-le-pow_right}
use native.Mathlib.Numerals.{add-one}
use lib.Pow.{pow-add}
use lib.ListN.{length, get_or, take, drop, drop_of_length-le}
use lib.Seq.{drop-cons}
use lib.Dec.{eqb, leb}
use borrow.Author.Tests.{le-leb, lt-leb, leb-true}
use Rattle.word.specs.Lists.{every, range}
use Rattle.word.proofs.Cases.{and_left, and_right, when, by-lt}
use Rattle.word.proofs.Lists.{length-range, range-lent, length-range_most}
use Rattle.octal.specs.Lines.{is_octal, newline, octal, line_at, word_of}
use Rattle.std.proofs.Common.{Option, Some, None}
use Rattle.std.specs.Bool.{then_some}

-- the line at place a, of which the first k digits spelt w
unfoldable pub rest : List ℕ → ℕ → ℕ → ℕ → Option ℕ
rest text a k w =
    cond (every is_octal (drop k (range text a 12)) && eqb (get_or text (a + 12) 0) newline)
    (Some (octal w (drop k (range text a 12))))
    None

pub rest_all : (text : List ℕ) (a : ℕ) → line_at text a ≡ rest text a 0 0
unfolding rest line_at
rest_all text a = refl

then_some-cond : (b : Bool) (w : ℕ) → then_some b w ≡ cond b (Some w) None
then_some-cond true w = refl
then_some-cond false w = refl

module _ (text : List ℕ) (a k w : ℕ) (r : Option ℕ) (fits : a + 13 ≤ length text) (q : r ≡ rest text a k w) where
  -- a digit d more, of the part that the code reads
  module _ (d : ℕ) (e : d ≡ get_or (take (a + 12 - a) (drop a text)) k 0) (h : k < 12) where
    turn : drop k (range text a 12) ≡ d ∷ drop (k + 1) (range text a 12)
    turn =
        let n = length-range text a 12 (omega arith) in
        rw (e, range-lent text a 12, add-one k) (drop-cons (range text a 12) k 0 (omega arith))

    pub rest_more : (v : ℕ) → v ≡ d - 48 → 48 ≤ d → d ≤ 55 → r ≡ rest text a (k + 1) (w * 8 + v)
    unfolding rest every octal
    rest_more v f l m = q ∙ rw (turn, le-leb 48 d l, le-leb d 55 m, f)

    -- no digit
    pub rest_bad : (48 ≤ d → d ≤ 55 → ⊥) → None ≡ r
    unfolding rest every octal
    rest_bad g =
        by-lt d 48
        (λ l. rw (q, turn, lt-leb 48 d l))
        (λ l. rw (q, turn, le-leb 48 d l, lt-leb d 55 (omega arith)))

  -- all twelve were digits
  pub rest_end : 12 ≤ k → then_some (eqb (get_or text (a + 12) 0) newline) w ≡ r
  unfolding rest every octal
  rest_end h =
      let n = length-range text a 12 (omega arith) in
      then_some-cond _ w ∙ sym (q ∙ rw (drop_of_length-le (range text a 12) {i = k} (omega arith)))

-- k digits, and one more
pub below_more : (k w d : ℕ) → w < 8 ^ k → d < 8 → w * 8 + d < 8 ^ (k + 1)
below_more k w d h l = rw (pow-add 8 k 1) (omega arith)

pub below_most : (j k w : ℕ) → k ≤ j → w < 8 ^ k → w < 8 ^ j
below_most j k w h l = omega (arith, pow-le-pow_right {n = 8} (omega arith) {i = k} {j = j} h)

-- what digits spell
pub octal_below : (k w : ℕ) (ds : List ℕ) → every is_octal ds ≡ true → w < 8 ^ k → octal w ds < 8 ^ (k + length ds)
unfolding octal every
octal_below k w [] q h = let e : k + 0 ≡ k = omega arith in rw e h
octal_below k w (d ∷ ds) q h =
    let e : k + suc (length ds) ≡ k + 1 + length ds = omega arith in
    let o = and_left (is_octal d) (every is_octal ds) q in
    rw e
    (octal_below (k + 1) (w * 8 + (d - 48)) ds (and_right (is_octal d) (every is_octal ds) q)
    (below_more k w (d - 48) h (omega (arith, leb-true d 55 (and_right (leb 48 d) (leb d 55) o)))))

-- "A core word is 36 bits": twelve octal digits spell no more
pub line_word_lem : (text : List ℕ) (a : ℕ) → word_of (line_at text a) < 2 ^ 36
unfolding line_at
line_word_lem text a =
    when (λ (l : Option ℕ). word_of l < 2 ^ 36) (every is_octal (range text a 12) && eqb (get_or text (a + 12) 0) newline)
    (λ q. below_most 12 (0 + length (range text a 12)) _ (omega (arith, length-range_most text a 12))
    (octal_below 0 0 (range text a 12) (and_left (every is_octal (range text a 12)) _ q) (omega arith)))
    (λ q. omega arith)
