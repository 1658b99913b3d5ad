-- Writing a line digit by digit, and a text line by line: what is written, and what is left of the text.
use Prim.Native.Nat.{ℕ, ◌+◌, ◌*◌, ◌≤◌, ◌<◌}
use mathlib.Core.Path.{◌≡◌, refl, sym, ap, ◌∙◌}
use mathlib.Core.List.{List, [], ◌∷◌, ◌++◌, append_assoc, append-nil}
use native.Mathlib.Omega.{arith}
use native.Mathlib.Numerals.{add-one}
use lib.ListN.{length, length-append, get_or, set, take, drop, drop_of_length-le, get_or-append}
use lib.Seq.{take_at, take-suc, take_all, take-length, drop-drop, drop-append-add, get_or_at, length-take-le}
use Rattle.word.specs.Lists.{splice}
use Rattle.word.proofs.Lists.{length-tab, get_d_tab, copied, copied_more, copied_all}
use Rattle.octal.specs.Lines.{newline}
use Rattle.octal.specs.Text.{octal_digit, octal_digits, line_of, text_of}

-- ---- the line of a word: twelve digits and a newline
pub length_digits : (w : ℕ) → length (octal_digits w) ≡ 12
unfolding octal_digits
length_digits w = length-tab (octal_digit w) 12

pub length-line : (w : ℕ) → length (line_of w) ≡ 13
unfolding line_of
length-line w = length-append (octal_digits w) (newline ∷ []) ∙ rw (length_digits w)

-- it is written to t from place a on, of which i bytes are written
module _ (t : List ℕ) (a w i : ℕ) (e : List ℕ) (fits : a + 13 ≤ length t) (q : e ≡ copied t a (line_of w) i) where
  -- a digit more
  pub line_more : (d : ℕ) → i < 12 → d ≡ octal_digit w i → set e (a + i) d ≡ copied t a (line_of w) (i + 1)
  unfolding line_of octal_digits
  line_more d h x =
      let n = length_digits w in
      copied_more t a (line_of w) i e d (omega arith) (omega (arith, length-line w))
      (x ∙ sym (get_or-append (octal_digits w) (newline ∷ []) 0 i (omega arith) ∙ get_d_tab (octal_digit w) 12 i 0 h))
      q

  -- all twelve are written: the newline
  pub line_end : i ≡ 12 → set e (a + 12) newline ≡ splice t a (line_of w)
  unfolding line_of
  line_end h =
      copied_all t a (line_of w) 13 _ (length-line w)
      (copied_more t a (line_of w) 12 e newline (omega arith) (omega (arith, length-line w))
      (sym (get_or_at (octal_digits w) newline [] 0 12 (length_digits w)))
      (rw h at q))

-- ---- the text of a block: 13 bytes a word
pub length_text : (ws : List ℕ) → length (text_of ws) ≡ length ws * 13
unfolding text_of
length_text [] = refl
length_text (w ∷ ws) =
    length-append (line_of w) (text_of ws) ∙ rw (length-line w, length_text ws) (omega arith)

pub text_append : (vs ws : List ℕ) → text_of (vs ++ ws) ≡ text_of vs ++ text_of ws
unfolding text_of
text_append [] ws = refl
text_append (v ∷ vs) ws = rw (text_append vs ws) (sym (append_assoc (line_of v) (text_of vs) (text_of ws)))

-- the lines before line i, and with it
pub length_before : (ws : List ℕ) (i : ℕ) → i ≤ length ws → length (text_of (take i ws)) ≡ i * 13
length_before ws i h = length_text (take i ws) ∙ rw (length-take-le i ws h)

before_more : (ws : List ℕ) (i : ℕ) → i < length ws → text_of (take (i + 1) ws) ≡ text_of (take i ws) ++ line_of (get_or ws i 0)
unfolding text_of
before_more ws i h =
    let e : take (i + 1) ws ≡ take i ws ++ (get_or ws i 0 ∷ []) = rw add-one (take-suc ws i 0 h) in
    ap text_of e
    ∙ text_append (take i ws) (get_or ws i 0 ∷ [])
    ∙ ap (λ (l : List ℕ). text_of (take i ws) ++ l) (append-nil (line_of (get_or ws i 0)))

-- the lines before line i are written over the start of t
module _ (ws t : List ℕ) where
  unfoldable pub written : ℕ → List ℕ
  written i = text_of (take i ws) ++ drop (i * 13) t

  pub written_none : t ≡ written 0
  unfolding written text_of
  written_none = refl

  -- what stands behind line i
  behind-line : (i : ℕ) → i < length ws → drop (i * 13 + length (line_of (get_or ws i 0))) (written i) ≡ drop ((i + 1) * 13) t
  unfolding written
  behind-line i h =
      let n = length_before ws i (omega arith) in
      let k : i * 13 + 13 ≡ (i + 1) * 13 = omega arith in
      rw (length-line (get_or ws i 0), ← k)
      (ap (λ (m : ℕ). drop (m + 13) (written i)) (sym n)
      ∙ drop-append-add (text_of (take i ws)) (drop (i * 13) t) 13
      ∙ drop-drop 13 (i * 13) t)

  -- a line more
  pub written_more : (i : ℕ) (e : List ℕ) → i < length ws → e ≡ written i
      → splice e (i * 13) (line_of (get_or ws i 0)) ≡ written (i + 1)
  unfolding written splice
  written_more i e h q =
      rw (
        q,
        behind-line i h,
        take_at (text_of (take i ws)) (drop (i * 13) t) (i * 13) (length_before ws i (omega arith)),
        take-length,
        before_more ws i h,
      )

  pub written_all : (i : ℕ) (e : List ℕ) → length ws ≡ i → length t ≡ i * 13 → e ≡ written i → e ≡ text_of ws
  unfolding written
  written_all i e h k q =
      q ∙ rw (take_all i ws (omega arith), drop_of_length-le t {i = i * 13} (omega arith)) (append-nil (text_of ws))
