-- Reading a name a character at a time goes wrong where its first wrong character stands, and nowhere else.
use Prim.Native.Nat.{ℕ, zero, suc, ◌-◌, ◌*◌, ◌/◌, ◌≤◌, ◌<◌}
use native.Mathlib.Omega.{arith}
use mathlib.Core.Path.{◌≡◌, refl, sym, ap, ◌∙◌}
use mathlib.Core.Bool.{Bool, true, false, cond, not, false≢true, ◌&&◌, ◌||◌}
use mathlib.Core.List.{List, [], ◌∷◌, ◌++◌}
use lib.ListN.{length, length-append, get_or, take, drop, take-append-drop, get_or-append}
use lib.Seq.{take-suc, take_all, take-append-le, drop-cons}
use lib.Dec.{eqb, leb}
use borrow.Author.Tests.{leb-true, eqb-false, eq-eqb, ne_eqb}
use Rattle.word.specs.Word.{part}
use Rattle.word.specs.Fault.{fault, further, Verdict, pass}
use Rattle.word.specs.Lists.{every}
use Rattle.word.specs.declared.Fault.{Fault}
use Rattle.word.proofs.Cases.{by-test, by-lt, both, when, and_left}
use Rattle.word.proofs.First.{AllBelow, first-at, first_most, first-before, first_fails}
use Rattle.block.specs.Fieldata.{hyphen, characters, is_letter, letter, digit}
use Rattle.label.specs.Name.{letter_or_digit, is_space, no_space, may_stand, first_wrong, is_name, name_fault, name_read}
use Rattle.label.specs.HowSpelling.{next_spelling, spelled, is_wrong}
use Rattle.std.specs.Prelude.{Err}
use Rattle.label.specs.declared.Spelling.{Spelling}
use Rattle.label.specs.declared.Spelling.TheVariants.{First, Inside, Spaces, Wrong}
use Rattle.label.proofs.Fronts.{every_front}

-- ---- one character
-- how far the first j characters have come, where each may stand
unfoldable reached : List ℕ → ℕ → Spelling
reached cs zero = First
reached cs (suc j) = cond (every no_space (take (suc j) cs)) Inside Spaces

-- a letter or digit is no space
no_space_lem : (c : ℕ) → letter_or_digit c ≡ true → no_space c ≡ true
unfolding letter_or_digit
no_space_lem c q = by-test (is_letter c)
    (λ l. let h = leb-true (letter 1) c (and_left (leb (letter 1) c) (leb c (letter 26)) l) in rw (ne_eqb c 5 (λ e. omega arith)))
    (λ n. let d = rw n at q in
    let h = leb-true (digit 0) c (and_left (leb (digit 0) c) (leb c (digit 9)) d) in rw (ne_eqb c 5 (λ e. omega arith)))

-- a first character, and a later one, by what is tested of it: s that it is a space, l a letter or digit, h a hyphen; b that no
-- space stands before it
first_next : (l n : Bool) → (l ≡ true → n ≡ true) → cond l Inside Wrong ≡ cond l (cond n Inside Spaces) Wrong
first_next true n k = rw (k refl)
first_next false n k = refl

inside_next : (s l h : Bool)
    → cond s Spaces (cond l Inside (cond h Inside Wrong)) ≡ cond (s || (l || h)) (cond (not s) Inside Spaces) Wrong
inside_next true l h = refl
inside_next false true h = refl
inside_next false false true = refl
inside_next false false false = refl

spaces_next : (s : Bool) → cond s Spaces Wrong ≡ cond (s || false) Spaces Wrong
spaces_next true = refl
spaces_next false = refl

later_next : (b : Bool) (c : ℕ) → next_spelling (cond b Inside Spaces) c
    ≡ cond (is_space c || (b && (letter_or_digit c || eqb c hyphen))) (cond (b && no_space c) Inside Spaces) Wrong
unfolding next_spelling
later_next true c = inside_next (is_space c) (letter_or_digit c) (eqb c hyphen)
later_next false c = spaces_next (is_space c)

next_at_lem : (cs : List ℕ) (j : ℕ) → j < length cs
    → next_spelling (reached cs j) (get_or cs j 0) ≡ cond (may_stand cs j) (reached cs (suc j)) Wrong
unfolding next_spelling may_stand reached every
next_at_lem cs zero h =
    rw (every_front no_space 0 cs 0 h) (first_next (letter_or_digit (get_or cs 0 0)) (no_space (get_or cs 0 0)) (no_space_lem (get_or cs 0 0)))
next_at_lem cs (suc j) h = rw (every_front no_space 0 cs (suc j) h) (later_next (every no_space (take (suc j) cs)) (get_or cs (suc j) 0))

-- ---- some characters
pub spelled-append : (s : Spelling) (cs ds : List ℕ) → spelled s (cs ++ ds) ≡ spelled (spelled s cs) ds
unfolding spelled
spelled-append s [] ds = refl
spelled-append s (c ∷ cs) ds = spelled-append (next_spelling s c) cs ds

stays_wrong : (cs : List ℕ) → spelled Wrong cs ≡ Wrong
unfolding spelled next_spelling
stays_wrong [] = refl
stays_wrong (c ∷ cs) = stays_wrong cs

-- the loop over the characters of a word, of which n are left
pub spelled_more : (s : Spelling) (w n : ℕ) (t r : Spelling) → 0 < n → t ≡ next_spelling s (part (6 * (n - 1)) 6 w)
    → r ≡ spelled s (characters n w)
    → r ≡ spelled t (characters (n - 1) w)
unfolding spelled characters
spelled_more s w zero t r h e q = absurd (omega arith)
spelled_more s w (suc n) t r h e q = let k : suc n - 1 ≡ n = omega arith in q ∙ rw (e, k)

pub spelled_end : (s : Spelling) (w n : ℕ) (r : Spelling) → n ≡ 0 → r ≡ spelled s (characters n w) → s ≡ r
unfolding spelled characters
spelled_end s w n r e q = sym (q ∙ rw e)

-- ---- up to the first wrong character
spelled-front : (cs : List ℕ) (j : ℕ) → j ≤ length cs → AllBelow (may_stand cs) j → spelled First (take j cs) ≡ reached cs j
unfolding spelled reached
spelled-front cs zero h a = refl
spelled-front cs (suc j) h a =
    ap (spelled First) (take-suc cs j 0 h)
    ∙ spelled-append First (take j cs) (get_or cs j 0 ∷ [])
    ∙ ap (λ (s : Spelling). next_spelling s (get_or cs j 0)) (spelled-front cs j (omega arith) (λ i l. a i (omega arith)))
    ∙ next_at_lem cs j h
    ∙ rw (a j (omega arith))

reached_right : (cs : List ℕ) (j : ℕ) → is_wrong (reached cs j) ≡ false
unfolding reached
reached_right cs zero = refl
reached_right cs (suc j) = both (λ (s : Spelling). is_wrong s ≡ false) (every no_space (take (suc j) cs)) refl refl

module _ (cs : List ℕ) where
  pub spelled_right : AllBelow (may_stand cs) (length cs) → is_wrong (spelled First cs) ≡ false
  spelled_right a =
      ap (λ (ds : List ℕ). is_wrong (spelled First ds)) (sym (take_all (length cs) cs (omega arith)))
      ∙ ap is_wrong (spelled-front cs (length cs) (omega arith) a)
      ∙ reached_right cs (length cs)

  pub spelled_wrong : (k : ℕ) → k < length cs → AllBelow (may_stand cs) k → may_stand cs k ≡ false → is_wrong (spelled First cs) ≡ true
  unfolding spelled
  spelled_wrong k h a q =
      ap is_wrong
      (ap (spelled First) (sym (take-append-drop k cs))
      ∙ spelled-append First (take k cs) (drop k cs)
      ∙ ap (λ (ds : List ℕ). spelled (spelled First (take k cs)) ds) (drop-cons cs k 0 h)
      ∙ ap (λ (s : Spelling). spelled (next_spelling s (get_or cs k 0)) (drop (suc k) cs)) (spelled-front cs k (omega arith) a)
      ∙ ap (λ (s : Spelling). spelled s (drop (suc k) cs)) (next_at_lem cs k h ∙ rw q)
      ∙ stays_wrong (drop (suc k) cs))

  before_wrong : AllBelow (may_stand cs) (first_wrong cs)
  unfolding first_wrong
  before_wrong = first-before (may_stand cs) (length cs)

  wrong_most : first_wrong cs ≤ length cs
  unfolding first_wrong
  wrong_most = first_most (may_stand cs) (length cs)

  wrong_fails : first_wrong cs < length cs → may_stand cs (first_wrong cs) ≡ false
  unfolding first_wrong
  wrong_fails h = first_fails (may_stand cs) (length cs) h

  -- told by the spelling
  some_wrong : is_wrong (spelled First cs) ≡ true → first_wrong cs < length cs
  some_wrong q = by-lt (first_wrong cs) (length cs) (λ h. h)
      (λ g. let e : first_wrong cs ≡ length cs = omega (arith, wrong_most) in
      absurd (false≢true (sym (spelled_right (rw e at before_wrong)) ∙ q)))

  none_wrong : is_wrong (spelled First cs) ≡ false → first_wrong cs ≡ length cs
  none_wrong q = by-lt (first_wrong cs) (length cs)
      (λ h. absurd (false≢true (sym q ∙ spelled_wrong (first_wrong cs) h before_wrong (wrong_fails h))))
      (λ g. omega (arith, wrong_most))

-- ---- two words of a name, one read after the other
module _ (a b : List ℕ) (six : length a ≡ 6) (more : length b ≡ 6) where
  twelve : length (a ++ b) ≡ 12
  twelve = omega (arith, length-append a b)

  alike : (j : ℕ) → j < 6 → may_stand (a ++ b) j ≡ may_stand a j
  unfolding may_stand
  alike zero h = rw (get_or-append a b 0 0 (omega arith))
  alike (suc j) h = rw (get_or-append a b 0 (suc j) (omega arith), take-append-le (suc j) a b (omega arith))

  -- the first wrong character is one of the first word, one of the second, or none is
  in_first : is_wrong (spelled First a) ≡ true → first_wrong (a ++ b) < 6
  unfolding first_wrong
  in_first q =
      let h = some_wrong a q in
      let e = first-at (may_stand (a ++ b)) (length (a ++ b)) (first_wrong a) (omega (arith, twelve))
      (λ i l. alike i (omega arith) ∙ before_wrong a i l)
      (alike (first_wrong a) (omega arith) ∙ wrong_fails a h) in
      omega arith

  not_in_first : is_wrong (spelled First a) ≡ false → 6 ≤ first_wrong (a ++ b)
  not_in_first q = by-lt (first_wrong (a ++ b)) 6
      (λ h.
      let e = none_wrong a q in
      let f = wrong_fails (a ++ b) (omega (arith, twelve)) in
      let t = before_wrong a (first_wrong (a ++ b)) (omega arith) in
      absurd (false≢true (sym f ∙ alike (first_wrong (a ++ b)) h ∙ t)))
      (λ g. g)

  pub name_first : (s : Spelling) → s ≡ spelled First a → is_wrong s ≡ true → Err (fault 15) ≡ name_read (a ++ b)
  unfolding name_read is_name
  name_first s p h =
      let k = in_first (ap is_wrong (sym p) ∙ h) in
      let e : first_wrong (a ++ b) / 6 ≡ 0 = omega arith in
      rw (ne_eqb (first_wrong (a ++ b)) (length (a ++ b)) (λ z. omega (arith, twelve)), e)

  module _ (s t : Spelling) (p : s ≡ spelled First a) (q : t ≡ spelled s b) where
    spelled_both : t ≡ spelled First (a ++ b)
    spelled_both = q ∙ ap (λ (r : Spelling). spelled r b) p ∙ sym (spelled-append First a b)

    pub name_second : is_wrong s ≡ false → is_wrong t ≡ true → Err (further 1 (fault 15)) ≡ name_read (a ++ b)
    unfolding name_read is_name
    name_second h g =
        let k = not_in_first (ap is_wrong (sym p) ∙ h) in
        let l = some_wrong (a ++ b) (ap is_wrong (sym spelled_both) ∙ g) in
        let e : first_wrong (a ++ b) / 6 ≡ 1 = omega (arith, twelve) in
        rw (ne_eqb (first_wrong (a ++ b)) (length (a ++ b)) (λ z. omega arith), e)

    pub name_right : is_wrong t ≡ false → pass ≡ name_read (a ++ b)
    unfolding name_read is_name
    name_right g = rw (eq-eqb _ _ (none_wrong (a ++ b) (ap is_wrong (sym spelled_both) ∙ g)))

pub six : (w : ℕ) → length (characters 6 w) ≡ 6
unfolding characters
six w = refl

-- so where they are no name, the first wrong character is one of word 0 or of word 1
pub name_place : (u v : ℕ) → is_name (characters 6 u ++ characters 6 v) ≡ false
    → first_wrong (characters 6 u ++ characters 6 v) / 6 ≤ 1
unfolding is_name
name_place u v q =
    let cs = characters 6 u ++ characters 6 v in
    let n = twelve (characters 6 u) (characters 6 v) (six u) (six v) in
    let h = eqb-false (first_wrong cs) (length cs) q in
    omega (arith, wrong_most cs)

-- ---- what it is answered with
module _ (cs : List ℕ) where
  pub name_good : name_read cs ≡ pass → is_name cs ≡ true
  unfolding name_read
  name_good =
      when (λ (y : Verdict). y ≡ pass → is_name cs ≡ true) (is_name cs) (λ s q. s)
      (λ s q. let z : ◌≡◌ {A = ℕ} 0 1 = cc in absurd (omega arith))

  pub name_bad : (f : Fault) → name_read cs ≡ Err f → (is_name cs ≡ false) × (f ≡ name_fault cs)
  unfolding name_read
  name_bad f =
      when (λ (y : Verdict). y ≡ Err f → (is_name cs ≡ false) × (f ≡ name_fault cs)) (is_name cs)
      (λ s q. let z : ◌≡◌ {A = ℕ} 0 1 = cc in absurd (omega arith))
      (λ s q. (s, cc))
