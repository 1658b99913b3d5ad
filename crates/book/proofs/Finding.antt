-- The first place of a tag: what is known of it, and what finding it tells.
use Prim.Native.Nat.{ℕ, suc, ◌+◌, ◌≤◌, ◌<◌}
use mathlib.Core.Path.{◌≡◌, refl, sym, ◌∙◌}
use mathlib.Core.Bool.{true, false, not, false≢true}
use mathlib.Core.List.{List, [], ◌∷◌}
use native.Mathlib.Omega.{arith}
use lib.ListN.{length, get_or}
use lib.Dec.{eqb, ltb}
use borrow.Author.Tests.{lt-ltb, eqb-true, eq-eqb, not-true, not-false}
use Rattle.std.specs.Prelude.{Some, None, position}
use Rattle.std.specs.List.{list_any, position_or_len}
use Rattle.word.specs.Lists.{first_not}
use Rattle.word.proofs.Cases.{by-test, ltb_iff}
use Rattle.word.proofs.First.{first_most, first-before, first_fails}
use Rattle.book.specs.Assign.{place_of}

-- the library's words for it
place_len : (w : ℕ) (ws : List ℕ) → position_or_len (λ x. eqb x w) ws ≡ place_of w ws
unfolding place_of first_not
place_len w [] = refl
place_len w (x ∷ ws) = let e : 1 + place_of w ws ≡ suc (place_of w ws) = omega arith in rw (place_len w ws, e)

pub any_place : (w : ℕ) (ws : List ℕ) → list_any (λ x. eqb x w) ws ≡ ltb (place_of w ws) (length ws)
unfolding place_of first_not
any_place w [] = refl
any_place w (x ∷ ws) = by-test (eqb x w)
    (λ q. rw q (sym (lt-ltb 0 (suc (length ws)) (omega arith))))
    (λ q. rw q (any_place w ws
    ∙ ltb_iff (place_of w ws) (length ws) (suc (place_of w ws)) (suc (length ws)) (λ h. omega arith, λ h. omega arith)))

module _ (w : ℕ) (ws : List ℕ) where
  -- ---- what is known of the place
  pub place_most : place_of w ws ≤ length ws
  unfolding place_of
  place_most = first_most (λ i. not (eqb (get_or ws i 0) w)) (length ws)

  pub place_has : place_of w ws < length ws → get_or ws (place_of w ws) 0 ≡ w
  unfolding place_of
  place_has h =
      eqb-true (get_or ws (place_of w ws) 0) w
      (not-false (eqb (get_or ws (place_of w ws) 0) w) (first_fails (λ i. not (eqb (get_or ws i 0) w)) (length ws) h))

  pub place-first : (i : ℕ) → i < place_of w ws → get_or ws i 0 ≡ w → ⊥
  unfolding place_of
  place-first i h e =
      let q = first-before (λ j. not (eqb (get_or ws j 0) w)) (length ws) i h in
      false≢true (sym (not-true (eqb (get_or ws i 0) w) q) ∙ eq-eqb (get_or ws i 0) w e)

  -- ---- where it was looked for
  pub found : (j : ℕ) → position (λ x. eqb x w) ws ≡ Some j → (j ≡ place_of w ws) × (ltb (place_of w ws) (length ws) ≡ true)
  found j e = by-test (ltb (place_of w ws) (length ws))
      (λ q. let z = rw (place_len w ws, q) at e in (sym (cc), q))
      (λ q. absurd (cc (rw (place_len w ws, q) at e)))

  pub found_none : position (λ x. eqb x w) ws ≡ None → ltb (place_of w ws) (length ws) ≡ false
  found_none e = by-test (ltb (place_of w ws) (length ws))
      (λ q. absurd (cc (rw (place_len w ws, q) at e)))
      (λ q. q)
