-- Counting in a list, the lowest free place, and the loops that find both.
use Prim.Native.Nat.{ℕ, zero, suc, ◌+◌, ◌≤◌, ◌<◌}
use mathlib.Core.Path.{◌≡◌, refl, sym, ◌∙◌}
use mathlib.Core.List.{List, [], ◌∷◌}
use native.Mathlib.Omega.{arith}
use native.Mathlib.Numerals.{add-one}
use lib.ListN.{length, get_or, set, length-set, take}
use lib.Seq.{ext_get_or, get_or-set_same, get_or-set_other}
use borrow.Author.Tests.{eq-eqb, ne_eqb, lt-ltb, le-ltb}
use Rattle.std.proofs.Common.{ap, cond, not, eqb, count_by}
use Rattle.std.specs.List.{position, position_or_len}
use Rattle.std.specs.Option.{unwrap_or}
use Rattle.std.proofs.lemmas.List.Sums.{prefix_len-le-length}
use Rattle.std.proofs.lemmas.List.Recursion.{is_sum_by, is_position_or_len}
use Rattle.word.proofs.Cases.{by-eq, by-lt}
use Rattle.word.specs.Lists.{tab}
use Rattle.word.proofs.Lists.{length-tab, get_d_tab}
use Rattle.word.specs.Limits.{room_count}
use Rattle.rooms.specs.Rooms.{hit, count, held, held_each, lowest_free}

-- ---- one number
pub hit_yes : (a x : ℕ) → a ≡ x → hit a x ≡ 1
unfolding hit
hit_yes a x q = rw (eq-eqb a x q)

pub hit_no : (a x : ℕ) → (a ≡ x → ⊥) → hit a x ≡ 0
unfolding hit
hit_no a x q = rw (ne_eqb a x q)

pub hit_most : (a x : ℕ) → hit a x ≤ 1
hit_most a x = by-eq a x (λ q. omega (arith, hit_yes a x q)) (λ q. omega (arith, hit_no a x q))

-- ---- a list: one number put for another, and a number that stands somewhere
pub count_set : (x : ℕ) (l : List ℕ) (i y : ℕ) → i < length l → count x (set l i y) + hit (get_or l i 0) x ≡ count x l + hit y x
unfolding count
count_set x [] i y h = absurd (omega arith)
count_set x (a ∷ l) zero y h = omega arith
count_set x (a ∷ l) (suc i) y h = omega (arith, count_set x l i y (omega arith))

pub count_some : (x : ℕ) (l : List ℕ) (i : ℕ) → i < length l → get_or l i 0 ≡ x → 0 < count x l
unfolding count
count_some x [] i h q = absurd (omega arith)
count_some x (a ∷ l) zero h q = omega (arith, hit_yes a x q)
count_some x (a ∷ l) (suc i) h q = omega (arith, count_some x l i (omega arith) q)

-- and one that stands at two places, or at three
pub count_two : (x : ℕ) (l : List ℕ) (i j : ℕ) → i < j → j < length l → get_or l i 0 ≡ x → get_or l j 0 ≡ x → 2 ≤ count x l
unfolding count
count_two x [] i j o h p q = absurd (omega arith)
count_two x (a ∷ l) i zero o h p q = absurd (omega arith)
count_two x (a ∷ l) zero (suc j) o h p q = omega (arith, hit_yes a x p, count_some x l j (omega arith) q)
count_two x (a ∷ l) (suc i) (suc j) o h p q = omega (arith, count_two x l i j (omega arith) (omega arith) p q)

pub count_three : (x : ℕ) (l : List ℕ) (i j k : ℕ) → i < j → j < k → k < length l → get_or l i 0 ≡ x → get_or l j 0 ≡ x → get_or l k 0 ≡ x
    → 3 ≤ count x l
unfolding count
count_three x [] i j k o u h p q r = absurd (omega arith)
count_three x (a ∷ l) i j zero o u h p q r = absurd (omega arith)
count_three x (a ∷ l) i zero (suc k) o u h p q r = absurd (omega arith)
count_three x (a ∷ l) zero (suc j) (suc k) o u h p q r = omega
    (arith, hit_yes a x p, count_two x l j k (omega arith) (omega arith) q r)
count_three x (a ∷ l) (suc i) (suc j) (suc k) o u h p q r = omega
    (arith, count_three x l i j k (omega arith) (omega arith) (omega arith) p q r)

pub count-take : (x : ℕ) (l : List ℕ) (i : ℕ) → i < length l → count x (take (suc i) l) ≡ count x (take i l) + hit (get_or l i 0) x
unfolding count
count-take x [] i h = absurd (omega arith)
count-take x (a ∷ l) zero h = omega arith
count-take x (a ∷ l) (suc i) h = omega (arith, count-take x l i (omega arith))

pub count-take_most : (x : ℕ) (l : List ℕ) (i : ℕ) → count x (take i l) ≤ i
unfolding count
count-take_most x l zero = omega arith
count-take_most x [] (suc i) = omega arith
count-take_most x (a ∷ l) (suc i) = omega (arith, hit_most a x, count-take_most x l i)

pub count-take_below : (x : ℕ) (l : List ℕ) (i : ℕ) → count x (take i l) ≤ count x l
unfolding count
count-take_below x l zero = omega arith
count-take_below x [] (suc i) = omega arith
count-take_below x (a ∷ l) (suc i) = omega (arith, count-take_below x l i)

-- std's count is this one
pub count_is : (x : ℕ) (l : List ℕ) → count_by (λ a. eqb a x) l ≡ count x l
unfolding count hit
count_is x l = sym (is_sum_by (count x) (λ a. hit a x) refl (λ _ _. refl) l)

-- ---- counts of many numbers in one list
-- two lists of the same kind that differ at place r alone
pub tab-set : (f g : ℕ → ℕ) (n r : ℕ) → r < n → ((q : ℕ) → (q ≡ r → ⊥) → g q ≡ f q) → tab g n ≡ set (tab f n) r (g r)
tab-set f g n r h k =
    let e = length-tab g n in
    let d = length-tab f n in
    ext_get_or 0 (tab g n) (set (tab f n) r (g r)) (simp length-set (omega arith))
    (λ i j. get_d_tab g n i 0 (omega arith) ∙ by-eq i r
    (λ z. rw z (sym (get_or-set_same (tab f n) r (g r) 0 (omega arith))))
    (λ z. k i z ∙ sym (get_d_tab f n i 0 (omega arith)) ∙ sym (get_or-set_other (tab f n) r i (g r) 0 z)))

-- and two that differ nowhere
pub tab-same : (f g : ℕ → ℕ) (n : ℕ) → ((q : ℕ) → g q ≡ f q) → tab g n ≡ tab f n
unfolding tab
tab-same f g zero k = refl
tab-same f g (suc n) k = rw (tab-same f g n k, k n)

-- how many places each room holds
pub each-length : (l : List ℕ) → length (held_each l) ≡ room_count
unfolding held_each
each-length l = length-tab (λ r. held r l) room_count

pub each_at : (l : List ℕ) (r : ℕ) → r < room_count → get_or (held_each l) r 0 ≡ held r l
unfolding held_each
each_at l r h = get_d_tab (λ q. held q l) room_count r 0 h

-- ---- the lowest free place
pub lowest-inside : (l : List ℕ) → 0 < count 0 l → lowest_free l < length l
unfolding count lowest_free
lowest-inside [] h = absurd (omega arith)
lowest-inside (a ∷ l) h = by-eq a 0
    (λ q. rw (eq-eqb a 0 q) (omega arith))
    (λ q. rw (ne_eqb a 0 q) (omega (arith, lowest-inside l (omega (arith, hit_no a 0 q)))))

pub lowest_is_free : (l : List ℕ) → get_or l (lowest_free l) 0 ≡ 0
unfolding lowest_free
lowest_is_free [] = refl
lowest_is_free (a ∷ l) = by-eq a 0
    (λ q. rw (eq-eqb a 0 q) q)
    (λ q. rw (ne_eqb a 0 q, add-one) (lowest_is_free l))

pub below_lowest : (l : List ℕ) (p : ℕ) → p < lowest_free l → get_or l p 0 ≡ 0 → ⊥
unfolding lowest_free
below_lowest [] p h z = omega arith
below_lowest (a ∷ l) zero h z = let g = rw (eq-eqb a 0 z) at h in omega arith
below_lowest (a ∷ l) (suc p) h z = by-eq a 0
    (λ q. let g = rw (eq-eqb a 0 q) at h in omega arith)
    (λ q. let g = rw (ne_eqb a 0 q) at h in below_lowest l p (omega arith) z)

-- it is the first place at which a zero stands, by std's search
lowest_place : (l : List ℕ) → position_or_len (λ a. eqb a 0) l ≡ lowest_free l
unfolding lowest_free
lowest_place l = sym (is_position_or_len lowest_free (λ a. eqb a 0) refl (λ a m. ap (λ n. cond (eqb a 0) 0 n) (omega arith)) l)

pub lowest_is : (l : List ℕ) → unwrap_or (position (λ a. eqb a 0) l) (length l) ≡ lowest_free l
lowest_is l = by-lt (position_or_len (λ a. eqb a 0) l) (length l)
    (λ h. rw (lt-ltb _ _ h) (lowest_place l))
    (λ h. rw (le-ltb _ _ h) (omega (arith, lowest_place l, prefix_len-le-length (λ a. not (eqb a 0)) l)))
