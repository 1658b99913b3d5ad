-- The twelve holders are each counted once: F and what the eight rooms hold are twelve together; and F and H by what each room
-- holds. When refusals 5 and 6 are given.
use Prim.Native.Nat.{ℕ, zero, suc, ◌+◌, ◌≤◌, ◌<◌}
use mathlib.Core.Path.{◌≡◌, refl}
use mathlib.Core.List.{List, [], ◌∷◌, ◌++◌}
use native.Mathlib.Omega.{arith}
use lib.ListN.{length, get_or}
use lib.Dec.{eqb, leb}
use borrow.Author.Tests.{leb-true, le-leb, eqb-true}
use Rattle.word.specs.Limits.{room_count}
use Rattle.word.specs.Lists.{tab}
use Rattle.word.proofs.Cases.{by-eq, by-lt, both, when}
use Rattle.rooms.specs.Rooms.{most_held, hit, count, free, held, held_each, idle, Fair, lowest_free, place_refusal}
use Rattle.rooms.proofs.Count.{hit_yes, hit_no, count_some, lowest_is_free}
use Rattle.rooms.proofs.Rooms.{none_denied, given-place}
use Rattle.demands.specs.History.{Told}
use Rattle.demands.specs.Grants.{held_by, held_by_all, none_of, free_places, idle_rooms}

-- ---- what the first n rooms hold
unfoldable held_all : ℕ → List ℕ → ℕ
held_all zero l = 0
held_all (suc r) l = held_all r l + held r l

-- in how many of them a place with this holder is counted
unfoldable hits : ℕ → ℕ → ℕ
hits zero a = 0
hits (suc r) a = hits r a + hit a (r + 1)

held_none : (n : ℕ) → held_all n [] ≡ 0
unfolding held_all held count
held_none zero = refl
held_none (suc r) = omega (arith, held_none r)

held_more : (n a : ℕ) (l : List ℕ) → held_all n (a ∷ l) ≡ hits n a + held_all n l
unfolding held_all hits held count
held_more zero a l = refl
held_more (suc r) a l = omega (arith, held_more r a l)

-- each once: as free, or in the one room that holds it
over : (n a : ℕ) → n < a → hits n a ≡ 0
unfolding hits
over zero a h = refl
over (suc r) a h = omega (arith, over r a (omega arith), hit_no a (r + 1) (λ z. omega arith))

once : (n a : ℕ) → a ≤ n → hit a 0 + hits n a ≡ 1
unfolding hits
once zero a h = omega (arith, hit_yes a 0 (omega arith))
once (suc r) a h = by-eq a (r + 1)
    (λ z. omega (arith, hit_yes a (r + 1) z, over r a (omega arith), hit_no a 0 (λ y. omega arith)))
    (λ z. let k : a ≤ r = by-lt a (r + 1) (λ y. omega arith) (λ y. absurd (z (omega arith))) in
    omega (arith, hit_no a (r + 1) z, once r a k))

all-counted : (n : ℕ) (l : List ℕ) → ((p : ℕ) → p < length l → get_or l p 0 ≤ n) → free l + held_all n l ≡ length l
unfolding free count
all-counted n [] k = omega (arith, held_none n)
all-counted n (a ∷ l) k =
    omega (arith, held_more n a l, once n a (k 0 (omega arith)), all-counted n l (λ p h. k (suc p) (omega arith)))

count-append : (x : ℕ) (l m : List ℕ) → count x (l ++ m) ≡ count x l + count x m
unfolding count
count-append x [] m = omega arith
count-append x (a ∷ l) m = omega (arith, count-append x l m)

-- ---- F and H, where the grants and releases give each room what it holds
module _ (ts : List Told) (l : List ℕ) (agree : (r : ℕ) → held_by r ts ≡ held r l) where
  all_told : (n : ℕ) → held_by_all n ts ≡ held_all n l
  unfolding held_by_all held_all
  all_told zero = refl
  all_told (suc r) = rw (all_told r, agree r)

  none_told : (n : ℕ) → none_of n ts ≡ count 0 (tab (λ r. held r l) n)
  unfolding none_of tab count hit
  none_told zero = refl
  none_told (suc r) = rw (none_told r, agree r) (omega (arith, count-append 0 (tab (λ q. held q l) r) (held r l ∷ [])))

  pub free-told : Fair l → free_places ts ≡ free l
  unfolding free_places
  free-told f = omega (arith, f.twelve, all_told 8, all-counted 8 l (λ p h. f.known p (omega (arith, f.twelve))))

  pub idle-told : idle_rooms ts ≡ idle l
  unfolding idle_rooms idle held_each
  idle-told = none_told 8

-- ---- a room that holds none finds a place free
pub place-free : (l : List ℕ) (r : ℕ) → Fair l → r < room_count → held r l ≡ 0 → 0 < free l
unfolding free
place-free l r f h z =
    count_some 0 l (lowest_free l) (omega (arith, f.twelve, given-place l r f h (none_denied l r z))) (lowest_is_free l)

-- ---- when 5 is given, and when 6
module _ (r : ℕ) (l : List ℕ) where
  pub gives_five : held r l ≡ 2 → place_refusal r l ≡ 5
  unfolding place_refusal
  gives_five z = rw z

  pub gives_six : held r l ≡ 1 → free l ≤ idle l → place_refusal r l ≡ 6
  unfolding place_refusal
  gives_six z k = rw (z, le-leb (free l) (idle l) k)

  pub given_five : place_refusal r l ≡ 5 → 2 ≤ held r l
  unfolding place_refusal
  given_five =
      let P : ℕ → Type 0 = λ n. n ≡ 5 → 2 ≤ held r l in
      when P (leb most_held (held r l)) (λ a q. leb-true most_held (held r l) a)
      (λ a. both P (eqb (held r l) 1)
      (both P (leb (free l) (idle l)) (λ q. absurd (omega arith)) (λ q. absurd (omega arith)))
      (λ q. absurd (omega arith)))

  pub given_six : place_refusal r l ≡ 6 → (held r l ≡ 1) × (free l ≤ idle l)
  unfolding place_refusal
  given_six =
      let P : ℕ → Type 0 = λ n. n ≡ 6 → (held r l ≡ 1) × (free l ≤ idle l) in
      both P (leb most_held (held r l)) (λ q. absurd (omega arith))
      (when P (eqb (held r l) 1)
      (λ a. when P (leb (free l) (idle l))
      (λ b q. (eqb-true (held r l) 1 a, leb-true (free l) (idle l) b))
      (λ b q. absurd (omega arith)))
      (λ a q. absurd (omega arith)))
