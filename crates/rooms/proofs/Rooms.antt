-- The holders stay fair whatever place is given or freed, and a room that holds none is never denied a place.
use Prim.Native.Nat.{ℕ, ◌+◌, ◌-◌, ◌≤◌, ◌<◌}
use mathlib.Core.Path.{◌≡◌, refl, ◌∙◌}
use mathlib.Core.List.{List}
use native.Mathlib.Omega.{arith}
use lib.ListN.{length, get_or, set, length-set, get_or-eq_default}
use lib.Seq.{get_or-set_same, get_or-set_other, set-get_or}
use lib.Dec.{leb, eqb}
use borrow.Author.Tests.{leb-false, eqb-false}
use Rattle.word.specs.Lists.{every, tab}
use Rattle.word.specs.Runs.{Says}
use Rattle.word.proofs.Cases.{by-test, by-eq, by-lt}
use Rattle.word.proofs.Says.{says_le, says_and, says_as, says_every}
use Rattle.word.specs.Limits.{room_count, place_count}
use Rattle.rooms.specs.Rooms.{most_held, hit, count, free, held, held_each, idle, at_most, fair, Fair, all_free, lowest_free}
use Rattle.rooms.specs.Rooms.{place_refusal}
use Rattle.rooms.proofs.Count.{hit_yes, hit_no, hit_most, count_set, count_some, count_three, tab-set, each-length, each_at}
use Rattle.rooms.proofs.Count.{lowest-inside, lowest_is_free}

-- ---- the test and the facts
at_most_says : (m n : ℕ) → Says (at_most m n) (n ≤ m)
unfolding at_most
at_most_says m n = says_le n m

pub fair_parts : (l : List ℕ)
    → Says (fair l) (((p : ℕ) → p < length l → get_or l p 0 ≤ room_count)
    × (((r : ℕ) → r < room_count → held r l ≤ most_held) × (idle l ≤ free l)))
unfolding fair
fair_parts l =
    let n = each-length l in
    says_as
    (says_and (says_every (at_most room_count) l (at_most_says room_count))
    (says_and (says_every (at_most most_held) (held_each l) (at_most_says most_held)) (says_le (idle l) (free l))))
    (λ h. (h.0, (λ r k. rw (each_at l r k) at (h.1.0 r (omega arith)), h.1.1)))
    (λ f. (f.0, (λ r k. rw (each_at l r (omega arith)) (f.1.0 r (omega arith)), f.1.1)))

pub fair_says : (l : List ℕ) → length l ≡ place_count → Says (fair l) (Fair l)
fair_says l e =
    says_as (fair_parts l)
    (λ h. record { twelve = e; known = λ p k. h.0 p (omega arith); two = h.1.0; enough = h.1.1 })
    (λ f. (λ p k. f.known p (omega arith), (f.two, f.enough)))

-- no room holds three places
pub no_third : (l : List ℕ) (r i j k : ℕ) → Fair l → r < room_count → i < j → j < k → k < place_count
    → get_or l i 0 ≡ r + 1 → get_or l j 0 ≡ r + 1 → get_or l k 0 ≡ r + 1 → ⊥
unfolding held
no_third l r i j k f h o u in-k p q s = omega (arith, f.two r h, count_three (r + 1) l i j k o u (omega (arith, f.twelve)) p q s)

pub fresh-fair : Fair all_free
unfolding fair every at_most held_each tab held idle free count hit
fresh-fair = (fair_says all_free refl).fact refl

-- ---- what a place that changes hands does to the counts
module _ (l : List ℕ) (p b : ℕ) (h : p < length l) where
  pub free-set : free (set l p b) + hit (get_or l p 0) 0 ≡ free l + hit b 0
  unfolding free
  free-set = count_set 0 l p b h

  pub held-set : (r : ℕ) → held r (set l p b) + hit (get_or l p 0) (r + 1) ≡ held r l + hit b (r + 1)
  unfolding held
  held-set r = count_set (r + 1) l p b h

-- two lists of holders that differ in room r alone: H
pub idle-set : (l m : List ℕ) (r : ℕ) → r < room_count → ((q : ℕ) → (q ≡ r → ⊥) → held q m ≡ held q l)
    → idle m + hit (held r l) 0 ≡ idle l + hit (held r m) 0
unfolding idle held_each
idle-set l m r h k =
    let n = each-length l in
    rw (tab-set (λ q. held q l) (λ q. held q m) room_count r h k, ← each_at l r h)
    (count_set 0 (held_each l) r (held r m) (omega arith))

idle_some : (l : List ℕ) (r : ℕ) → r < room_count → held r l ≡ 0 → 0 < idle l
unfolding idle
idle_some l r h z = count_some 0 (held_each l) r (omega (arith, each-length l)) (each_at l r h ∙ z)

-- place p passes into the hands b, and room r alone holds more or less by it: what is still to be shown
module _ (l : List ℕ) (p b r : ℕ) (f : Fair l) (there : p < length l) (room : r < room_count)
    (alone : (o : ℕ) → (o ≡ r → ⊥) → (get_or l p 0 ≡ o + 1 → ⊥) × (b ≡ o + 1 → ⊥)) where
  others : (o : ℕ) → (o ≡ r → ⊥) → held o (set l p b) ≡ held o l
  others o d = omega (arith, held-set l p b there o, hit_no (get_or l p 0) (o + 1) (alone o d).0, hit_no b (o + 1) (alone o d).1)

  changed-fair : b ≤ room_count → held r (set l p b) ≤ most_held
      → (idle (set l p b) + hit (held r l) 0 ≡ idle l + hit (held r (set l p b)) 0 → idle (set l p b) ≤ free (set l p b))
      → Fair (set l p b)
  changed-fair k two enough = record {
    twelve = rw length-set f.twelve;
    known = λ q j. by-eq q p
        (λ z. rw (z, get_or-set_same l p b 0 there) k)
        (λ z. rw (get_or-set_other l p q b 0 z) (f.known q j));
    two = λ o j. by-eq o r (λ z. rw z two) (λ z. rw (others o z) (f.two o j));
    enough = enough (idle-set l (set l p b) r room others);
  }

-- ---- a room that holds none is denied nothing
pub none_denied : (l : List ℕ) (r : ℕ) → held r l ≡ 0 → place_refusal r l ≡ 0
unfolding place_refusal
none_denied l r z = rw z

-- ---- a place is given to room r
place_passed : (l : List ℕ) (r : ℕ) → place_refusal r l ≡ 0 → (held r l ≤ 1) × (held r l ≡ 1 → idle l < free l)
unfolding place_refusal
place_passed l r q = by-test (leb most_held (held r l))
    (λ a. absurd (omega (arith, rw a at q)))
    (λ a. by-test (eqb (held r l) 1)
    (λ b. by-test (leb (free l) (idle l))
    (λ d. absurd (omega (arith, rw (a, b, d) at q)))
    (λ d. (omega (arith, leb-false most_held (held r l) a), λ z. leb-false (free l) (idle l) d)))
    (λ b. (omega (arith, leb-false most_held (held r l) a), λ z. absurd (eqb-false (held r l) 1 b z))))

module _ (l : List ℕ) (r : ℕ) (f : Fair l) (h : r < room_count) (q : place_refusal r l ≡ 0) where
  some_free : 0 < free l
  some_free =
      let a = place_passed l r q in
      by-eq (held r l) 0
      (λ z. omega (arith, f.enough, idle_some l r h z))
      (λ z. omega (arith, a.1 (omega arith)))

  -- there is one, the lowest free
  pub given-place : lowest_free l < place_count
  unfolding free
  given-place = omega (arith, f.twelve, lowest-inside l some_free)

  -- and with it the holders are fair again
  pub given-fair : Fair (set l (lowest_free l) (r + 1))
  given-fair =
      let p = lowest_free l in
      let there : p < length l = omega (arith, f.twelve, given-place) in
      let e = lowest_is_free l in
      let a = place_passed l r q in
      let n : held r (set l p (r + 1)) ≡ held r l + 1 = omega
      (arith, held-set l p (r + 1) there r, hit_no (get_or l p 0) (r + 1) (λ z. omega arith), hit_yes (r + 1) (r + 1) refl) in
      let m : free (set l p (r + 1)) + 1 ≡ free l = omega
      (arith, free-set l p (r + 1) there, hit_yes (get_or l p 0) 0 e, hit_no (r + 1) 0 (λ z. omega arith)) in
      changed-fair l p (r + 1) r f there h (λ o d. (λ z. omega arith, λ z. d (omega arith))) (omega arith) (omega arith)
      (λ i. let w = hit_no (held r (set l p (r + 1))) 0 (λ z. omega arith) in
      by-eq (held r l) 0
      (λ z. omega (arith, hit_yes (held r l) 0 z, f.enough))
      (λ z. omega (arith, hit_no (held r l) 0 z, a.1 (omega arith))))

-- ---- a place is freed: whoever held it, the holders stay fair
room_freed : (l : List ℕ) (p r : ℕ) → Fair l → get_or l p 0 ≡ r + 1 → Fair (set l p 0)
room_freed l p r f e =
    let there : p < length l = by-lt p (length l) (λ h. h) (λ h. absurd (omega (arith, get_or-eq_default l 0 h))) in
    let room : r < room_count = omega (arith, f.known p (omega (arith, f.twelve))) in
    let n : held r (set l p 0) + 1 ≡ held r l = omega
    (arith, held-set l p 0 there r, hit_yes (get_or l p 0) (r + 1) e, hit_no 0 (r + 1) (λ z. omega arith)) in
    let m : free (set l p 0) ≡ free l + 1 = omega
    (arith, free-set l p 0 there, hit_no (get_or l p 0) 0 (λ z. omega arith), hit_yes 0 0 refl) in
    changed-fair l p 0 r f there room (λ o d. (λ z. d (omega arith), λ z. omega arith)) (omega arith) (omega (arith, f.two r room))
    (λ i. omega (arith, hit_most (held r (set l p 0)) 0, f.enough))

pub freed-fair : (l : List ℕ) (p : ℕ) → Fair l → Fair (set l p 0)
freed-fair l p f = by-eq (get_or l p 0) 0
    (λ z. rw (← z, set-get_or) f)
    (λ z. room_freed l p (get_or l p 0 - 1) f (omega arith))
