-- The one pass that makes all counts, and that these tell what each room holds and so H.
use Prim.Native.Nat.{ℕ, suc, ◌+◌, ◌≤◌, ◌<◌}
use mathlib.Core.Path.{◌≡◌, refl, sym, ap, ◌∙◌}
use mathlib.Core.List.{List, [], ◌∷◌, map}
use native.Mathlib.Omega.{arith}
use native.Mathlib.Numerals.{add-one}
use lib.ListN.{length, get_or, set, replicate, take, drop, length-map, get_or-map}
use lib.Seq.{ext_get_or, get_or-take, get_or-drop, take_all}
use Rattle.word.specs.Lists.{tab}
use Rattle.word.proofs.Cases.{by-lt}
use Rattle.word.proofs.Lists.{get_d_tab}
use Rattle.rooms.specs.Rooms.{hit, count, held, held_each, idle}
use Rattle.rooms.specs.HowTally.{slot_of, tallied}
use Rattle.rooms.proofs.Count.{hit_yes, hit_no, count-take, count-take_most, tab-set, each_at}

-- ---- the slot of a holder
slot_room : (h : ℕ) → h < 9 → slot_of h ≡ h
unfolding slot_of
slot_room h k = omega arith

slot_stranger : (h : ℕ) → 9 ≤ h → slot_of h ≡ 9
unfolding slot_of
slot_stranger h k = omega arith

pub slot_below : (h : ℕ) → slot_of h < 10
unfolding slot_of
slot_below h = omega arith

-- ---- the loop: the counts of the first i holders
unfoldable pub tallied_to : List ℕ → ℕ → List ℕ
tallied_to l i = tab (λ k. count k (take i (map slot_of l))) 10

pub tallied-none : (l : List ℕ) → replicate 10 0 ≡ tallied_to l 0
unfolding tallied_to tab count
tallied-none l = refl

-- one more number of a list is counted
counts_more : (m : List ℕ) (i k : ℕ) → i < length m → get_or m i 0 ≡ k → k < 10
    → set (tab (λ x. count x (take i m)) 10) k (count k (take i m) + 1) ≡ tab (λ x. count x (take (suc i) m)) 10
counts_more m i k h e b =
    ap (λ (v : ℕ). set (tab (λ x. count x (take i m)) 10) k v) (omega (arith, count-take k m i h, hit_yes (get_or m i 0) k e))
    ∙ sym (tab-set (λ x. count x (take i m)) (λ x. count x (take (suc i) m)) 10 k b
    (λ x z. omega (arith, count-take x m i h, hit_no (get_or m i 0) x (λ y. z (sym y ∙ e)))))

slot_at : (l : List ℕ) (i : ℕ) → get_or (map slot_of l) i 0 ≡ slot_of (get_or l i 0)
unfolding slot_of
slot_at l i = get_or-map slot_of l i 0

module _ (l : List ℕ) (i : ℕ) (n : List ℕ) (q : n ≡ tallied_to l i) where
  tallied-at : (k : ℕ) → k < 10 → get_or n k 0 ≡ count k (take i (map slot_of l))
  unfolding tallied_to
  tallied-at k h = rw q (get_d_tab (λ x. count x (take i (map slot_of l))) 10 k 0 h)

  pub tallied_most : (k : ℕ) → k < 10 → get_or n k 0 ≤ i
  tallied_most k h = omega (arith, tallied-at k h, count-take_most k (map slot_of l) i)

  pub tallied_more : (k : ℕ) → i < length l → k ≡ slot_of (get_or l i 0) → set n k (get_or n k 0 + 1) ≡ tallied_to l (i + 1)
  unfolding tallied_to
  tallied_more k h e =
      let b : k < 10 = rw e (slot_below (get_or l i 0)) in
      rw (tallied-at k b, q, add-one i)
      (counts_more (map slot_of l) i k (rw length-map h) (slot_at l i ∙ sym e) b)

  pub tallied_end : length l ≤ i → n ≡ tallied l
  unfolding tallied_to tallied
  tallied_end h = q ∙ rw (take_all i (map slot_of l) (rw length-map h))

-- ---- what the counts are
slot_hit : (a x : ℕ) → x < 9 → hit (slot_of a) x ≡ hit a x
slot_hit a x h = by-lt a 9
    (λ k. rw (slot_room a k))
    (λ k. rw (slot_stranger a k, hit_no 9 x (λ z. omega arith), hit_no a x (λ z. omega arith)))

slot_count : (x : ℕ) (l : List ℕ) → x < 9 → count x (map slot_of l) ≡ count x l
unfolding count
slot_count x [] h = refl
slot_count x (a ∷ l) h = rw (slot_hit a x h, slot_count x l h)

module _ (l : List ℕ) where
  tally_rooms : take 8 (drop 1 (tallied l)) ≡ held_each l
  unfolding tallied held_each held tab
  tally_rooms =
      ext_get_or 0 (take 8 (drop 1 (tallied l))) (held_each l) refl
      (λ r h. get_or-take 8 (drop 1 (tallied l)) r 0 h
      ∙ get_or-drop 1 (tallied l) r 0
      ∙ get_d_tab (λ k. count k (map slot_of l)) 10 (1 + r) 0 (omega arith)
      ∙ slot_count (1 + r) l (omega arith)
      ∙ ap (λ (x : ℕ). count x l) (omega arith)
      ∙ sym (each_at l r h))

-- H by the counts
module _ (l n : List ℕ) (q : n ≡ tallied l) where
  pub tally_idle : count 0 (take 8 (drop 1 n)) ≡ idle l
  unfolding idle
  tally_idle = rw (q, tally_rooms l)
