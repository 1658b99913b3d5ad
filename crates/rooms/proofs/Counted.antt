-- The pass that tests fairness: what each room holds so far, and how many places were a room's second.
use Prim.Native.Nat.{ℕ, suc, ◌+◌, ◌≤◌, ◌<◌}
use mathlib.Core.Path.{◌≡◌, refl, sym, ◌∙◌}
use mathlib.Core.Bool.{false}
use mathlib.Core.List.{List}
use native.Mathlib.Omega.{arith}
use native.Mathlib.Numerals.{add-one}
use lib.ListN.{length, get_or, set, replicate, take}
use lib.Seq.{take_all}
use lib.Dec.{leb}
use Rattle.word.specs.Lists.{tab}
use Rattle.word.proofs.Cases.{by-test, by-eq}
use borrow.Author.Tests.{leb-true, leb-false}
use Rattle.word.specs.Limits.{room_count}
use Rattle.rooms.specs.Rooms.{most_held, hit, count, free, held, held_each, idle, fair}
use Rattle.rooms.proofs.Count.{hit_yes, hit_no, count-take, count-take_below, tab-set, tab-same, each_at}
use Rattle.rooms.proofs.Rooms.{fair_parts, idle-set}

-- of the first i holders of l: n has what each room holds, none over two, and `seconds` of the places were a room's second
pub record Counted (l : List ℕ) (i : ℕ) (n : List ℕ) (seconds : ℕ) : Type 0 where
  pub counts : n ≡ held_each (take i l)
  pub known : (p : ℕ) → p < i → get_or l p 0 ≤ room_count
  pub two : (r : ℕ) → r < room_count → held r (take i l) ≤ most_held
  pub sum : i + idle (take i l) ≡ free (take i l) + 8 + seconds

pub counted_none : (l : List ℕ) → Counted l 0 (replicate 8 0) 0
unfolding held_each held idle free tab count hit
counted_none l = record { counts = refl; known = λ p h. absurd (omega arith); two = λ r h. omega arith; sum = refl }

module _ (l n : List ℕ) (i seconds : ℕ) (c : Counted l i n seconds) where
  pub counted-at : (r : ℕ) → r < room_count → get_or n r 0 ≡ held r (take i l)
  counted-at r h = rw c.counts (each_at (take i l) r h)

  pub counted_most : (r : ℕ) → r < room_count → get_or n r 0 ≤ 2
  counted_most r h = omega (arith, counted-at r h, c.two r h)

  -- what the next holder adds
  held_next : (r : ℕ) → i < length l → held r (take (suc i) l) ≡ held r (take i l) + hit (get_or l i 0) (r + 1)
  unfolding held
  held_next r h = count-take (r + 1) l i h

  free_next : i < length l → free (take (suc i) l) ≡ free (take i l) + hit (get_or l i 0) 0
  unfolding free
  free_next h = count-take 0 l i h

  known_next : get_or l i 0 ≤ 8 → (p : ℕ) → p < i + 1 → get_or l p 0 ≤ room_count
  known_next h p k = by-eq p i (λ z. rw z h) (λ z. c.known p (omega arith))

  -- a free place
  pub counted-free : i < length l → get_or l i 0 ≡ 0 → Counted l (i + 1) n seconds
  unfolding held_each idle
  counted-free h z =
      let same : held_each (take (suc i) l) ≡ held_each (take i l) =
      tab-same (λ r. held r (take i l)) (λ r. held r (take (suc i) l)) room_count
      (λ r. omega (arith, held_next r h, hit_no (get_or l i 0) (r + 1) (λ y. omega arith))) in
      record {
        counts = rw (add-one i, same) c.counts;
        known = known_next (omega arith);
        two = λ r k. rw add-one (omega (arith, held_next r h, hit_no (get_or l i 0) (r + 1) (λ y. omega arith), c.two r k));
        sum = rw (add-one i, same) (omega (arith, c.sum, free_next h, hit_yes (get_or l i 0) 0 z));
      }

  -- a place of room r, its first or its second
  set-each : (r : ℕ) → r < room_count → ((q : ℕ) → (q ≡ r → ⊥) → held q (take (suc i) l) ≡ held q (take i l))
      → held r (take (suc i) l) ≡ get_or n r 0 + 1
      → set n r (get_or n r 0 + 1) ≡ held_each (take (suc i) l)
  unfolding held_each
  set-each r room others more = rw (← more, c.counts)
      (sym (tab-set (λ q. held q (take i l)) (λ q. held q (take (suc i) l)) room_count r room others))

  pub counted-held : (r : ℕ) → i < length l → r < room_count → get_or l i 0 ≡ r + 1 → get_or n r 0 < most_held
      → Counted l (i + 1) (set n r (get_or n r 0 + 1)) (seconds + get_or n r 0)
  counted-held r h room e one =
      let k = counted-at r room in
      let more : held r (take (suc i) l) ≡ get_or n r 0 + 1 = omega (arith, held_next r h, hit_yes (get_or l i 0) (r + 1) e) in
      let others : (q : ℕ) → (q ≡ r → ⊥)
      → held q (take (suc i) l) ≡ held q (take i l) = λ q d. omega
      (arith, held_next q h, hit_no (get_or l i 0) (q + 1) (λ y. d (omega arith))) in
      let f = free_next h in
      let g = hit_no (get_or l i 0) 0 (λ y. omega arith) in
      let w = hit_no (held r (take (suc i) l)) 0 (λ y. omega arith) in
      let d = idle-set (take i l) (take (suc i) l) r room others in
      record {
        counts = rw (add-one i) (set-each r room others more);
        known = known_next (omega arith);
        two = λ q j. by-eq q r
            (λ z. rw (z, add-one i) (omega arith))
            (λ z. rw (add-one i) (omega (arith, others q z, c.two q j)));
        sum = rw (add-one i) (by-eq (held r (take i l)) 0
            (λ z. omega (arith, c.sum, hit_yes (held r (take i l)) 0 z))
            (λ z. omega (arith, c.sum, hit_no (held r (take i l)) 0 z)));
      }

  -- what is no room's, a third place, and the end
  pub counted_stranger : i < length l → 8 < get_or l i 0 → false ≡ fair l
  counted_stranger h k = by-test (fair l) (λ t. absurd (omega (arith, ((fair_parts l).fact t).0 i h))) sym

  pub counted_third : (r : ℕ) → i < length l → r < room_count → get_or l i 0 ≡ r + 1 → most_held ≤ get_or n r 0 → false ≡ fair l
  unfolding held
  counted_third r h room e k =
      by-test (fair l)
      (λ t. absurd (omega (
        arith,
        ((fair_parts l).fact t).1.0 r room,
        held_next r h,
        hit_yes (get_or l i 0)
            (r + 1) e,
        counted-at r room,
        count-take_below (r + 1) l (suc i),
      )))
      sym

  pub counted_end : i ≡ length l → leb (seconds + 8) (length l) ≡ fair l
  counted_end e =
      let a : take i l ≡ l = take_all i l (omega arith) in
      let s = rw a at c.sum in
      by-test (leb (seconds + 8) (length l))
      (λ t. t ∙ sym ((fair_parts l).test
      (λ p h. c.known p (omega arith), (λ r h. rw a at (c.two r h), omega (arith, leb-true (seconds + 8) (length l) t)))))
      (λ t. t ∙ by-test (fair l)
      (λ u. absurd (omega (arith, ((fair_parts l).fact u).1.1, leb-false (seconds + 8) (length l) t))) sym)
