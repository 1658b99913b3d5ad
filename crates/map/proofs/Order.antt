-- Stretches that stand in the order of their rooms obey the map's rule, and the pass that looks for it.
use Rattle.std.proofs.Common.{◌≡◌, ℕ, suc, ◌+◌, ◌-◌, ◌%◌, ◌^◌, ◌<◌, ◌≤◌, Bool, true, false, eqb, leb, List, [], ◌∷◌, drop, sym, refl, ◌∙◌, add-one, arith, drop_of_length-le, drop-cons, eq-eqb, ne_eqb, eqb-true, le-leb, leb-false, leb-true}
use mathlib.Core.Bool.{and-false}
use borrow.Author.Tests.{lt-leb}
use Rattle.word.specs.Lists.{every, every_two}
use Rattle.word.specs.Limits.{room_count}
use Rattle.word.proofs.Cases.{by-test, by-lt, and_left, and_right, and_both}
use Rattle.map.specs.declared.Stretch.{Stretch}
use Rattle.map.specs.Map.{stretch_of, map_of, in_core, stretches_apart, map_obeys, none}
use Rattle.map.specs.HowOrder.{in_order}
use Rattle.map.proofs.Map.{map-length, map_at_lem, in_core_says, stretches-apart_says}

-- ---- what the order says
module _ (core : ℕ) where
  -- the first stretch, and by which way the rest is in order
  first_in_order : {X : Type 0} (end : ℕ) (s : Stretch) (m : List Stretch) → in_order core end (s ∷ m) ≡ true
      → (end ≤ s.start.0 → in_order core (s.start.0 + s.len) m ≡ true → X)
      → (s.start.0 < end → s.len ≡ 0 → in_order core end m ≡ true → X)
      → X
  unfolding in_order
  first_in_order end s m q f g =
      let p = and_right (in_core core s) _ q in
      by-test (leb end s.start.0)
      (λ t. f (leb-true end s.start.0 t) (rw t at p))
      (λ t. let u = rw t at p in
      g (leb-false end s.start.0 t) (eqb-true s.len 0 (and_left (eqb s.len 0) _ u)) (and_right (eqb s.len 0) _ u))

  first-inside : (end : ℕ) (s : Stretch) (m : List Stretch) → in_order core end (s ∷ m) ≡ true → in_core core s ≡ true
  unfolding in_order
  first-inside end s m q = and_left (in_core core s) _ q

  order_inside : (end : ℕ) (m : List Stretch) → in_order core end m ≡ true → every (in_core core) m ≡ true
  unfolding every
  order_inside end [] q = refl
  order_inside end (s ∷ m) q =
      and_both (in_core core s) (every (in_core core) m) (first-inside end s m q)
      (first_in_order end s m q (λ h r. order_inside (s.start.0 + s.len) m r) (λ h z r. order_inside end m r))

  -- a stretch that ends before shares no word with those in order
  order_behind : (t : Stretch) (end : ℕ) (m : List Stretch) → t.start.0 + t.len ≤ end → in_order core end m ≡ true
      → every (stretches_apart t) m ≡ true
  unfolding every
  order_behind t end [] h q = refl
  order_behind t end (s ∷ m) h q = first_in_order end s m q
      (λ k r. and_both (stretches_apart t s) (every (stretches_apart t) m)
      ((stretches-apart_says t s).test (λ i a b c d. omega arith))
      (order_behind t (s.start.0 + s.len) m (omega arith) r))
      (λ k z r. and_both (stretches_apart t s) (every (stretches_apart t) m)
      ((stretches-apart_says t s).test (λ i a b c d. omega arith))
      (order_behind t end m h r))

  order_apart : (end : ℕ) (m : List Stretch) → in_order core end m ≡ true → every_two stretches_apart m ≡ true
  unfolding every_two
  order_apart end [] q = refl
  order_apart end (s ∷ m) q = first_in_order end s m q
      (λ k r. and_both (every (stretches_apart s) m) (every_two stretches_apart m)
      (order_behind s (s.start.0 + s.len) m (omega arith) r)
      (order_apart (s.start.0 + s.len) m r))
      (λ k z r. and_both (every (stretches_apart s) m) (every_two stretches_apart m)
      (order_behind s end m (omega arith) r)
      (order_apart end m r))

  pub order_obeys : (m : List Stretch) → in_order core 0 m ≡ true → map_obeys core m ≡ true
  unfolding map_obeys
  order_obeys m q = and_both (every (in_core core) m) (every_two stretches_apart m) (order_inside 0 m q) (order_apart 0 m q)

-- ---- the pass: what is left of the core behind the stretches so far, and the difference x to the next one's start, which may wrap
module _ (core left x : ℕ) (s : Stretch) (m : List Stretch) (most : left ≤ core)
    (wraps : (x + s.start.0) % 2 ^ 64 ≡ core) (fits : s.start.0 < 2 ^ 64) (small : x < 2 ^ 64) where
  -- it wraps where the stretch starts past the core
  wrapped : core < x → core < s.start.0
  wrapped h = by-lt core s.start.0 (λ k. k) (λ k. absurd (omega arith))

  exact : x ≤ core → x + s.start.0 ≡ core
  exact h = by-lt core s.start.0 (λ k. absurd (omega arith)) (λ k. omega arith)

  outside : core < s.start.0 + s.len → in_core core s ≡ false
  outside h = by-test (in_core core s) (λ t. absurd (omega (arith, (in_core_says core s).fact t))) (λ t. t)

  pub order_past : core < x → in_order core (core - left) (s ∷ m) ≡ false
  unfolding in_order
  order_past h = rw (outside (omega (arith, wrapped h)))

  pub order_away : left < x → (s.len ≡ 0 → ⊥) → in_order core (core - left) (s ∷ m) ≡ false
  unfolding in_order
  order_away h z = by-lt core x order_past (λ k.
      rw (lt-leb (core - left) s.start.0 (omega (arith, exact k)), ne_eqb s.len 0 z) (and-false (in_core core s)))

  inside : s.len ≤ x → x ≤ core → in_core core s ≡ true
  inside h k = (in_core_says core s).test (omega (arith, exact k))

  pub order_skip : left < x → s.len ≡ 0 → x ≤ core → in_order core (core - left) (s ∷ m) ≡ in_order core (core - left) m
  unfolding in_order
  order_skip h z k = rw (inside (omega arith) k, lt-leb (core - left) s.start.0 (omega (arith, exact k)), eq-eqb s.len 0 z)

  pub order_long : x ≤ left → x < s.len → in_order core (core - left) (s ∷ m) ≡ false
  unfolding in_order
  order_long h k = rw (outside (omega (arith, exact (omega arith))))

  pub order_next : x ≤ left → s.len ≤ x → in_order core (core - left) (s ∷ m) ≡ in_order core (core - (x - s.len)) m
  unfolding in_order
  order_next h k =
      let e = exact (omega arith) in
      let d : core - (x - s.len) ≡ s.start.0 + s.len = omega arith in
      rw (d, inside k (omega arith), le-leb (core - left) s.start.0 (omega arith))

-- the loop over it
pub order_starts : (core : ℕ) (m : List Stretch) → in_order core 0 m ≡ in_order core (core - core) m
order_starts core m = let e : core - core ≡ 0 = omega arith in rw e

module _ (core left : ℕ) (l : List ℕ) (r : ℕ) (b : Bool) (q : b ≡ in_order core (core - left) (drop r (map_of l))) where
  -- the stretches from room r's on
  from_room : (s : Stretch) → r < room_count → s ≡ stretch_of l r → drop r (map_of l) ≡ s ∷ drop (suc r) (map_of l)
  from_room s h e = drop-cons (map_of l) r none (omega (arith, map-length l)) ∙ rw (map_at_lem l r h, e) refl

  pub order_fails : (s : Stretch) → r < room_count → s ≡ stretch_of l r
      → in_order core (core - left) (s ∷ drop (suc r) (map_of l)) ≡ false → false ≡ b
  order_fails s h e f = sym (q ∙ rw (from_room s h e) f)

  pub order_more : (next : ℕ) (s : Stretch) → r < room_count → s ≡ stretch_of l r
      → in_order core (core - left) (s ∷ drop (suc r) (map_of l)) ≡ in_order core (core - next) (drop (suc r) (map_of l))
      → b ≡ in_order core (core - next) (drop (r + 1) (map_of l))
  order_more next s h e f = q ∙ rw (from_room s h e, add-one) f

  pub order_ends : room_count ≤ r → true ≡ b
  unfolding in_order
  order_ends h = sym (q ∙ rw (drop_of_length-le (map_of l) {i = r} (omega (arith, map-length l))))
