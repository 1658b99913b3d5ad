-- The map's rule as facts, from the test and to the test.
use Rattle.std.proofs.Common.{◌≡◌, ℕ, ◌+◌, ◌<◌, ◌≤◌, List, length, get_or, sym, arith}
use Rattle.word.specs.Limits.{room_count}
use Rattle.word.specs.Runs.{Says}
use Rattle.word.proofs.Cases.{by-lt}
use Rattle.word.proofs.Lists.{length-tab, get_d_tab}
use Rattle.word.proofs.Says.{says_and, says_as, says_within, says_apart}
use Rattle.map.specs.declared.Stretch.{Stretch}
use Rattle.map.specs.Map.{stretch_of, map_of, in_core, stretches_apart, map_obeys, none, Separate, MapObeys}
use Rattle.word.proofs.Each.{says_each, says_two}

-- ---- the map of a list: eight stretches, each by its room
pub map-length : (l : List ℕ) → length (map_of l) ≡ 8
unfolding map_of
map-length l = length-tab (stretch_of l) 8

pub map_at_lem : (l : List ℕ) (r : ℕ) → r < room_count → get_or (map_of l) r none ≡ stretch_of l r
unfolding map_of
map_at_lem l r h = get_d_tab (stretch_of l) 8 r none h

-- ---- the rule
pub in_core_says : (core : ℕ) (s : Stretch) → Says (in_core core s) (s.start.0 + s.len ≤ core)
unfolding in_core
in_core_says core s = says_as (says_within s.start.0 s.len 0 core) (λ h. omega arith) (λ h. (omega arith, omega arith))

pub stretches-apart_says : (s t : Stretch) → Says (stretches_apart s t) (Separate s t)
unfolding stretches_apart
stretches-apart_says s t = says_apart s.start.0 s.len t.start.0 t.len

separate_turned : (s t : Stretch) → Separate s t → Separate t s
separate_turned s t h i a b c d = h i c d a b

pub map_obeys_says : (core : ℕ) (m : List Stretch) → length m ≡ 8 → Says (map_obeys core m) (MapObeys core (λ r. get_or m r none))
unfolding map_obeys
map_obeys_says core m e =
    says_as
    (says_and (says_each none (in_core core) _ (in_core_says core) m) (says_two none stretches_apart Separate stretches-apart_says m))
    (λ h. record {
      inside = λ r k. h.0 r (omega arith);
      separate = λ r q j k ne. by-lt r q
          (λ l. h.1 r q l (omega arith))
          (λ l. separate_turned (get_or m q none) (get_or m r none)
          (h.1 q r (by-lt q r (λ z. z) (λ z. absurd (ne (omega arith)))) (omega arith)));
    })
    (λ h. (λ r k. h.inside r (omega arith), λ r q l k. h.separate r q (omega arith) (omega arith) (λ z. omega arith)))

-- the same of the map that a list tells
obeys_same : (core : ℕ) (f g : ℕ → Stretch) → ((r : ℕ) → r < room_count → f r ≡ g r) → MapObeys core f → MapObeys core g
obeys_same core f g e h = record {
  inside = λ r k. rw (e r k) at (h.inside r k);
  separate = λ r q j k ne. rw (e r j, e q k) at (h.separate r q j k ne);
}

pub map_of_says : (core : ℕ) (l : List ℕ) → Says (map_obeys core (map_of l)) (MapObeys core (stretch_of l))
map_of_says core l =
    says_as (map_obeys_says core (map_of l) (map-length l))
    (obeys_same core (λ r. get_or (map_of l) r none) (stretch_of l) (map_at_lem l))
    (obeys_same core (stretch_of l) (λ r. get_or (map_of l) r none) (λ r h. sym (map_at_lem l r h)))
