-- What the tests of a desk have shown when the next one is reached.
use Prim.Native.Nat.{ℕ, ◌+◌, ◌≤◌, ◌<◌}
use mathlib.Core.Path.{◌≡◌}
use mathlib.Core.Bool.{Bool, true, false, ◌&&◌, and-false}
use mathlib.Core.List.{List, []}
use native.Mathlib.Omega.{arith}
use lib.ListN.{length, get_or, drop}
use borrow.Author.Tests.{leb-true}
use lib.Dec.{leb}
use Rattle.word.specs.Limits.{place_count, core_most}
use Rattle.word.specs.Runs.{within, Says}
use Rattle.word.specs.Lists.{every}
use Rattle.word.specs.declared.Area.{Area}
use Rattle.word.proofs.Cases.{by-test, and_left, and_right}
use Rattle.word.proofs.Each.{says_each, says_two}
use Rattle.word.proofs.Says.{says_and, says_as}
use Rattle.word.proofs.Lists.{length-tab, get_d_tab, every_more, every_fails, every-ends}
use Rattle.lists.specs.declared.Given.{Given}
use Rattle.lists.specs.HowChain.{chain}
use Rattle.lists.specs.Obey.{tables_obey}
use Rattle.lists.specs.Load.{words_in, ranks_in, core_tables, Readable}
use Rattle.lists.proofs.Sound.{order_sound}
use Rattle.stage.specs.Ranges.{stage_fits}
use Rattle.map.specs.declared.Stretch.{Stretch}
use Rattle.map.specs.Map.{map_of}
use Rattle.layout.specs.Layout.{place_words, map_numbers, place_in, places, stage_in, lists_in}
use Rattle.layout.proofs.Places.{lists_length}
use Rattle.desk.specs.Sound.{area_in, counts_fit, load_fits, place_fits, areas_apart, SmallStretch, places_fit}

-- an area in a small stretch ends in the numbers of a core
pub area_small : (s : Stretch) (a : Area) → SmallStretch s → area_in s a ≡ true → a.at.0 + a.size ≤ core_most
unfolding area_in within
area_small s a h q =
    let w = and_right (leb 1 a.size) _ q in
    let l = leb-true (a.at.0 + a.size) (s.start.0 + s.len) (and_right (leb s.start.0 a.at.0) _ w) in
    omega arith

pub counts_small : (g : Given) → counts_fit g ≡ true → (g.io ≤ 128) × ((g.tables ≤ 128) × (g.kept ≤ 128))
unfolding counts_fit
counts_small g q =
    let r = and_right (leb g.io 128) _ q in (
      leb-true g.io 128 (and_left (leb g.io 128) _ q),
      (
        leb-true g.tables 128 (and_left (leb g.tables 128) _ r),
        leb-true g.kept 128 (and_right (leb g.tables 128) _ r),
      ),
    )

-- so the lists of a place can be read
pub lists_readable : (g : Given) (l : List ℕ) → length l ≡ place_words → counts_fit g ≡ true
    → g.area.at.0 + g.area.size ≤ core_most
    → Readable g (lists_in l)
lists_readable g l h q k =
    let n = counts_small g q in
    record { long = lists_length l h; io = n.0; tables = n.1.0; kept = n.1.1; small = k }

-- kept words that pass the one pass are tables that obey refusal 8, so that the code need not look at the tables
pub load_is : (g : Given) (l : List ℕ)
    → load_fits g l
    ≡ (chain g.area (words_in (lists_in l) g.kept) && stage_fits g.area (core_tables g (lists_in l)) g.io (stage_in l))
unfolding load_fits core_tables
load_is g l =
    by-test (chain g.area (words_in (lists_in l) g.kept))
    (λ q. rw (order_sound g.area (words_in (lists_in l) g.kept) q (ranks_in (lists_in l) g.tables)))
    (λ q. rw q (and-false (tables_obey g.area (core_tables g (lists_in l)))))

-- the twelve places
pub places-length : (d : List ℕ) → length (places d) ≡ 12
unfolding places
places-length d = length-tab (place_in d) 12

pub places-at : (d : List ℕ) (p : ℕ) → p < place_count → get_or (places d) p [] ≡ place_in d p
unfolding places
places-at d p h = get_d_tab (place_in d) 12 p [] h

-- a loop over the places: a turn, a test that fails, the end
module _ (f : List ℕ → Bool) (d : List ℕ) (p : ℕ) (b : Bool) where
  inside : p < place_count → p < length (places d)
  inside h = omega (arith, places-length d)

  pub places_more : (l : List ℕ) → p < place_count → l ≡ place_in d p → f l ≡ true → b ≡ every f (drop p (places d))
      → b ≡ every f (drop (p + 1) (places d))
  places_more l h e t = every_more f [] (places d) p b (inside h) (rw (places-at d p h, ← e) t)

  pub places_fail : (l : List ℕ) → p < place_count → l ≡ place_in d p → f l ≡ false → b ≡ every f (drop p (places d)) → false ≡ b
  places_fail l h e t = every_fails f [] (places d) p b (inside h) (rw (places-at d p h, ← e) t)

  pub places_end : place_count ≤ p → b ≡ every f (drop p (places d)) → true ≡ b
  places_end h = every-ends f [] (places d) p b (omega (arith, places-length d))

-- a test that says that it passes
pub says_self : (b : Bool) → Says b (b ≡ true)
says_self b = record { fact = λ h. h; test = λ h. h }

-- the tests of each place and of each two, by the places' numbers
pub places_say : (d : List ℕ) → Says (places_fit d)
    (((p : ℕ) → p < place_count → place_fits (map_of (map_numbers d)) (place_in d p) ≡ true)
    × ((p q : ℕ) → p < q → q < place_count → areas_apart (place_in d p) (place_in d q) ≡ true))
places_say d =
    let m = map_of (map_numbers d) in
    let e = places-length d in
    says_as
    (says_and (says_each [] (place_fits m) (λ l. place_fits m l ≡ true) (λ l. says_self (place_fits m l)) (places d))
    (says_two [] areas_apart (λ l k. areas_apart l k ≡ true) (λ l k. says_self (areas_apart l k)) (places d)))
    (λ h. (
      λ p k. rw (places-at d p k) at (h.0 p (omega arith)),
      λ p q l k. rw (places-at d p (omega arith), places-at d q k) at
          (h.1 p q l (omega arith)),
    ))
    (λ s. (
      λ p k. rw (places-at d p (omega arith)) (s.0 p (omega arith)),
      λ p q l k. rw
          (places-at d p (omega arith), places-at d q (omega arith)) (s.1 p q l (omega arith)),
    ))
