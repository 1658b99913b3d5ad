-- Open keeps a desk sound, and its answer fits in one number.
use Prim.Native.Nat.{ℕ, ◌+◌, ◌-◌, ◌≤◌, ◌<◌}
use mathlib.Core.Path.{◌≡◌, sym, ap, ◌∙◌}
use mathlib.Core.Bool.{true}
use mathlib.Core.List.{List, []}
use native.Mathlib.Omega.{arith}
use lib.ListN.{length, get_or, set}
use lib.Dec.{eqb, leb}
use borrow.Author.Tests.{eq-eqb, ne_eqb, eqb-true, le-leb}
use Rattle.word.specs.Limits.{room_count, place_count, core_most}
use Rattle.word.specs.Lists.{splice}
use Rattle.word.specs.Runs.{apart}
use Rattle.word.specs.declared.Area.{Area}
use Rattle.word.proofs.Cases.{by-eq, when, both, and_left, and_right, or-not}
use Rattle.word.proofs.Every.{every-place}
use Rattle.word.proofs.Lists.{get_d_range, range-splice-same, splice-whole, get_d_splice_in, get_d_splice_out}
use Rattle.word.proofs.Says.{says_within, says_apart}
use Rattle.map.specs.declared.Stretch.{Stretch}
use Rattle.map.specs.Map.{map_of, none, Separate}
use Rattle.rooms.specs.Rooms.{free, held, idle, place_refusal, lowest_free}
use Rattle.rooms.proofs.Count.{lowest_is_free}
use Rattle.rooms.proofs.Rooms.{given-place, given-fair}
use Rattle.lists.specs.Obey.{tables_of, lists_obey}
use Rattle.lists.specs.declared.Given.{Given}
use Rattle.lists.specs.HowKeep.{words_kept}
use Rattle.lists.specs.Load.{load_of, given_by, kept_lists}
use Rattle.lists.proofs.Keep.{lists_obey_lem, kept_passes}
use Rattle.lists.proofs.Back.{words_most, kept_words_lem, kept_back}
use Rattle.stage.specs.Stage.{numbers_of, stage_of}
use Rattle.stage.specs.Ranges.{stage_fits}
use Rattle.stage.specs.declared.Stage.TheVariants.{Label}
use Rattle.layout.specs.Layout.{place_words, map_numbers, base, place_in, places, holder_of, holder_in, own_of, stage_in, lists_in, holders}
use Rattle.layout.proofs.Places.{holder_at_lem, get_d_holders, place-length, lists_length}
use Rattle.desk.specs.Sound.{area_in, counts_fit, load_fits, held_fits, place_fits, areas_apart, sound}
use Rattle.desk.proofs.Facts.{sound_says, sound-long, free-first, sound-map, sound-fair}
use Rattle.desk.proofs.Replaced.{Replaced, replaced_none, replaced_more, areas_by, replaced_sound, holders_replaced}
use Rattle.desk.proofs.Tested.{load_is, places-length, places-at}
use Rattle.calls.specs.Answer.{Small}
use Rattle.calls.specs.Outcome.{Outcome}
use Rattle.calls.specs.Open.{beside_own, area_fits, opened_own, opened_place, opened_desk, opened, grant_of, open_of}
use Rattle.calls.proofs.Entry.{entered-cases}
use Rattle.calls.proofs.Grant.{area-held, area_small, own_length, with_own, lists_long, opened-length}
use Rattle.calls.proofs.Packed.{small_fault}

-- ---- areas in stretches that share no word
stretches_areas : (s t : Stretch) (a b : Area) → Separate s t → area_in s a ≡ true → area_in t b ≡ true
    → apart a.at.0 a.size b.at.0 b.size ≡ true
unfolding area_in
stretches_areas s t a b w x y =
    let u = (says_within a.at.0 a.size s.start.0 s.len).fact (and_right (leb 1 a.size) _ x) in
    let v = (says_within b.at.0 b.size t.start.0 t.len).fact (and_right (leb 1 b.size) _ y) in
    (says_apart a.at.0 a.size b.at.0 b.size).test
    (λ i e f g h. w i (omega (arith, u.0)) (omega (arith, u.1)) (omega (arith, v.0)) (omega (arith, v.1)))

-- ---- what is read of a place just opened, whose numbers were l
module _ (r : ℕ) (a : Area) (ios tables l : List ℕ) (long : length l ≡ place_words) (small : a.at.0 + a.size ≤ core_most)
    (obey : lists_obey a ios tables ≡ true) where
  abbrev given : Given
  given = given_by a ios tables

  abbrev new : List ℕ
  new = opened_place r a ios tables l

  abbrev kept : List ℕ
  kept = kept_lists ios tables (lists_in l)

  lists_fit_lem : 15 + length kept ≤ length (splice l 0 (opened_own r given))
  lists_fit_lem = omega (arith, with_own r a ios tables l long, lists_long r a ios tables l long small obey)

  first : (i : ℕ) → i < 15 → get_or new i 0 ≡ get_or (opened_own r given) i 0
  unfolding opened_place
  first i h =
      let n = own_length r a ios tables in
      let z : 0 + i ≡ i = omega arith in
      get_d_splice_out (splice l 0 (opened_own r given)) 15 kept i lists_fit_lem (λ x y. omega arith)
      ∙ rw z at (get_d_splice_in l 0 (opened_own r given) i (omega arith) (omega arith))

  pub holder_opened : holder_of new ≡ r + 1
  unfolding opened_own
  holder_opened = first 0 (omega arith)

  pub own_opened : own_of new ≡ record { holder = r + 1; given = given }
  unfolding own_of opened_own
  own_opened =
      rw (
        first 0 (omega arith),
        first 1 (omega arith),
        first 2 (omega arith),
        first 3 (omega arith),
        first 4 (omega arith),
        first 5 (omega arith),
      )

  pub stage-opened : stage_in new ≡ Label
  unfolding stage_in stage_of opened_own numbers_of
  stage-opened = rw (get_d_range new 6 9 0 (omega arith), first 6 (omega arith))

  pub lists_opened : lists_in new ≡ kept_lists ios tables (lists_in l)
  unfolding opened_place lists_in
  lists_opened =
      rw (lists_long r a ios tables l long small obey) at (range-splice-same (splice l 0 (opened_own r given)) 15 kept lists_fit_lem)

  -- "copies the lists": the place holds the load as it was lent
  pub load-opened : load_of (own_of new).given (lists_in new) ≡ record { area = a; tables = tables_of tables; ios = ios }
  load-opened = rw (own_opened, lists_opened) (kept_back a ios tables (lists_in l) small obey (lists_length l long))

  counts-opened : counts_fit given ≡ true
  unfolding counts_fit
  counts-opened =
      let o = lists_obey_lem a ios tables obey in
      rw (
        le-leb (length ios) 128 o.ios_few,
        le-leb (length (tables_of tables)) 128 o.tables_few,
        le-leb (length (words_kept (tables_of tables))) 128 (words_most a ios tables (lists_in l) small obey (lists_length l long)),
      )

  fits-opened : load_fits given new ≡ true
  unfolding stage_fits
  fits-opened =
      rw (
        load_is,
        lists_opened,
        kept_words_lem a ios tables (lists_in l) small obey (lists_length l long),
        kept_passes a ios tables small obey,
        stage-opened,
      )

  pub place_opened : (m : List Stretch) → area_in (get_or m r none) a ≡ true → place_fits m new ≡ true
  unfolding place_fits held_fits
  place_opened m h =
      let z : r + 1 - 1 ≡ r = omega arith in
      rw (holder_opened, ne_eqb (r + 1) 0 (λ y. omega arith), z, own_opened, h, counts-opened, fits-opened)

-- ---- open keeps a desk sound
module _ (d : List ℕ) (s : sound d ≡ true) (r : ℕ) (a : Area) (ios tables : List ℕ) (room : r < room_count)
    (given : place_refusal r (holders d) ≡ 0) (fit : area_fits d r a ≡ true) (obey : lists_obey a ios tables ≡ true) where
  abbrev place : ℕ
  place = lowest_free (holders d)

  abbrev numbers : List ℕ
  numbers = opened_place r a ios tables (place_in d place)

  pub in_desk : place < place_count
  in_desk = given-place (holders d) r (sound-fair d s) room given

  -- the place that is given was free
  pub given-free : holder_in d place ≡ 0
  given-free = sym (get_d_holders d place in_desk) ∙ lowest_is_free (holders d)

  pub old-length : length (place_in d place) ≡ place_words
  old-length = place-length d (sound-long d s) place in_desk

  small : a.at.0 + a.size ≤ core_most
  small = area_small d s r a room fit

  -- every other place, the map and the core length are as they were
  pub opened_replaced : Replaced d place numbers (opened_desk d place r a ios tables)
  unfolding opened_desk
  opened_replaced =
      let n = opened-length r a ios tables (place_in d place) old-length small obey in
      let z : base place + 0 ≡ base place = omega arith in
      rw (z, splice-whole (place_in d place) numbers (n ∙ sym old-length)) at
      (replaced_more d place (place_in d place) d 0 numbers in_desk (omega arith) (replaced_none d place (sound-long d s)))

  -- the place is the room's, and every other holder is as it was
  pub opened-holders : holders (opened_desk d place r a ios tables) ≡ set (holders d) place (r + 1)
  opened-holders =
      holders_replaced d place numbers _ in_desk opened_replaced
      ∙ ap (λ (h : ℕ). set (holders d) place h) (holder_opened r a ios tables (place_in d place) old-length small obey)

  -- with the area of a place that any room holds it shares no word
  beside_each : (q : ℕ) → q < place_count → areas_apart (place_in d q) numbers ≡ true
  unfolding place_fits held_fits beside_own area_fits
  beside_each q h =
      let m = map_of (map_numbers d) in
      let k = place_in d q in
      let t = holder_of k - 1 in
      let e = own_opened r a ios tables (place_in d place) old-length small obey in
      let held : holder_of k ≤ 8 = omega (arith, (sound-fair d s).known q h, get_d_holders d q h, holder_at_lem d q) in
      let b = every-place [] (beside_own r a) (places d) q (omega (arith, places-length d))
      (and_right (area_in (get_or m r none) a) _ fit) in
      let f = ((sound_says d).fact s).place q h in
      by-eq (holder_of k) 0 (free-first k numbers)
      (λ x. areas_by k numbers (rw e (by-eq (holder_of k) (r + 1)
      (λ y. or-not (eqb (holder_of k) (r + 1)) _ (rw (places-at d q h) at b) (eq-eqb (holder_of k) (r + 1) y))
      (λ y. stretches_areas (get_or m t none) (get_or m r none) (own_of k).given.area a
      ((sound-map d s).separate t r (omega arith) room (λ z. y (omega arith)))
      (and_left (area_in (get_or m t none) (own_of k).given.area) _ (rw (ne_eqb (holder_of k) 0 x) at f))
      (area-held d s r a room fit)))))

  pub opened-sound : sound (opened_desk d place r a ios tables) ≡ true
  opened-sound =
      let h = holder_opened r a ios tables (place_in d place) old-length small obey in
      replaced_sound d s place in_desk numbers _ opened_replaced
      (place_opened r a ios tables (place_in d place) old-length small obey (map_of (map_numbers d)) (area-held d s r a room fit))
      (λ q k n. beside_each q k)
      (rw h (given-fair (holders d) r (sound-fair d s) room given))

-- an outcome whose desk is sound
abbrev SoundLeft : Outcome → Type 0
SoundLeft o = sound o.desk ≡ true

module _ (d core : List ℕ) (r : ℕ) (a : Area) (ios tables : List ℕ) where
  grant_sound : sound d ≡ true → r < room_count → sound (grant_of d core r a ios tables).desk ≡ true
  unfolding grant_of opened
  grant_sound s h =
      when SoundLeft (eqb (place_refusal r (holders d)) 0)
      (λ f. when SoundLeft (area_fits d r a)
      (λ g. when SoundLeft (lists_obey a ios tables)
      (λ l. opened-sound d s r a ios tables h (eqb-true (place_refusal r (holders d)) 0 f) g l)
      (λ l. s)) (λ g. s)) (λ f. s)

  pub open_sound : sound d ≡ true → sound (open_of d core r a ios tables).desk ≡ true
  unfolding open_of
  open_sound s = entered-cases d (length core) r core _ SoundLeft (λ m l h. s) (λ k. grant_sound s k.room)

-- ---- its answer fits in one number, whatever is lent
abbrev SmallAnswer : Outcome → Type 0
SmallAnswer o = Small o.answer

abbrev SmallNumber : ℕ → Type 0
SmallNumber n = n < 64

refusal_small : (r : ℕ) (l : List ℕ) → place_refusal r l < 64
unfolding place_refusal
refusal_small r l =
    both SmallNumber (leb 2 (held r l)) (omega arith)
    (both SmallNumber (eqb (held r l) 1) (both SmallNumber (leb (free l) (idle l)) (omega arith) (omega arith)) (omega arith))

module _ (d core : List ℕ) (r : ℕ) (a : Area) (ios tables : List ℕ) where
  grant_small : sound d ≡ true → r < room_count → Small (grant_of d core r a ios tables).answer
  unfolding grant_of opened
  grant_small s h =
      when SmallAnswer (eqb (place_refusal r (holders d)) 0)
      (λ f. both SmallAnswer (area_fits d r a)
      (both SmallAnswer (lists_obey a ios tables)
      (omega (arith, given-place (holders d) r (sound-fair d s) h (eqb-true (place_refusal r (holders d)) 0 f)))
      (small_fault 8 (omega arith))) (small_fault 7 (omega arith))) (λ f. small_fault _ (refusal_small r (holders d)))

  pub open_small : Small (open_of d core r a ios tables).answer
  unfolding open_of
  open_small = entered-cases d (length core) r core _ SmallAnswer (λ m l h. small_fault m (omega arith)) (λ k. grant_small k.desk k.room)
