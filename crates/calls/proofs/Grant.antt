-- Open: what its steps leave, by the tests that were passed.
use Prim.Native.Nat.{ℕ, ◌+◌, ◌-◌, ◌/◌, ◌≤◌, ◌<◌}
use mathlib.Core.Path.{◌≡◌, refl, ap, ◌∙◌}
use mathlib.Core.Bool.{true, false}
use mathlib.Core.List.{List, [], ◌∷◌, ◌++◌}
use Rattle.std.specs.Prelude.{Some}
use native.Mathlib.Omega.{arith}
use lib.ListN.{length, get_or, take, drop}
use borrow.Author.Tests.{ne_eqb}
use Rattle.word.specs.Limits.{room_count, place_count, core_most}
use Rattle.word.specs.Lists.{splice, range, cleared}
use Rattle.std.specs.Prelude.{Ok, Err}
use Rattle.word.specs.declared.Fault.{Fault}
use Rattle.calls.proofs.Entry.{passed, not_passed}
use Rattle.word.specs.Fault.{numbered, fault}
use Rattle.word.specs.declared.Area.{Area}
use Rattle.word.proofs.Cases.{and_left}
use Rattle.word.proofs.Lists.{length-range, range-lent, range-splice-after, length-splice, lent-whole}
use Rattle.map.specs.Map.{map_of, none}
use Rattle.rooms.specs.Rooms.{place_refusal, lowest_free}
use Rattle.rooms.proofs.Rooms.{given-place}
use Rattle.lists.specs.Obey.{tables_of, lists_obey}
use Rattle.lists.specs.HowKeep.{words_kept, TakesLists}
use Rattle.lists.specs.Load.{list_words, given_by, kept_lists, Keepable}
use Rattle.lists.proofs.Keep.{lists_obey_lem}
use Rattle.lists.proofs.Take.{taken_words}
use Rattle.lists.proofs.Lent.{lent_length}
use Rattle.lists.proofs.Back.{lent_start, kept-long}
use Rattle.lists.proofs.Ranks.{words_few}
use Rattle.stage.specs.Stage.{numbers_of}
use Rattle.layout.specs.Layout.{place_words, desk_words, core_length, map_numbers, base, place_in, lists_in}
use Rattle.layout.specs.Layout.{holders}
use Rattle.layout.proofs.Places.{lists_length}
use Rattle.desk.specs.Sound.{area_in, sound}
use Rattle.desk.proofs.Facts.{core_small, sound-fair, stretch_in_core}
use Rattle.calls.specs.declared.Answer.TheVariants.{Refused, Opened}
use Rattle.calls.specs.Outcome.{Meets}
use Rattle.calls.specs.Open.{area_fits, opened_own, opened_place, opened_desk, opened, grant_of}

-- ---- an area that fits lies in its room's stretch, and so in the core
module _ (d : List ℕ) (s : sound d ≡ true) (r : ℕ) (a : Area) (h : r < room_count) (q : area_fits d r a ≡ true) where
  pub area-held : area_in (get_or (map_of (map_numbers d)) r none) a ≡ true
  unfolding area_fits
  area-held = and_left (area_in (get_or (map_of (map_numbers d)) r none) a) _ q

  pub area_in_core : a.at.0 + a.size ≤ core_length d
  area_in_core = stretch_in_core d s r a h area-held

  pub area_small : a.at.0 + a.size ≤ core_most
  area_small = omega (arith, area_in_core, core_small d s)

-- ---- a place is given: h are the holders as they were read
module _ (d h : List ℕ) (e : h ≡ holders d) (r : ℕ) where
  pub none-due : (u : Unit {0}) → Ok u ≡ numbered (place_refusal r h) → place_refusal r (holders d) ≡ 0
  none-due u q = passed (place_refusal r (holders d)) u (rw e at q)

  pub place_inside : sound d ≡ true → r < room_count → place_refusal r (holders d) ≡ 0 → (p : ℕ) → p ≡ lowest_free h → p < place_count
  place_inside s k f p q = omega (arith, q ∙ ap lowest_free e, given-place (holders d) r (sound-fair d s) k f)

-- ---- a place, lent as a part of the desk
-- the numbers of place p, from b on
pub place-long : (d : List ℕ) (p b : ℕ) → length d ≡ desk_words → p < place_count → b ≡ base p
    → length (take (b + place_words - b) (drop b d)) ≡ place_words
place-long d p b n h e = ap length (range-lent d b place_words) ∙ length-range d b place_words (omega arith)

-- ---- the words of the tables, in the array that they were taken to
lent-inside : (l vs ws : List ℕ) (n : ℕ) → ws ≡ splice l 0 vs → n ≡ length vs → length vs ≤ length l → n ≤ length ws
lent-inside l vs ws n e k h = rw (e, length-splice l 0 vs (omega arith)) (omega arith)

module _ (a : Area) (ios tables l ws : List ℕ) (n : ℕ) (t : TakesLists a ios tables l (Some n) ws) (h : length l ≡ 128) where
  few_words : length (words_kept (tables_of tables)) ≤ length l
  few_words =
      let o = lists_obey_lem a ios tables (taken_words a ios tables l ws n t).0 in
      omega (arith, words_few (tables_of tables), o.tables_few)

  pub words_inside : n ≤ length ws
  words_inside = let k = taken_words a ios tables l ws n t in lent-inside l _ ws n k.2 k.1 few_words

  pub words_lent : take n ws ≡ words_kept (tables_of tables)
  words_lent = let k = taken_words a ios tables l ws n t in lent_start l _ ws n k.2 k.1 few_words

-- ---- a place written
module _ (r : ℕ) (a : Area) (ios tables : List ℕ) where
  pub own_length : length (opened_own r (given_by a ios tables)) ≡ 15
  unfolding opened_own numbers_of
  own_length = refl

  own_written : (n : ℕ) → n ≡ length (words_kept (tables_of tables))
      → ((r + 1) ∷ a.at.0 ∷ a.size ∷ length ios ∷ (length tables / 2) ∷ n ∷ 0 ∷ 0 ∷ 0 ∷ 0 ∷ 0 ∷ 0 ∷ 0 ∷ 0 ∷ 0 ∷ [])
      ≡ opened_own r (given_by a ios tables)
  unfolding opened_own numbers_of
  own_written n e = rw (e, lent_length tables)

  -- a place whose numbers were l
  module _ (l : List ℕ) (long : length l ≡ place_words) where
    pub with_own : length (splice l 0 (opened_own r (given_by a ios tables))) ≡ place_words
    with_own = length-splice l 0 (opened_own r (given_by a ios tables)) (omega (arith, own_length)) ∙ long

    module _ (small : a.at.0 + a.size ≤ core_most) (obey : lists_obey a ios tables ≡ true) where
      pub lists_long : length (kept_lists ios tables (lists_in l)) ≡ list_words
      lists_long = kept-long a ios tables (lists_in l) small obey (lists_length l long)

      pub opened-length : length (opened_place r a ios tables l) ≡ place_words
      unfolding opened_place
      opened-length =
          length-splice (splice l 0 (opened_own r (given_by a ios tables))) 15 (kept_lists ios tables (lists_in l))
          (omega (arith, with_own, lists_long))
          ∙ with_own

    -- its own numbers, and then the lists
    pub place-written : (ws e k : List ℕ) → Keepable a ios tables ws (lists_in l)
        → e ≡ splice l 0
        ((r + 1) ∷ a.at.0 ∷ a.size ∷ length ios ∷ (length tables / 2) ∷ length ws ∷ 0 ∷ 0 ∷ 0 ∷ 0 ∷ 0 ∷ 0 ∷ 0 ∷ 0 ∷ 0 ∷ [])
        → k ≡ kept_lists ios tables (take list_words (drop 15 e))
        → take 15 e ++ (k ++ drop list_words (drop 15 e)) ≡ opened_place r a ios tables l
    unfolding opened_place lists_in range
    place-written ws e k t x z =
        let own = opened_own r (given_by a ios tables) in
        let y : e ≡ splice l 0 own = x ∙ ap (splice l 0) (own_written (length ws) (ap length t.words)) in
        let n : length own ≡ 15 = own_length in
        let h : take list_words (drop 15 e) ≡ lists_in l = rw y
        (range-splice-after l 0 own 15 list_words (omega arith) (omega arith)) in
        let q : k ≡ kept_lists ios tables (lists_in l) = z ∙ ap (kept_lists ios tables) h in
        lent-whole e 15 list_words k (omega (arith, ap length y, with_own)) (ap length q ∙ lists_long t.small t.obey)
        ∙ rw (y, q)

  -- and so in its desk, from its first number b on
  pub desk_written : (d : List ℕ) (p b : ℕ) (k : List ℕ) → length d ≡ desk_words → p < place_count → b ≡ base p
      → a.at.0 + a.size ≤ core_most → lists_obey a ios tables ≡ true
      → k ≡ opened_place r a ios tables (take (b + place_words - b) (drop b d))
      → take b d ++ (k ++ drop (b + place_words - b) (drop b d)) ≡ opened_desk d p r a ios tables
  unfolding opened_desk place_in
  desk_written d p b k n h e small obey q =
      lent-whole d b place_words k (omega arith)
      (ap length q ∙ opened-length (take (b + place_words - b) (drop b d)) (place-long d p b n h e) small obey)
      ∙ rw (q, range-lent d b place_words, e)

-- ---- the answers
module _ (d core : List ℕ) (r : ℕ) (a : Area) (ios tables : List ℕ) where
  pub grant_denied : (f : Fault) → Err f ≡ numbered (place_refusal r (holders d)) → Meets (grant_of d core r a ios tables) (Refused f) d core
  unfolding grant_of
  grant_denied f q =
      let k = not_passed (place_refusal r (holders d)) f q in
      rw (k.0, ne_eqb (place_refusal r (holders d)) 0 k.1) (record { told = refl; desk_left = refl; core-left = refl })

  module _ (f : place_refusal r (holders d) ≡ 0) where
    pub grant_outside : area_fits d r a ≡ false → Meets (grant_of d core r a ios tables) (Refused (fault 7)) d core
    unfolding grant_of
    grant_outside q = rw (f, q) (record { told = refl; desk_left = refl; core-left = refl })

    module _ (g : area_fits d r a ≡ true) where
      pub grant_unlisted : lists_obey a ios tables ≡ false → Meets (grant_of d core r a ios tables) (Refused (fault 8)) d core
      unfolding grant_of
      grant_unlisted q = rw (f, g, q) (record { told = refl; desk_left = refl; core-left = refl })

      pub grant_given : (p : ℕ) (e k : List ℕ) → lists_obey a ios tables ≡ true → p ≡ lowest_free (holders d)
          → e ≡ opened_desk d p r a ios tables → k ≡ cleared core a.at.0 a.size
          → Meets (grant_of d core r a ios tables) (Opened p) e k
      unfolding grant_of opened
      grant_given p e k q y x z = rw (f, g, q, ← y) (record { told = refl; desk_left = x; core-left = z })
