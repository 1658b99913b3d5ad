-- Demand 3, of the rooms: whatever happens after a desk was made, the grants and releases give each room what it holds by the desk,
-- and so F, H and refusals 5 and 6.
use Prim.Native.Nat.{ℕ, ◌+◌, ◌≤◌, ◌<◌}
use mathlib.Core.Path.{◌≡◌, refl, sym, ap, ◌∙◌}
use mathlib.Core.Bool.{true, false≢true}
use mathlib.Core.List.{List, [], ◌∷◌}
use mathlib.Core.Logic.{⊎_elim}
use native.Mathlib.Omega.{arith}
use lib.ListN.{length, get_or}
use lib.Dec.{eqb}
use borrow.Author.Tests.{ne_eqb}
use Rattle.word.specs.Limits.{room_count, place_count}
use Rattle.word.specs.Fault.{fault}
use Rattle.word.specs.Lists.{every}
use Rattle.word.specs.declared.Area.{Area}
use Rattle.word.proofs.Cases.{and_both, both}
use Rattle.word.proofs.Every.{every_by}
use Rattle.map.specs.Map.{map_of, none}
use Rattle.rooms.specs.Rooms.{free, held, idle, all_free, Fair, lowest_free, place_refusal}
use Rattle.rooms.proofs.Count.{count_some}
use Rattle.rooms.proofs.Rooms.{none_denied}
use Rattle.lists.specs.Obey.{lists_obey}
use Rattle.layout.specs.Layout.{core_length, map_numbers, place_in, places, holder_of, holders}
use Rattle.layout.proofs.Places.{holder_at_lem, length-holders, get_d_holders, holds-inside, holds_holder}
use Rattle.desk.specs.Sound.{area_in, sound}
use Rattle.desk.proofs.Facts.{sound-fair}
use Rattle.desk.proofs.Tested.{places-length, places-at}
use Rattle.calls.specs.Answer.{code_of}
use Rattle.calls.specs.declared.Answer.{Answer}
use Rattle.calls.specs.declared.Answer.TheVariants.{Refused, Made, Opened, Released}
use Rattle.calls.specs.Outcome.{Outcome}
use Rattle.calls.specs.Open.{beside_own, area_fits, opened, grant_of, open_of}
use Rattle.calls.specs.Release.{release_of}
use Rattle.calls.proofs.Entry.{entered_on, entered-cases}
use Rattle.calls.proofs.Made.{make-sound}
use Rattle.demands.specs.Orders.{run}
use Rattle.demands.specs.History.{State, Call, answer_to, call, Event, lent, event, Told, told, is_released}
use Rattle.demands.specs.History.Call.{Make}
use Rattle.demands.specs.History.Event.{Here, Elsewhere, OutsideStore}
use Rattle.demands.specs.Grants.{through, held_then, held_by, free_places, idle_rooms, holders_then, holders_by, made_then, says_made}
use Rattle.demands.specs.Opening.{Asked, open_answer, Refuses}
use Rattle.demands.specs.Demands.{PlacesGiven, Demand3Rooms}
use Rattle.demands.proofs.Counting.{free-told, idle-told, place-free, gives_five, gives_six, given_five, given_six}
use Rattle.demands.proofs.Granted.{call-counts}
use Rattle.demands.proofs.Outcomes.{release_sorted}
use Rattle.demands.proofs.Ready.{event-sound}
use Rattle.demands.proofs.Holding.{places-held}

-- ---- what the desk says of something is what comes of it through the calls, where each call leaves it so
module _ {A : Type 0} (step : A → Call → Answer → A) (says : List ℕ → A)
    (law : (c : Call) (s : State) → says (call c s).desk ≡ step (says s.desk) c (answer_to c s)) where
  run_through : (es : List Event) (s : State) → through step (says s.desk) (told es s) ≡ says (run event es s).desk
  unfolding run told event through
  run_through [] s = refl
  run_through (Here c ∷ es) s = ap (λ (w : A). through step w (told es (call c s))) (sym (law c s)) ∙ run_through es (call c s)
  run_through (Elsewhere other c ∷ es) s =
      let t = event (Elsewhere other c) s in
      ap (λ (w : A). through step w (told es t)) (sym (law c (lent other s))) ∙ run_through es t
  run_through (OutsideStore j v ∷ es) s = run_through es (event (OutsideStore j v) s)

run_sound : (es : List Event) (s : State) → sound s.desk ≡ true → sound (run event es s).desk ≡ true
unfolding run
run_sound [] s k = k
run_sound (e ∷ es) s k = run_sound es (event e s) (event-sound e s k)

-- ---- refusals 5 and 6 of open are those of the holders
module _ (d : List ℕ) (ok : sound d ≡ true) (r : ℕ) (room : r < room_count) (q : Asked) where
  abbrev Tells : ℕ → Outcome → Type 0
  Tells n o = o.answer ≡ Refused (fault n) → place_refusal r (holders d) ≡ n

  refused_so : (n : ℕ) → 5 ≤ n → n < 7 → Refuses d r q n → place_refusal r (holders d) ≡ n
  unfolding answer_to open_of grant_of opened
  refused_so n l h =
      entered-cases d (length q.core) r q.core _ (Tells n) (λ m i j e. absurd (omega (arith, ap code_of e)))
      (λ k. both (Tells n) (eqb (place_refusal r (holders d)) 0)
      (both (Tells n) (area_fits d r q.area)
      (both (Tells n) (lists_obey q.area q.ios q.tables)
      (λ e. absurd (omega (arith, ap code_of e)))
      (λ e. absurd (omega (arith, ap code_of e))))
      (λ e. absurd (omega (arith, ap code_of e))))
      (λ e. ap code_of e))

  so_refused : length q.core ≡ core_length d → (n : ℕ) → 0 < n → place_refusal r (holders d) ≡ n → Refuses d r q n
  unfolding answer_to open_of grant_of
  so_refused long n h e =
      ap (λ (o : Outcome). o.answer)
      (entered_on d (length q.core) r q.core _ (record { desk = ok; core = long; room = room }))
      ∙ rw (e, ne_eqb n 0 (λ z. omega arith))

-- ---- a room that holds nothing: nothing of its own is in the way of an area in its stretch
module _ (d : List ℕ) (r : ℕ) (none-held : held r (holders d) ≡ 0) where
  not_own : (p : ℕ) → p < place_count → holder_of (place_in d p) ≡ r + 1 → ⊥
  unfolding held
  not_own p h e =
      omega (
        arith,
        none-held,
        count_some (r + 1) (holders d) p (omega (arith, length-holders d))
            (get_d_holders d p h ∙ holder_at_lem d p ∙ e),
      )

  all_beside : (a : Area) → every (beside_own r a) (places d) ≡ true
  unfolding beside_own
  all_beside a =
      every_by [] (beside_own r a) (places d)
      (λ p h. let k : p < place_count = omega (arith, places-length d) in
      rw (places-at d p k, ne_eqb (holder_of (place_in d p)) (r + 1) (not_own p k)))

  area-fits : (a : Area) → area_in (get_or (map_of (map_numbers d)) r none) a ≡ true → area_fits d r a ≡ true
  unfolding area_fits
  area-fits a q = and_both (area_in (get_or (map_of (map_numbers d)) r none) a) (every (beside_own r a) (places d)) q (all_beside a)

  gives-place : sound d ≡ true → r < room_count → (q : Asked) → length q.core ≡ core_length d
      → area_in (get_or (map_of (map_numbers d)) r none) q.area ≡ true → lists_obey q.area q.ios q.tables ≡ true
      → open_answer d r q ≡ Opened (lowest_free (holders d))
  unfolding answer_to open_of grant_of opened
  gives-place ok room q long fits obeys =
      ap (λ (o : Outcome). o.answer)
      (entered_on d (length q.core) r q.core _ (record { desk = ok; core = long; room = room }))
      ∙ rw (none_denied (holders d) r none-held, area-fits q.area fits, obeys)

-- ---- a place is given back by a room that holds it
gives_back : (d : List ℕ) (k r p : ℕ) → (release_of d k r p).answer ≡ Released → 1 ≤ held r (holders d)
unfolding held
gives_back d k r p e =
    ⊎_elim
    (λ x. absurd (false≢true (ap (λ (o : Outcome). is_released o.answer) (sym x.1) ∙ ap is_released e)))
    (λ x. let i = holds-inside d r p x.1 in
    count_some (r + 1) (holders d) p (omega (arith, length-holders d)) (get_d_holders d p i ∙ holds_holder d r p x.1))
    (release_sorted d k r p)

-- ---- what the counts say, where they are the desk's
module _ (ts : List Told) (d : List ℕ) (ok : sound d ≡ true) (agree : (r : ℕ) → held_by r ts ≡ held r (holders d)) (r : ℕ)
    (room : r < room_count) where
  abbrev l : List ℕ
  l = holders d

  fair : Fair l
  fair = sound-fair d ok

  free_is : free_places ts ≡ free l
  free_is = free-told ts l agree fair

  idle_is : idle_rooms ts ≡ idle l
  idle_is = idle-told ts l agree

  places-given : PlacesGiven ts (says_made d) d r
  places-given = record {
    served = λ q z.
        let none : held r l ≡ 0 = sym (agree r) ∙ z in
        let never : (n : ℕ) → 5 ≤ n → n < 7 → Refuses d r q n → ⊥ =
        λ n i h e. omega (arith, none_denied l r none, refused_so d ok r room q n i h e) in (
          omega (arith, free_is, place-free l r fair room none),
          never 5 (omega arith) (omega arith),
          never 6 (omega arith)
              (omega arith),
        );
    five = λ q e.
        omega (arith, agree r, fair.two r room, given_five r l (refused_so d ok r room q 5 (omega arith) (omega arith) e));
    five_given = λ q n z. so_refused d ok r room q n 5 (omega arith) (gives_five r l (sym (agree r) ∙ z));
    six = λ q e.
        let k = given_six r l (refused_so d ok r room q 6 (omega arith) (omega arith) e) in
        (agree r ∙ k.0, omega (arith, free_is, idle_is, k.1));
    six_given = λ q n z k.
        so_refused d ok r room q n 6 (omega arith) (gives_six r l (sym (agree r) ∙ z) (omega (arith, free_is, idle_is)));
    most = omega (arith, agree r, fair.two r room);
    given = λ q n z fits obeys. (lowest_free l, gives-place d r (sym (agree r) ∙ z) ok room q n fits obeys);
    freed = unfold answer_to in (λ k p e. omega (arith, agree r, gives_back d k r p e));
  }

-- ---- whatever happens after a desk was made
module _ (s : State) (n : ℕ) (m : List ℕ) (es : List Event) (made : answer_to (Make n m) s ≡ Made) where
  abbrev fresh : State
  fresh = call (Make n m) s

  fresh-sound : sound fresh.desk ≡ true
  unfolding answer_to call
  fresh-sound = make-sound s.desk n m made

  fresh_made : says_made fresh.desk ≡ record { core = n; map = m }
  fresh_made = (call-counts (Make n m) s).made ∙ rw made

  fresh-held : (r : ℕ) → held r (holders fresh.desk) ≡ 0
  fresh-held r = (call-counts (Make n m) s).rooms r ∙ rw made

  counted-held : (r : ℕ) → held_by r (told es fresh) ≡ held r (holders (run event es fresh).desk)
  counted-held r =
      rw (fresh-held r) at (run_through (held_then r) (λ d. held r (holders d)) (λ c t. (call-counts c t).rooms r) es fresh)

  counted_made : through made_then (record { core = n; map = m }) (told es fresh) ≡ says_made (run event es fresh).desk
  counted_made = rw fresh_made at (run_through made_then says_made (λ c t. (call-counts c t).made) es fresh)

  fresh-free : holders fresh.desk ≡ all_free
  fresh-free = (call-counts (Make n m) s).places ∙ rw made

  counted-holders : holders_by (told es fresh) ≡ holders (run event es fresh).desk
  counted-holders = rw fresh-free at (run_through holders_then holders (λ c t. (call-counts c t).places) es fresh)

pub demand_3_rooms : Demand3Rooms
demand_3_rooms s n m es r made room ts w desk is-ts is-w is-desk =
    let t = call (Make n m) s in
    let ok = run_sound es t (fresh-sound s n m es made) in
    rw (is-w, is-desk, is-ts, counted_made s n m es made, counted-holders s n m es made) (
      places-given (told es t) (run event es t).desk ok (counted-held s n m es made) r room,
      places-held
          (run event es t).desk ok r room,
    )
