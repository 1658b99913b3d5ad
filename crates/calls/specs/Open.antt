-- "Open takes a room, an area (address and size) and two lists .. It gives the lowest free place, sets each word of the area to
-- zero, and copies the lists." Refusals 1, 2, 4, 5, 6, 7 and 8, in that order.
use Rattle.std.specs.Prelude.{ℕ, ◌+◌, ◌<◌, ◌≡◌, Bool, ◌&&◌, ◌||◌, not, List, ◌∷◌, length, get_or, eqb}
use Rattle.word.specs.Lists.{every, splice, cleared}
use Rattle.word.specs.Runs.{apart}
use Rattle.word.specs.Limits.{room_count}
use Rattle.word.specs.Fault.{unless}
use Rattle.word.specs.declared.Area.{Area}
use Rattle.map.specs.Map.{map_of, none}
use Rattle.rooms.specs.Rooms.{place_refusal, lowest_free}
use Rattle.lists.specs.declared.Given.{Given}
use Rattle.lists.specs.Obey.{lists_obey}
use Rattle.lists.specs.Load.{given_by, kept_lists, Keepable}
use Rattle.stage.specs.Stage.{numbers_of}
use Rattle.stage.specs.declared.Stage.TheVariants.{Label}
use Rattle.layout.specs.Layout.{place_words, lists_at, map_numbers, base, place_in, places, holder_of, own_of, lists_in, holders}
use Rattle.desk.specs.Sound.{area_in}
use Rattle.calls.specs.declared.Answer.TheVariants.{Opened}
use Rattle.calls.specs.Outcome.{Outcome, refused}
use Rattle.calls.specs.Entry.{entered}

-- the area shares no word with one that the room holds
unfoldable pub beside_own : ℕ → Area → List ℕ → Bool
beside_own r a l =
    not (eqb (holder_of l) (r + 1)) || apart (own_of l).given.area.at.0 (own_of l).given.area.size a.at.0 a.size

-- refusal 7 is not given: "area empty, not inside the room's stretch, or sharing a word with one the room holds"
unfoldable pub area_fits : List ℕ → ℕ → Area → Bool
area_fits d r a = area_in (get_or (map_of (map_numbers d)) r none) a && every (beside_own r a) (places d)

-- the numbers of a place just opened, before its lists: the holder, what the load was given, and the stage of one that waits for
-- its label
unfoldable pub opened_own : ℕ → Given → List ℕ
opened_own r g =
    (r + 1)
    ∷ g.area.at.0
    ∷ g.area.size
    ∷ g.io
    ∷ g.tables
    ∷ g.kept
    ∷ numbers_of Label

-- a place, whose numbers were l, with these numbers and the lists copied; what stands past each list is as it was
unfoldable pub opened_place : ℕ → Area → List ℕ → List ℕ → List ℕ → List ℕ
opened_place r a ios tables l =
    splice (splice l
    0 (opened_own r (given_by a ios tables)))
    lists_at (kept_lists ios tables (lists_in l))

-- place p so
unfoldable pub opened_desk : List ℕ → ℕ → ℕ → Area → List ℕ → List ℕ → List ℕ
opened_desk d p r a ios tables = splice d (base p) (opened_place r a ios tables (place_in d p))

-- the place is given, and each word of the area set to zero
unfoldable pub opened : List ℕ → List ℕ → ℕ → Area → List ℕ → List ℕ → Outcome
opened d core r a ios tables = record {
  answer = Opened (lowest_free (holders d));
  desk = opened_desk d (lowest_free (holders d)) r a ios tables;
  core = cleared core a.at.0 a.size;
}

-- from refusal 5 on
unfoldable pub grant_of : List ℕ → List ℕ → ℕ → Area → List ℕ → List ℕ → Outcome
grant_of d core r a ios tables =
    unless (eqb (place_refusal r (holders d)) 0) (refused (place_refusal r (holders d)) d core)
    (unless (area_fits d r a) (refused 7 d core)
    (unless (lists_obey a ios tables) (refused 8 d core)
    (opened d core r a ios tables)))

unfoldable pub open_of : List ℕ → List ℕ → ℕ → Area → List ℕ → List ℕ → Outcome
open_of d core r a ios tables = entered d (length core) r core (grant_of d core r a ios tables)

-- what has been seen to before the numbers of a place are written: words are those that are kept for the tables
pub record WriteReady (r : ℕ) (a : Area) (ios tables words place : List ℕ) : Type 0 where
  pub long : length place ≡ place_words
  pub room : r < room_count
  pub lists : Keepable a ios tables words (lists_in place)
