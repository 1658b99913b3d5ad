-- What open leaves: a place that holds the load as it was lent, which waits for its label; an area of zeros; and every other load
-- as it was.
use Prim.Native.Nat.{ℕ, ◌+◌, ◌≤◌, ◌<◌}
use mathlib.Core.Path.{◌≡◌, ap}
use mathlib.Core.Bool.{true}
use mathlib.Core.List.{List}
use lib.ListN.{length}
use Rattle.word.specs.Limits.{room_count, core_most}
use Rattle.word.specs.declared.Area.{Area}
use Rattle.rooms.specs.Rooms.{place_refusal, lowest_free}
use Rattle.lists.specs.Obey.{tables_of, lists_obey}
use Rattle.stage.specs.declared.Stage.TheVariants.{Label}
use Rattle.layout.specs.declared.Place.{Place}
use Rattle.layout.specs.Layout.{place_words, place_in, holder_of, stage_in, holders}
use Rattle.desk.specs.Sound.{sound}
use Rattle.calls.specs.Open.{area_fits, opened_place, opened_desk}
use Rattle.calls.proofs.Grant.{area_small}
use Rattle.calls.proofs.Opened.{holder_opened, own_opened, stage-opened, load-opened, old-length, opened_replaced}
use Rattle.feed.specs.Feed.{load_in}
use Rattle.demands.proofs.Held.{area_of}

-- ---- open where it is granted
module _ (d : List ℕ) (s : sound d ≡ true) (r : ℕ) (a : Area) (ios tables : List ℕ) (room : r < room_count)
    (given : place_refusal r (holders d) ≡ 0)
    (fit : area_fits d r a ≡ true) (obey : lists_obey a ios tables ≡ true) where
  abbrev place : ℕ
  place = lowest_free (holders d)

  abbrev after : List ℕ
  after = opened_desk d place r a ios tables

  abbrev old : List ℕ
  old = place_in d place

  is_new : place_in after place ≡ opened_place r a ios tables old
  is_new = (opened_replaced d s r a ios tables room given fit obey).here

  long : length old ≡ place_words
  long = old-length d s r a ios tables room given fit obey

  small : a.at.0 + a.size ≤ core_most
  small = area_small d s r a room fit

  pub opened-load : load_in (place_in after place) ≡ record { area = a; tables = tables_of tables; ios = ios }
  unfolding load_in
  opened-load = rw is_new (load-opened r a ios tables old long small obey)

  pub opened-stage : stage_in (place_in after place) ≡ Label
  opened-stage = rw is_new (stage-opened r a ios tables old long small obey)

  pub opened_holder : holder_of (place_in after place) ≡ r + 1
  opened_holder = rw is_new (holder_opened r a ios tables old long small obey)

  pub opened-area : area_of (place_in after place) ≡ a
  opened-area = rw is_new (ap (λ (o : Place). o.given.area) (own_opened r a ios tables old long small obey))
