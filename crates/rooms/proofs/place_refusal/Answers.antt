-- `rooms::place_refusal` meets its contract: each way out by the tests on its way.
use Rattle.std.proofs.Common.{sym}
use Rattle.word.proofs.Tests.{tests}
use Rattle.rooms.specs.Rooms.{place_refusal}
use Rattle.rooms.proofs.place_refusal.Goals.{else-n-eq1-via-then-n-eq1+else-free_places-idle_rooms, else-n-eq1-via-else-n-eq1}
use Rattle.rooms.proofs.place_refusal.Goals as goal

pub returns-then-n-ge-MOST_HELD : goal.returns-then-n-ge-MOST_HELD
unfolding place_refusal
returns-then-n-ge-MOST_HELD c = search (tests, sym c.held_by-n.ensures)

pub returns-then-free_places-idle_rooms : goal.returns-then-free_places-idle_rooms
unfolding place_refusal
returns-then-free_places-idle_rooms c =
    search (tests, sym c.idle_rooms.ensures, sym c.free_places.ensures, sym c.held_by-n.ensures)

pub returns : goal.returns
unfolding place_refusal
returns c = elim c.else-n-eq1.branch [
  | else-n-eq1-via-then-n-eq1+else-free_places-idle_rooms w ↦
      search (tests, sym w.idle_rooms.ensures, sym w.free_places.ensures, sym c.held_by-n.ensures)
  | else-n-eq1-via-else-n-eq1 w ↦ search (tests, sym c.held_by-n.ensures)
]
