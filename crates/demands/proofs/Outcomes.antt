-- What each call comes to: it is refused and changes nothing, or it does what it was asked to.
use Prim.Native.Nat.{ℕ, ◌<◌}
use mathlib.Core.Path.{◌≡◌, refl}
use mathlib.Core.Bool.{true, false}
use mathlib.Core.List.{List, []}
use mathlib.Core.Logic.{◌⊎◌, inl, inr}
use lib.ListN.{length, set}
use lib.Dec.{eqb}
use borrow.Author.Tests.{eqb-true}
use Rattle.word.specs.Limits.{room_count, map_words}
use Rattle.word.specs.declared.Area.{Area}
use Rattle.word.specs.declared.Fault.{Fault}
use Rattle.word.proofs.Cases.{both, when}
use Rattle.map.specs.Map.{map_of, map_obeys}
use Rattle.rooms.specs.Rooms.{place_refusal}
use Rattle.lists.specs.Obey.{lists_obey}
use Rattle.stage.specs.Record.{is_over}
use Rattle.layout.specs.Layout.{desk_words, base, core_length, place_in, stage_in, holders, holds}
use Rattle.desk.specs.Sound.{core_fits, sound}
use Rattle.calls.specs.declared.Answer.TheVariants.{Refused, Made, Released}
use Rattle.calls.specs.Outcome.{Outcome}
use Rattle.calls.specs.Make.{make_of}
use Rattle.calls.specs.Open.{area_fits, opened, grant_of, open_of}
use Rattle.calls.specs.Release.{release_of}
use Rattle.calls.proofs.Entry.{entered-cases}
use Rattle.feed.specs.Feed.{taken_of, feed_of, load_in}
use Rattle.feed.proofs.Fed.{feed_outcomes}

abbrev pub Denies : List ℕ → List ℕ → Outcome → Type 0
Denies d core o = (f : Fault) × (o ≡ record { answer = Refused f; desk = d; core = core })

-- ---- make
module _ (d : List ℕ) (n : ℕ) (m : List ℕ) where
  abbrev Makes : Outcome → Type 0
  Makes o = Denies d [] o ⊎ (o.answer ≡ Made)

  pub make-sorted : Makes (make_of d n m)
  unfolding make_of
  make-sorted =
      both Makes (eqb (length d) desk_words)
      (both Makes (core_fits n)
      (both Makes (eqb (length m) map_words)
      (both Makes (map_obeys n (map_of m)) (inr refl) (inl (_, refl))) (inl (_, refl))) (inl (_, refl))) (inl (_, refl))

-- ---- open: it is granted
pub record Granted (d core : List ℕ) (r : ℕ) (a : Area) (ios tables : List ℕ) : Type 0 where
  pub desk : sound d ≡ true
  pub long : length core ≡ core_length d
  pub room : r < room_count
  pub given : place_refusal r (holders d) ≡ 0
  pub fit : area_fits d r a ≡ true
  pub obey : lists_obey a ios tables ≡ true

module _ (d core : List ℕ) (r : ℕ) (a : Area) (ios tables : List ℕ) where
  abbrev Sorted : Outcome → Type 0
  Sorted o = Denies d core o ⊎ (Granted d core r a ios tables × (o ≡ opened d core r a ios tables))

  grant_sorted : sound d ≡ true → length core ≡ core_length d → r < room_count → Sorted (grant_of d core r a ios tables)
  unfolding grant_of
  grant_sorted s e h =
      when Sorted (eqb (place_refusal r (holders d)) 0)
      (λ f. when Sorted (area_fits d r a)
      (λ g. when Sorted (lists_obey a ios tables)
      (λ l. inr (record { desk = s; long = e; room = h; given = eqb-true _ 0 f; fit = g; obey = l }, refl))
      (λ l. inl (_, refl))) (λ g. inl (_, refl))) (λ f. inl (_, refl))

  pub open_sorted : Sorted (open_of d core r a ios tables)
  unfolding open_of
  open_sorted =
      entered-cases d (length core) r core _ Sorted (λ m l h. inl (_, refl)) (λ k. grant_sorted k.desk k.core k.room)

-- ---- feed: it takes the block
module _ (d core : List ℕ) (r p : ℕ) (block : List ℕ) where
  abbrev Takings : Outcome → Type 0
  Takings o =
      Denies d core o
      ⊎ ((is_over (stage_in (place_in d p)) ≡ false) × (o ≡ taken_of d core p (load_in (place_in d p)) (stage_in (place_in d p)) block))

  pub feed-sorted : Takings (feed_of d core r p block)
  feed-sorted = feed_outcomes d core block r p Takings (λ n l h. inl (_, refl)) (λ s e h o l w. inr (o, refl))

-- ---- release: it frees a place that the room holds
module _ (d : List ℕ) (n r p : ℕ) where
  abbrev Frees : Outcome → Type 0
  Frees o =
      (Denies d [] o)
      ⊎ ((sound d ≡ true) × (holds d r p ≡ true) × (o ≡ record { answer = Released; desk = set d (base p) 0; core = [] }))

  pub release_sorted : Frees (release_of d n r p)
  unfolding release_of
  release_sorted =
      entered-cases d n r [] _ Frees (λ m l h. inl (_, refl))
      (λ k. when Frees (holds d r p) (λ q. inr (k.desk, q, refl)) (λ q. inl (_, refl)))
