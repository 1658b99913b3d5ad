-- Demand 3, of each place: where the holders are those that the grants and releases tell, open gives the lowest free place, release
-- is answered by them, and a feed of a place that the room does not hold is refused with 9.
use Prim.Native.Nat.{ℕ, ◌+◌, ◌<◌}
use mathlib.Core.Path.{◌≡◌, refl, sym, ap, ◌∙◌}
use mathlib.Core.Bool.{true, false, false≢true}
use mathlib.Core.List.{List, []}
use mathlib.Core.Logic.{⊎_elim}
use native.Mathlib.Omega.{arith}
use lib.ListN.{length, get_or, get_or-eq_default}
use borrow.Author.Tests.{eq-eqb, ne_eqb, lt-ltb, le-ltb}
use Rattle.word.specs.Fault.{fault}
use Rattle.word.specs.Limits.{place_count, room_count}
use Rattle.word.proofs.Cases.{by-lt}
use Rattle.rooms.specs.Rooms.{lowest_free}
use Rattle.layout.specs.Layout.{core_length, holder_in, holders, holds}
use Rattle.layout.proofs.Places.{length-holders, get_d_holders}
use Rattle.desk.specs.Sound.{sound}
use Rattle.calls.specs.Answer.{value_of}
use Rattle.calls.specs.declared.Answer.TheVariants.{Refused, Opened, Released}
use Rattle.calls.specs.Outcome.{Outcome}
use Rattle.calls.specs.Entry.{Entered}
use Rattle.calls.specs.Open.{opened}
use Rattle.calls.specs.Release.{release_of}
use Rattle.calls.proofs.Entry.{entered_on}
use Rattle.feed.specs.Feed.{feed_of}
use Rattle.demands.specs.History.{answer_to}
use Rattle.demands.specs.Opening.{Asked, open_answer}
use Rattle.demands.specs.Grants.{is_opened, says_made}
use Rattle.demands.specs.Demands.{PlacesHeld}
use Rattle.demands.proofs.Outcomes.{open_sorted}

module _ (d : List ℕ) (ok : sound d ≡ true) (r : ℕ) (room : r < room_count) where
  abbrev l : List ℕ
  l = holders d

  past_free : (p : ℕ) → get_or l p 0 ≡ r + 1 → p < place_count
  past_free p e =
      by-lt p place_count (λ h. h)
      (λ h. absurd (omega (arith, sym (get_or-eq_default l 0 (omega (arith, length-holders d))) ∙ e)))

  is_held : (p : ℕ) → get_or l p 0 ≡ r + 1 → holds d r p ≡ true
  unfolding holds
  is_held p e =
      let h = past_free p e in
      rw (lt-ltb p place_count h, eq-eqb (holder_in d p) (r + 1) (sym (get_d_holders d p h) ∙ e))

  not-held : (p : ℕ) → (get_or l p 0 ≡ r + 1 → ⊥) → holds d r p ≡ false
  unfolding holds
  not-held p n =
      by-lt p place_count
      (λ h. rw (lt-ltb p place_count h, ne_eqb (holder_in d p) (r + 1) (λ e. n (get_d_holders d p h ∙ e))))
      (λ h. rw (le-ltb p place_count h))

  enters : Entered d (core_length d) r
  enters = record { desk = ok; core = refl; room = room }

  lowest : (q : Asked) (p : ℕ) → open_answer d r q ≡ Opened p → p ≡ lowest_free l
  unfolding answer_to opened
  lowest q p e =
      ⊎_elim
      (λ x. absurd (false≢true (ap (λ (o : Outcome). is_opened o.answer) (sym x.1) ∙ ap is_opened e)))
      (λ x. sym (ap value_of e) ∙ ap (λ (o : Outcome). value_of o.answer) x.1)
      (open_sorted d q.core r q.area q.ios q.tables)

  release_held : (p : ℕ) → get_or l p 0 ≡ r + 1 → (release_of d (core_length d) r p).answer ≡ Released
  unfolding release_of
  release_held p e =
      ap (λ (o : Outcome). o.answer) (entered_on d (core_length d) r [] _ enters) ∙ rw (is_held p e)

  release_other : (p : ℕ) → (get_or l p 0 ≡ r + 1 → ⊥) → (release_of d (core_length d) r p).answer ≡ Refused (fault 9)
  unfolding release_of
  release_other p n =
      ap (λ (o : Outcome). o.answer) (entered_on d (core_length d) r [] _ enters) ∙ rw (not-held p n)

  feed_other : (p : ℕ) (block core : List ℕ) → length core ≡ core_length d → (get_or l p 0 ≡ r + 1 → ⊥)
      → (feed_of d core r p block).answer ≡ Refused (fault 9)
  unfolding feed_of
  feed_other p block core e n =
      ap (λ (o : Outcome). o.answer) (entered_on d (length core) r core _ (record { desk = ok; core = e; room = room }))
      ∙ rw (not-held p n)

  pub places-held : PlacesHeld (holders d) (says_made d) d r
  unfolding answer_to
  places-held = record { lowest = lowest; released = release_held; not_released = release_other; not-fed = feed_other }
