-- Of a load that is held, open leaves the view as it was, and so does every release but its own room's.
use Prim.Native.Nat.{ℕ, ◌+◌}
use mathlib.Core.Path.{◌≡◌, refl, sym, ap, ◌∙◌}
use mathlib.Core.Bool.{true, false, ◌&&◌, true≢false}
use mathlib.Core.List.{List}
use mathlib.Core.Logic.{⊎_elim}
use native.Mathlib.Omega.{arith}
use lib.Dec.{eqb}
use borrow.Author.Tests.{eq-eqb}
use Rattle.word.specs.declared.Area.{Area}
use Rattle.word.proofs.Stretch.{length-cleared, get_d_cleared_beside}
use Rattle.rooms.specs.Rooms.{lowest_free}
use Rattle.layout.specs.Layout.{place_in, holder_of, holders, holds}
use Rattle.layout.proofs.Places.{holder_at_lem, holds-inside}
use Rattle.desk.specs.Sound.{sound}
use Rattle.desk.proofs.Facts.{sound-long}
use Rattle.calls.specs.declared.Answer.TheVariants.{Released}
use Rattle.calls.specs.Outcome.{Outcome}
use Rattle.calls.specs.Open.{opened_desk, opened}
use Rattle.calls.specs.Release.{release_of}
use Rattle.calls.proofs.Opened.{given-free, opened_replaced, opened-sound}
use Rattle.calls.proofs.Freed.{freed_other}
use Rattle.demands.specs.History.{State, answer_to, call, is_released}
use Rattle.demands.specs.History.Call.{Open, Release}
use Rattle.demands.proofs.Prepared.{Prepared}
use Rattle.demands.proofs.Held.{held_by_lem, held-apart}
use Rattle.demands.proofs.Views.{view, view_by, outside_beside}
use Rattle.demands.proofs.Reach.{left_by}
use Rattle.demands.proofs.Loaded.{opened_holder, opened-area}
use Rattle.demands.proofs.Outcomes.{Granted, open_sorted, release_sorted}
use Rattle.demands.proofs.Ready.{area-inside}

-- ---- open where it is granted
module _ (s : State) (r : ℕ) (a : Area) (ios tables : List ℕ) (g : Granted s.desk s.core r a ios tables) where
  abbrev place : ℕ
  place = lowest_free (holders s.desk)

  abbrev after : List ℕ
  after = opened_desk s.desk place r a ios tables

  after-sound : sound after ≡ true
  after-sound = opened-sound s.desk g.desk r a ios tables g.room g.given g.fit g.obey

  pub granted_ready : Prepared (left_by (opened s.desk s.core r a ios tables))
  unfolding opened
  granted_ready =
      let w = opened_replaced s.desk g.desk r a ios tables g.room g.given g.fit g.obey in record {
        desk = after-sound;
        core = length-cleared s.core _ _ (area-inside s r a ios tables g) ∙ g.long ∙ sym w.core;
      }

  -- the place that is given was free, and the new area shares no word with one that is held
  module _ (q : ℕ) (held : holder_of (place_in s.desk q) ≡ 0 → ⊥) where
    other_place : q ≡ place → ⊥
    other_place e =
        held (rw e (sym (holder_at_lem s.desk place)
        ∙ given-free s.desk g.desk r a ios tables g.room g.given g.fit g.obey))

    same_place : place_in after q ≡ place_in s.desk q
    same_place = (opened_replaced s.desk g.desk r a ios tables g.room g.given g.fit g.obey).others q other_place

    granted_view : view q (left_by (opened s.desk s.core r a ios tables)) ≡ view q s
    unfolding opened
    granted_view =
        let h = opened_holder s.desk g.desk r a ios tables g.room g.given g.fit g.obey in
        let o = opened-area s.desk g.desk r a ios tables g.room g.given g.fit g.obey in
        let sep = held-apart after after-sound q place other_place (rw same_place held) (λ z. omega arith) in
        view_by s _ q same_place (length-cleared s.core _ _ (area-inside s r a ios tables g))
        (λ z j x y. get_d_cleared_beside s.core _ _ j (area-inside s r a ios tables g)
        (outside_beside j _ _ (λ u v. (rw (same_place, o) at sep) j x y u v)))

module _ (r : ℕ) (a : Area) (ios tables : List ℕ) (s : State) where
  pub open_view : (q : ℕ) → (holder_of (place_in s.desk q) ≡ 0 → ⊥) → view q (call (Open r a ios tables) s) ≡ view q s
  unfolding call
  open_view q h =
      ⊎_elim
      (λ x. ap (λ (o : Outcome). view q (left_by o)) x.1)
      (λ x. ap (λ (o : Outcome). view q (left_by o)) x.1 ∙ granted_view s r a ios tables x.0 q h)
      (open_sorted s.desk s.core r a ios tables)

-- ---- release, of room q and place k
module _ (n q k : ℕ) (s : State) where
  abbrev without : Outcome → State
  without o = record { desk = o.desk; core = s.core }

  -- a load of room r at place p, which is not given back
  module _ (r p : ℕ) (held : holder_of (place_in s.desk p) ≡ r + 1)
      (stays : (eqb q r && (eqb k p && is_released (answer_to (Release n q k) s))) ≡ false) where
    not-freed : (holds s.desk q k ≡ true) → (release_of s.desk n q k).answer ≡ Released → p ≡ k → ⊥
    unfolding answer_to
    not-freed h e z =
        let i : holder_of (place_in s.desk k) ≡ r + 1 = rw z at held in
        let j : q ≡ r = omega (arith, held_by_lem s.desk q k h) in
        true≢false (rw (eq-eqb q r j, eq-eqb k p (sym z), e) at stays)

    pub release_view : view p (call (Release n q k) s) ≡ view p s
    unfolding call
    release_view =
        ⊎_elim
        (λ x. ap (λ (o : Outcome). view p (without o)) x.1)
        (λ x. ap (λ (o : Outcome). view p (without o)) x.2
        ∙ view_by s _ p (freed_other s.desk (sound-long s.desk x.0) k (holds-inside s.desk q k x.1) p
        (not-freed x.1 (ap (λ (o : Outcome). o.answer) x.2))) refl (λ z j a b. refl))
        (release_sorted s.desk n q k)
