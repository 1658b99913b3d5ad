-- What each call does to what a room holds: `opened` adds a place, `released` takes one, on a new desk there is none, and nothing
-- else changes it. And what it does to the core length and the map that the desk was made with.
use Prim.Native.Nat.{ℕ, ◌+◌, ◌-◌, ◌≤◌, ◌<◌}
use mathlib.Core.Path.{◌≡◌, refl, sym, ap, ◌∙◌}
use mathlib.Core.Bool.{Bool, true, false, cond}
use mathlib.Core.List.{List}
use mathlib.Core.Logic.{⊎_elim}
use native.Mathlib.Omega.{arith}
use lib.ListN.{length, get_or, set}
use lib.Dec.{eqb}
use borrow.Author.Tests.{eq-eqb, ne_eqb}
use Rattle.word.specs.declared.Area.{Area}
use Rattle.word.proofs.Cases.{by-eq}
use Rattle.stage.specs.declared.Stage.{Stage}
use Rattle.stage.specs.declared.Stage.TheVariants.{Complete, Broken}
use Rattle.stage.specs.Stage.{numbers_of}
use Rattle.stage.proofs.Back.{stage-length}
use Rattle.rooms.specs.Rooms.{hit, count, held, all_free, lowest_free}
use Rattle.rooms.proofs.Count.{hit_yes, hit_no, lowest_is_free}
use Rattle.rooms.proofs.Rooms.{held-set, given-place}
use Rattle.layout.specs.Layout.{stage_at, place_words, holders, holds}
use Rattle.layout.proofs.Places.{length-holders, get_d_holders, holders-kept, core-kept, map-kept, holds-inside, holds_holder}
use Rattle.desk.specs.Sound.{sound}
use Rattle.desk.proofs.Facts.{sound-long, sound-fair}
use Rattle.calls.specs.declared.Answer.{Answer}
use Rattle.calls.specs.Outcome.{Outcome}
use Rattle.calls.specs.Make.{make_of}
use Rattle.calls.specs.Open.{opened, open_of}
use Rattle.calls.specs.Release.{release_of}
use Rattle.calls.proofs.Freed.{freed-core, freed-map, freed-holders}
use Rattle.calls.proofs.Made.{make-core, make-map, make-holders}
use Rattle.calls.proofs.Opened.{opened_replaced, opened-holders}
use Rattle.feed.specs.Feed.{staged, feed_of}
use Rattle.feed.proofs.Fed.{feed-cases}
use Rattle.demands.specs.History.{State, Call, answer_to, call}
use Rattle.demands.specs.History.Call.{Make, Open, Feed, Release}
use Rattle.demands.specs.Grants.{held_then, holders_then, MadeWith, made_then, says_made}
use Rattle.demands.proofs.Outcomes.{Granted, make-sorted, open_sorted, release_sorted}

-- ---- a place changes hands: what room r holds by it
hit_room : (q r : ℕ) → hit (q + 1) (r + 1) ≡ cond (eqb q r) 1 0
hit_room q r = by-eq q r
    (λ z. rw (eq-eqb q r z) (hit_yes (q + 1) (r + 1) (omega arith)))
    (λ z. rw (ne_eqb q r z) (hit_no (q + 1) (r + 1) (λ y. z (omega arith))))

one_up : (b : Bool) (n m : ℕ) → m ≡ n + cond b 1 0 → m ≡ cond b (n + 1) n
one_up true n m e = e
one_up false n m e = omega arith

one_down : (b : Bool) (n m : ℕ) → m + cond b 1 0 ≡ n → m ≡ cond b (n - 1) n
one_down true n m e = omega arith
one_down false n m e = omega arith

module _ (l : List ℕ) (p q r : ℕ) (h : p < length l) where
  one_more : get_or l p 0 ≡ 0 → held r (set l p (q + 1)) ≡ cond (eqb q r) (held r l + 1) (held r l)
  one_more z =
      one_up (eqb q r) (held r l) (held r (set l p (q + 1)))
      (omega (arith, held-set l p (q + 1) h r, hit_no (get_or l p 0) (r + 1) (λ y. omega arith), hit_room q r))

  one_less : get_or l p 0 ≡ q + 1 → held r (set l p 0) ≡ cond (eqb q r) (held r l - 1) (held r l)
  one_less z =
      let e : hit (get_or l p 0) (r + 1) ≡ cond (eqb q r) 1 0 = rw z (hit_room q r) in
      one_down (eqb q r) (held r l) (held r (set l p 0)) (omega (arith, held-set l p 0 h r, hit_no 0 (r + 1) (λ y. omega arith)))

made_eq : {n k : ℕ} {m l : List ℕ} → n ≡ k → m ≡ l
    → ◌≡◌ {A = MadeWith} (record { core = n; map = m }) (record { core = k; map = l })
made_eq p q = λ i. record { core = p i; map = q i }

-- ---- what a call leaves, from what it answered: what each room holds, and what the desk was made with
module _ (d : List ℕ) (c : Call) where
  pub record Counts (answer : Answer) (desk : List ℕ) : Type 0 where
    pub rooms : (r : ℕ) → held r (holders desk) ≡ held_then r (held r (holders d)) c answer
    pub places : holders desk ≡ holders_then (holders d) c answer
    pub made : says_made desk ≡ made_then (says_made d) c answer

  abbrev CountsBy : Outcome → Type 0
  CountsBy o = Counts o.answer o.desk

none-held : (r : ℕ) → held r all_free ≡ 0
unfolding held count
none-held r = rw (hit_no 0 (r + 1) (λ z. omega arith))

make-counts : (d : List ℕ) (n : ℕ) (m : List ℕ) → CountsBy d (Make n m) (make_of d n m)
make-counts d n m =
    ⊎_elim
    (λ x. rw x.1 (record { rooms = λ r. refl; places = refl; made = refl }))
    (λ e. record {
      rooms = λ r. ap (held r) (make-holders d n m e) ∙ none-held r ∙ sym (ap (held_then r (held r (holders d)) (Make n m)) e);
      places = make-holders d n m e ∙ sym (ap (holders_then (holders d) (Make n m)) e);
      made = made_eq (make-core d n m e) (make-map d n m e) ∙ sym (ap (made_then (says_made d) (Make n m)) e);
    })
    (make-sorted d n m)

-- open, of room q
module _ (d core : List ℕ) (q : ℕ) (a : Area) (ios tables : List ℕ) where
  opened-counts : Granted d core q a ios tables → CountsBy d (Open q a ios tables) (opened d core q a ios tables)
  unfolding opened
  opened-counts g = record {
    rooms = λ r. rw (opened-holders d g.desk q a ios tables g.room g.given g.fit g.obey)
        (one_more (holders d) (lowest_free (holders d)) q r
        (omega (arith, length-holders d, given-place (holders d) q (sound-fair d g.desk) g.room g.given))
        (lowest_is_free (holders d)));
    places = opened-holders d g.desk q a ios tables g.room g.given g.fit g.obey;
    made = let w = opened_replaced d g.desk q a ios tables g.room g.given g.fit g.obey in made_eq w.core
        w.map_same;
  }

  open_counts : CountsBy d (Open q a ios tables) (open_of d core q a ios tables)
  open_counts =
      ⊎_elim
      (λ x. rw x.1 (record { rooms = λ r. refl; places = refl; made = refl }))
      (λ x. rw x.1 (opened-counts x.0))
      (open_sorted d core q a ios tables)

-- release, of room q and place p
release_counts : (d : List ℕ) (n q p : ℕ) → CountsBy d (Release n q p) (release_of d n q p)
release_counts d n q p =
    ⊎_elim
    (λ x. rw x.1 (record { rooms = λ r. refl; places = refl; made = refl }))
    (λ x. let l = sound-long d x.0 in
    let i = holds-inside d q p x.1 in
    rw x.2 (record {
      rooms = λ r. rw (freed-holders d l p i)
          (one_less (holders d) p q r (omega (arith, length-holders d)) (get_d_holders d p i ∙ holds_holder d q p x.1));
      places = freed-holders d l p i;
      made = made_eq (freed-core d l p i) (freed-map d l p i);
    }))
    (release_sorted d n q p)

-- feed writes a stage and nothing else on the desk
module _ (d core block : List ℕ) (q p : ℕ) where
  module _ (s : sound d ≡ true) (h : holds d q p ≡ true) (t : Stage) where
    few : stage_at + length (numbers_of t) ≤ place_words
    few = omega (arith, stage-length t)

    staged-holders : holders (staged d p t) ≡ holders d
    unfolding staged
    staged-holders = holders-kept d (sound-long d s) p (holds-inside d q p h) stage_at (numbers_of t) few (omega arith)

    staged_made : says_made (staged d p t) ≡ says_made d
    unfolding staged
    staged_made =
        let l = sound-long d s in
        let i = holds-inside d q p h in
        made_eq (core-kept d l p i stage_at (numbers_of t) few) (map-kept d l p i stage_at (numbers_of t) few)

    staged-counts : (answer : Answer) → Counts d (Feed q p block) answer (staged d p t)
    staged-counts answer = record { rooms = λ r. ap (held r) staged-holders; places = staged-holders; made = staged_made }

  feed-counts : CountsBy d (Feed q p block) (feed_of d core q p block)
  feed-counts =
      feed-cases d core block q p (CountsBy d (Feed q p block))
      (λ n l h. record { rooms = λ r. refl; places = refl; made = refl })
      (λ t s e h z. staged-counts s h t _)
      (λ a s e h z. staged-counts s h Complete _)
      (λ f s e h z. staged-counts s h Broken _)

-- ---- any call, in any state
pub call-counts : (c : Call) (s : State) → Counts s.desk c (answer_to c s) (call c s).desk
unfolding call answer_to
call-counts (Make n m) s = make-counts s.desk n m
call-counts (Open q a ios tables) s = open_counts s.desk s.core q a ios tables
call-counts (Feed q p block) s = feed-counts s.desk s.core block q p
call-counts (Release n q p) s = release_counts s.desk n q p
