-- Every call keeps a desk sound, its core length (make aside) and the core's; and what it stores is words. So does every event.
use Prim.Native.Nat.{ℕ, ◌+◌, ◌≤◌}
use mathlib.Core.Path.{◌≡◌, refl, sym, ap, ◌∙◌}
use mathlib.Core.Bool.{Bool, true, false, ◌||◌, true≢false}
use mathlib.Core.List.{List}
use mathlib.Core.Logic.{inl, inr, ⊎_elim}
use native.Mathlib.Omega.{arith}
use lib.ListN.{length, length-set}
use borrow.Author.Tests.{ltb-true}
use Rattle.word.specs.Lists.{every}
use Rattle.word.specs.Word.{is_word, word_limit}
use Rattle.word.specs.declared.Area.{Area}
use Rattle.word.proofs.Stretch.{length-cleared}
use Rattle.group.proofs.Stored.{StoredWords, stored-none, stored-cleared}
use Rattle.std.specs.Prelude.{Ok, Err}
use Rattle.stage.specs.Step.{StepResult}
use Rattle.stage.specs.declared.Step.TheVariants.{More, Done}
use Rattle.lists.specs.Load.{Load}
use Rattle.layout.specs.Layout.{core_length, place_in, stage_in, holds}
use Rattle.desk.specs.Sound.{sound}
use Rattle.calls.specs.declared.Answer.{Answer}
use Rattle.calls.specs.Outcome.{Outcome}
use Rattle.calls.specs.Open.{opened, open_of}
use Rattle.calls.proofs.Freed.{release_sound}
use Rattle.calls.proofs.Grant.{area_in_core}
use Rattle.calls.proofs.Made.{make-sound}
use Rattle.calls.proofs.Opened.{open_sound}
use Rattle.feed.specs.Feed.{load_in, settled_of, taken_of}
use Rattle.feed.proofs.Blocked.{block_laws}
use Rattle.feed.proofs.Fed.{holds-place, feed_outcomes, feed-sound, feed-long}
use Rattle.feed.proofs.Held.{held-inside, held_fit}
use Rattle.demands.specs.History.{State, Call, answer_to, call, Event, lent, event, Told, told_by, gone_by, is_gone}
use Rattle.demands.specs.History.Call.{Make, Open, Feed, Release}
use Rattle.demands.specs.History.Event.{Here, Elsewhere, OutsideStore}
use Rattle.demands.specs.Grants.{MadeWith, made_then}
use Rattle.demands.specs.Demands.{Demand1Sound, Demand1Words}
use Rattle.demands.proofs.Prepared.{Prepared}
use Rattle.demands.proofs.Outcomes.{Granted, make-sorted, open_sorted}
use Rattle.demands.proofs.Granted.{call-counts}

-- ---- open where it is granted
module _ (s : State) (r : ℕ) (a : Area) (ios tables : List ℕ) where
  pub area-inside : Granted s.desk s.core r a ios tables → a.at.0 + a.size ≤ length s.core
  area-inside g = omega (arith, area_in_core s.desk g.desk r a g.room g.fit, g.long)

  open_long : length (open_of s.desk s.core r a ios tables).core ≡ length s.core
  unfolding opened
  open_long =
      ⊎_elim
      (λ x. ap (λ (o : Outcome). length o.core) x.1)
      (λ x. ap (λ (o : Outcome). length o.core) x.1 ∙ length-cleared s.core a.at.0 a.size (area-inside x.0))
      (open_sorted s.desk s.core r a ios tables)

  open_words : StoredWords s.core (open_of s.desk s.core r a ios tables).core
  unfolding opened
  open_words =
      ⊎_elim
      (λ x. rw x.1 (stored-none s.core))
      (λ x. rw x.1 (stored-cleared s.core a.at.0 a.size (area-inside x.0)))
      (open_sorted s.desk s.core r a ios tables)

-- ---- any call, in any state
call-sound : (c : Call) (s : State) → sound s.desk ≡ true → sound (call c s).desk ≡ true
unfolding call
call-sound (Make n m) s k =
    ⊎_elim (λ x. ap (λ (o : Outcome). sound o.desk) x.1 ∙ k) (λ e. make-sound s.desk n m e) (make-sorted s.desk n m)
call-sound (Open r a ios tables) s k = open_sound s.desk s.core r a ios tables k
call-sound (Feed r p block) s k = feed-sound s.desk s.core block r p k
call-sound (Release n r p) s k = release_sound s.desk n r p k

call_long : (c : Call) (s : State) → length (call c s).core ≡ length s.core
unfolding call
call_long (Make n m) s = refl
call_long (Open r a ios tables) s = open_long s r a ios tables
call_long (Feed r p block) s = feed-long s.desk s.core block r p
call_long (Release n r p) s = refl

pub sound-kept : Demand1Sound
unfolding call answer_to
sound-kept = (
  λ s n m e. make-sound s.desk n m e,
  λ c s. record { kept = call-sound c s; made_with = (call-counts c s).made; core-long = call_long c s },
)

-- ---- what is stored
module _ (s : State) (r p : ℕ) (block : List ℕ) (ok : sound s.desk ≡ true) (e : length s.core ≡ core_length s.desk)
    (h : holds s.desk r p ≡ true) where
  abbrev x : Load
  x = load_in (place_in s.desk p)

  in_core_lem : x.area.at.0 + x.area.size ≤ length s.core
  in_core_lem = let k = holds-place s.desk r p h in rw e (held-inside s.desk ok p k.0 k.1)

  settled_words : (g : StepResult) (after : List ℕ) → StoredWords s.core after
      → StoredWords s.core (settled_of s.desk s.core p x.area g after).core
  unfolding settled_of
  settled_words (Ok (More t)) after w = w
  settled_words (Ok (Done a)) after w = w
  settled_words (Err f) after w = stored-cleared s.core _ _ in_core_lem

  taken_words : every is_word block ≡ true
      → StoredWords s.core (taken_of s.desk s.core p x (stage_in (place_in s.desk p)) block).core
  unfolding taken_of
  taken_words w =
      let k = holds-place s.desk r p h in
      settled_words _ _ (block_laws.words x (stage_in (place_in s.desk p)) block s.core
      (held_fit s.desk ok p k.0 k.1) in_core_lem w)

call_words : (c : Call) (s : State) → StoredWords s.core (call c s).core
unfolding call
call_words (Make n m) s = stored-none s.core
call_words (Open r a ios tables) s = open_words s r a ios tables
call_words (Feed r p block) s =
    feed_outcomes s.desk s.core block r p (λ (o : Outcome). StoredWords s.core o.core) (λ n l h. stored-none s.core)
    (λ ok e h o l w. taken_words s r p block ok e h w)
call_words (Release n r p) s = stored-none s.core

pub words_stored : Demand1Words
words_stored c s j = ⊎_elim (λ e. inl e) (λ e. inr (ltb-true _ word_limit e)) (call_words c s j)

-- ---- any event keeps a desk sound, and the core's length
pub event-sound : (e : Event) (s : State) → sound s.desk ≡ true → sound (event e s).desk ≡ true
unfolding event
event-sound (Here c) s k = call-sound c s k
event-sound (Elsewhere other c) s k = call-sound c (lent other s) k
event-sound (OutsideStore j v) s k = k

event-long : (e : Event) (s : State) → length (event e s).core ≡ length s.core
unfolding event
event-long (Here c) s = call_long c s
event-long (Elsewhere other c) s = refl
event-long (OutsideStore j v) s = length-set s.core j v

-- as long as a load is there, no desk was made, so that the desk keeps its core length
pub neither : (b c : Bool) → (b || c) ≡ false → (b ≡ false) × (c ≡ false)
neither true c q = absurd (true≢false q)
neither false c q = (refl, q)

call_same : (r p : ℕ) (w : MadeWith) (c : Call) (a : Answer) → gone_by r p c a ≡ false → made_then w c a ≡ w
call_same r p w (Make k m) a q = rw q
call_same r p w (Open q a ios tables) b z = refl
call_same r p w (Feed q k block) b z = refl
call_same r p w (Release m q k) b z = refl

core-same : (r p : ℕ) (c : Call) (s : State) → gone_by r p c (answer_to c s) ≡ false
    → core_length (call c s).desk ≡ core_length s.desk
core-same r p c s q = ap (λ (w : MadeWith). w.core) ((call-counts c s).made ∙ call_same r p _ c (answer_to c s) q)

pub event_gone : (r p : ℕ) (e : Event) (s : State) (rest : List Told) → is_gone r p (told_by e s rest) ≡ false
    → is_gone r p rest ≡ false
unfolding is_gone
event_gone r p (Here c) s rest q = (neither (gone_by r p c (answer_to c s)) (is_gone r p rest) q).1
event_gone r p (Elsewhere other c) s rest q = (neither (gone_by r p c (answer_to c (lent other s))) (is_gone r p rest) q).1
event_gone r p (OutsideStore j v) s rest q = q

event-core : (r p : ℕ) (e : Event) (s : State) (rest : List Told) → is_gone r p (told_by e s rest) ≡ false
    → core_length (event e s).desk ≡ core_length s.desk
unfolding event is_gone
event-core r p (Here c) s rest q = core-same r p c s (neither (gone_by r p c (answer_to c s)) (is_gone r p rest) q).0
event-core r p (Elsewhere other c) s rest q =
    let t = lent other s in core-same r p c t (neither (gone_by r p c (answer_to c t)) (is_gone r p rest) q).0
event-core r p (OutsideStore j v) s rest q = refl

pub event_ready : (r p : ℕ) (e : Event) (s : State) (rest : List Told) → Prepared s → is_gone r p (told_by e s rest) ≡ false
    → Prepared (event e s)
event_ready r p e s rest k q = record {
  desk = event-sound e s k.desk;
  core = event-long e s ∙ k.core ∙ sym (event-core r p e s rest q);
}
