-- Demand 1: one outcome, told by one number; and what a refusal leaves.
use Prim.Native.Nat.{ℕ, ◌+◌, ◌*◌, ◌≤◌, ◌/◌, ◌%◌, ◌^◌}
use mathlib.Core.Path.{◌≡◌, refl, sym, ap, ap₂, ◌∙◌}
use mathlib.Core.Bool.{true, false, cond}
use mathlib.Core.List.{List, []}
use native.Mathlib.Omega.{arith}
use lib.ListN.{length}
use lib.Dec.{eqb, leb}
use borrow.Author.Tests.{ne_eqb, eqb-false}
use Rattle.word.specs.Fault.{fault, half_number}
use Rattle.word.specs.declared.Area.{Area}
use Rattle.word.specs.declared.Fault.{Fault}
use Rattle.word.specs.declared.Half.TheVariants.{Left, Right}
use Rattle.std.specs.Prelude.{Option, Some, None}
use Rattle.word.specs.declared.Half.{Half}
use Rattle.word.proofs.Cases.{both, when}
use Rattle.word.proofs.Lists.{length-splice}
use Rattle.word.proofs.Stretch.{length-cleared, get_d_cleared_beside, get_d_splice_beside}
use Rattle.stage.specs.declared.Stage.TheVariants.{Broken}
use Rattle.stage.specs.Stage.{numbers_of}
use Rattle.stage.proofs.Back.{stage-length}
use Rattle.group.specs.Places.{Placed}
use Rattle.map.specs.Map.{map_of, map_obeys}
use Rattle.rooms.specs.Rooms.{held, free, idle, place_refusal}
use Rattle.lists.specs.Obey.{lists_obey}
use Rattle.layout.specs.Layout.{stage_at, desk_words, core_length, base, place_in, own_of, stage_in, holders, holds}
use Rattle.desk.specs.Sound.{core_fits, sound}
use Rattle.desk.proofs.Facts.{sound-long}
use Rattle.calls.specs.Answer.{code_of, value_of, packed, told_c, Small}
use Rattle.calls.specs.declared.Answer.{Answer}
use Rattle.calls.specs.declared.Answer.TheVariants.{Refused, Made, Opened, More, Done, Released}
use Rattle.calls.proofs.Packed.{packed-apart}
use Rattle.calls.specs.Outcome.{Outcome}
use Rattle.calls.specs.Make.{make_of}
use Rattle.calls.specs.Open.{area_fits, opened, grant_of, open_of}
use Rattle.calls.specs.Release.{release_of}
use Rattle.calls.proofs.Made.{make_small}
use Rattle.calls.proofs.Opened.{open_small}
use Rattle.calls.proofs.Freed.{release_small}
use Rattle.calls.proofs.Entry.{entered-cases}
use Rattle.feed.specs.Feed.{load_in, staged, wiped, feed_of}
use Rattle.feed.proofs.Blocked.{block_laws}
use Rattle.feed.proofs.Fed.{holds-place, feed-cases, feed_small}
use Rattle.feed.proofs.Held.{held-inside}
use Rattle.feed.proofs.Wiped.{get_d_cleared_in}
use Rattle.demands.specs.History.{State, Call, answer_to, call}
use Rattle.demands.specs.History.Call.{Make, Open, Feed, Release}
use Rattle.demands.specs.Demands.{BrokenOff, Demand1One, Demand1Number, Demand1Unchanged, Demand1Broken, Demand1Place}
use Rattle.demands.proofs.Views.{outside_area, outside_beside, staged-stage}
use Rattle.demands.proofs.Reach.{left_by}

pub one : Demand1One
one o r q d e core other p t = (p.number ∙ sym t.number, (p.desk_left ∙ sym t.desk_left, p.core-left ∙ sym t.core-left))

-- ---- the answer, read back from its code and value; of a refusal the value is its place
abbrev side_of : ℕ → Option Half
side_of n = cond (eqb n 1) (Some Left) (cond (eqb n 2) (Some Right) None)

abbrev placed : ℕ → ℕ → Option Half → Fault
placed n w s = record { number = n; word = w; half = s; bit = 0 }

place_back : (n w : ℕ) (s : Option Half) → placed n ((w * 4 + half_number s) / 4) (side_of ((w * 4 + half_number s) % 4)) ≡ placed n w s
place_back n w None =
    let q : (w * 4 + 0) / 4 ≡ w = omega arith in
    let r : (w * 4 + 0) % 4 ≡ 0 = omega arith in
    rw (q, r)
place_back n w (Some Left) =
    let q : (w * 4 + 1) / 4 ≡ w = omega arith in
    let r : (w * 4 + 1) % 4 ≡ 1 = omega arith in
    rw (q, r)
place_back n w (Some Right) =
    let q : (w * 4 + 2) / 4 ≡ w = omega arith in
    let r : (w * 4 + 2) % 4 ≡ 2 = omega arith in
    rw (q, r)

abbrev answer_of : ℕ → ℕ → Answer
answer_of c v =
    cond (eqb c 64) Made
    (cond (eqb c 65) (Opened v)
    (cond (eqb c 66) More
    (cond (eqb c 67) (Done (record { 0 = v }))
    (cond (eqb c 68) Released
    (Refused (placed c (v / 4) (side_of (v % 4))))))))

answer_back : (a : Answer) → Small a → answer_of (code_of a) (value_of a) ≡ told_c a
answer_back (Refused f) h =
    let ne : (n : ℕ) → 64 ≤ n → eqb f.number n ≡ false = λ n k. ne_eqb f.number n (λ z. omega (arith, h.0)) in
    rw (ne 64 (omega arith), ne 65 (omega arith), ne 66 (omega arith), ne 67 (omega arith), ne 68 (omega arith))
    (ap Refused (place_back f.number f.word f.half))
answer_back Made h = refl
answer_back (Opened p) h = refl
answer_back More h = refl
answer_back (Done a) h = refl
answer_back Released h = refl

one_number : (a b : Answer) → Small a → Small b → packed a ≡ packed b → told_c a ≡ told_c b
one_number a b h k e =
    let x = packed-apart a h in
    let y = packed-apart b k in
    sym (answer_back a h)
    ∙ ap₂ answer_of (sym x.0 ∙ ap (λ (n : ℕ). n / 2 ^ 32) e ∙ y.0) (sym x.1 ∙ ap (λ (n : ℕ). n % 2 ^ 32) e ∙ y.1)
    ∙ answer_back b k

each_small : (c : Call) (s : State) → Small (answer_to c s)
unfolding answer_to
each_small (Make n m) s = make_small s.desk n m
each_small (Open r a ios tables) s = open_small s.desk s.core r a ios tables
each_small (Feed r p block) s = feed_small s.desk s.core block r p
each_small (Release n r p) s = release_small s.desk n r p

pub number : Demand1Number
number = (each_small, one_number)

-- ---- an outcome that, where it is refused, is refused with a number from 1 to n and without a place, and leaves desk and core as they
-- were
pub record Denied (n : ℕ) (d core : List ℕ) (o : Outcome) (f : Fault) : Type 0 where
  pub least : 1 ≤ f.number
  pub most : f.number ≤ n
  pub bare : f ≡ fault f.number
  pub desk_left : o.desk ≡ d
  pub core-left : o.core ≡ core

abbrev Refuses : ℕ → List ℕ → List ℕ → Outcome → Type 0
Refuses n d core o = (f : Fault) → o.answer ≡ Refused f → Denied n d core o f

-- the number of a refusal
same-fault : {m : ℕ} {f : Fault} → ◌≡◌ {A = Answer} (Refused (fault m)) (Refused f) → m ≡ f.number
same-fault q = ap code_of q

no_place : {m : ℕ} {f : Fault} → ◌≡◌ {A = Answer} (Refused (fault m)) (Refused f) → f ≡ fault f.number
no_place {m} {f} q = let e : fault m ≡ f = cc in rw (← e)

refuses : (n m : ℕ) (d core : List ℕ) → 1 ≤ m → m ≤ n
    → Refuses n d core (record { answer = Refused (fault m); desk = d; core = core })
refuses n m d core l h f q = record {
  least = omega (arith, same-fault q);
  most = omega (arith, same-fault q);
  bare = no_place q;
  desk_left = refl;
  core-left = refl;
}

make_refuses : (d : List ℕ) (n : ℕ) (m : List ℕ) → Refuses 3 d [] (make_of d n m)
unfolding make_of
make_refuses d n m =
    let P = Refuses 3 d [] in
    both P (eqb (length d) desk_words)
    (both P (core_fits n)
    (both P (eqb (length m) 16)
    (both P (map_obeys n (map_of m)) (λ f q. let z : ◌≡◌ {A = ℕ} 0 1 = cc in absurd (omega arith))
    (refuses 3 3 d [] (omega arith) (omega arith)))
    (refuses 3 3 d [] (omega arith) (omega arith)))
    (refuses 3 2 d [] (omega arith) (omega arith)))
    (refuses 3 1 d [] (omega arith) (omega arith))

abbrev AtMostSix : ℕ → Type 0
AtMostSix n = n ≤ 6

refusal_most : (r : ℕ) (l : List ℕ) → place_refusal r l ≤ 6
unfolding place_refusal
refusal_most r l =
    both AtMostSix (leb 2 (held r l)) (omega arith)
    (both AtMostSix (eqb (held r l) 1) (both AtMostSix (leb (free l) (idle l)) (omega arith) (omega arith)) (omega arith))

open_refuses : (d core : List ℕ) (r : ℕ) (a : Area) (ios tables : List ℕ) → Refuses 8 d core (open_of d core r a ios tables)
unfolding open_of grant_of opened
open_refuses d core r a ios tables =
    let P = Refuses 8 d core in
    entered-cases d (length core) r core _ P (λ m l h. refuses 8 m d core l (omega arith))
    (λ k. when P (eqb (place_refusal r (holders d)) 0)
    (λ z. both P (area_fits d r a)
    (both P (lists_obey a ios tables) (λ f q. let z : ◌≡◌ {A = ℕ} 0 1 = cc in absurd (omega arith))
    (refuses 8 8 d core (omega arith) (omega arith)))
    (refuses 8 7 d core (omega arith) (omega arith)))
    (λ z. refuses 8 (place_refusal r (holders d)) d core (omega (arith, eqb-false (place_refusal r (holders d)) 0 z))
    (omega (arith, refusal_most r (holders d)))))

release_refuses : (d : List ℕ) (n r p : ℕ) → Refuses 9 d [] (release_of d n r p)
unfolding release_of
release_refuses d n r p =
    let P = Refuses 9 d [] in
    entered-cases d n r [] _ P (λ m l h. refuses 9 m d [] l (omega arith))
    (λ k. both P (holds d r p) (λ f q. let z : ◌≡◌ {A = ℕ} 0 1 = cc in absurd (omega arith))
    (refuses 9 9 d [] (omega arith) (omega arith)))

-- ---- a feed that is refused: up to 12 nothing changes, from 13 on the load is broken off
same_state : (s t : State) → t.desk ≡ s.desk → t.core ≡ s.core → t ≡ s
same_state s t d c = λ i. record { desk = d i; core = c i }

module _ (s : State) (r p : ℕ) (block : List ℕ) where
  abbrev area : Area
  area = (own_of (place_in s.desk p)).given.area

  pub record Broke (o : Outcome) (f : Fault) : Type 0 where
    pub least : 1 ≤ f.number
    pub most : f.number ≤ 22
    pub same : f.number ≤ 12 → left_by o ≡ s
    pub bare : f.number ≤ 12 → f ≡ fault f.number
    pub off : 13 ≤ f.number → BrokenOff p area s (left_by o)
    pub place : 13 ≤ f.number → Placed block f

  abbrev Breaks : Outcome → Type 0
  Breaks o = (f : Fault) → o.answer ≡ Refused f → Broke o f

  none_breaks : (n : ℕ) → 1 ≤ n → n ≤ 12 → Breaks (record { answer = Refused (fault n); desk = s.desk; core = s.core })
  none_breaks n l h f q = record {
    least = omega (arith, same-fault q);
    most = omega (arith, same-fault q);
    same = λ k. refl;
    bare = λ k. no_place q;
    off = λ k. absurd (omega (arith, same-fault q));
    place = λ k. absurd (omega (arith, same-fault q));
  }

  module _ (ok : sound s.desk ≡ true) (e : length s.core ≡ core_length s.desk) (h : holds s.desk r p ≡ true) where
    in_core_lem : area.at.0 + area.size ≤ length s.core
    unfolding load_in
    in_core_lem = let k = holds-place s.desk r p h in rw e (held-inside s.desk ok p k.0 k.1)

    in_desk : base p + stage_at + length (numbers_of Broken) ≤ length s.desk
    in_desk = omega (arith, (holds-place s.desk r p h).0, sound-long s.desk ok, stage-length Broken)

    broken_off : BrokenOff p area s (record { desk = staged s.desk p Broken; core = wiped area s.core })
    broken_off =
        let k = holds-place s.desk r p h in
        let n = stage-length Broken in record {
          inside = in_core_lem;
          zeros = λ j a b. get_d_cleared_in s.core _ _ j in_core_lem a b;
          beside = λ j o. get_d_cleared_beside s.core _ _ j in_core_lem (outside_beside j _ _ (outside_area area j o));
          core-long = length-cleared s.core _ _ in_core_lem;
          stage = staged-stage s.desk ok p k.0 Broken;
          others = unfold staged in (λ i o. get_d_splice_beside s.desk (base p + stage_at) (numbers_of Broken) i in_desk
              (outside_beside i _ _ (λ a b. o a (omega arith))));
          desk_long = unfold staged in (length-splice s.desk (base p + stage_at) (numbers_of Broken) in_desk);
        }

  feed_breaks : Breaks (feed_of s.desk s.core r p block)
  unfolding load_in
  feed_breaks =
      feed-cases s.desk s.core block r p Breaks none_breaks
      (λ t ok e h q f z. let y : ◌≡◌ {A = ℕ} 0 1 = cc in absurd (omega arith))
      (λ a ok e h q f z. let y : ◌≡◌ {A = ℕ} 0 1 = cc in absurd (omega arith))
      (λ g ok e h q f z.
      let y : g ≡ f = cc in
      let w = rw y at (block_laws.faults (load_in (place_in s.desk p)) (stage_in (place_in s.desk p)) block s.core g q) in
      record {
        least = omega (arith, w.least);
        most = w.most;
        same = λ k. absurd (omega (arith, w.least));
        bare = λ k. absurd (omega (arith, w.least));
        off = λ k. broken_off ok e h;
        place = λ k. w.place;
      })

-- ---- the statements
pub unchanged : Demand1Unchanged
unfolding answer_to call
unchanged (Make n m) s f q =
    let k = make_refuses s.desk n m f q in (k.least, k.most, λ h. same_state s _ k.desk_left refl)
unchanged (Open r a ios tables) s f q =
    let k = open_refuses s.desk s.core r a ios tables f q in (k.least, k.most, λ h. same_state s _ k.desk_left k.core-left)
unchanged (Feed r p block) s f q = let k = feed_breaks s r p block f q in (k.least, k.most, k.same)
unchanged (Release n r p) s f q =
    let k = release_refuses s.desk n r p f q in (k.least, k.most, λ h. same_state s _ k.desk_left refl)

pub broken : Demand1Broken
unfolding answer_to call
broken s r p block f q h = (feed_breaks s r p block f q).off h

bare : (c : Call) (s : State) (f : Fault) → answer_to c s ≡ Refused f → f.number ≤ 12 → f ≡ fault f.number
unfolding answer_to call
bare (Make n m) s f q h = (make_refuses s.desk n m f q).bare
bare (Open r a ios tables) s f q h = (open_refuses s.desk s.core r a ios tables f q).bare
bare (Feed r p block) s f q h = (feed_breaks s r p block f q).bare h
bare (Release n r p) s f q h = (release_refuses s.desk n r p f q).bare

pub place : Demand1Place
unfolding answer_to call
place = (bare, λ s r p block f q h. (feed_breaks s r p block f q).place h)
