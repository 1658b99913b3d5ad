-- Whatever happens, the desk says of a load's place what open was given, until the place is released or the desk is made anew.
use Prim.Native.Nat.{ℕ, ◌+◌}
use mathlib.Core.Path.{◌≡◌, refl, ap, ◌∙◌}
use mathlib.Core.Bool.{true, false}
use mathlib.Core.List.{List, [], ◌∷◌}
use native.Mathlib.Omega.{arith}
use Rattle.word.proofs.Cases.{by-eq}
use Rattle.layout.specs.declared.Place.{Place}
use Rattle.layout.specs.Layout.{place_in, holder_of, own_of}
use Rattle.desk.specs.Sound.{sound}
use Rattle.feed.proofs.Blocked.{block_laws}
use Rattle.demands.specs.Orders.{run}
use Rattle.demands.specs.History.{State, Call, answer_to, call, Event, lent, event, told, told_by, Told, gone_by, is_gone}
use Rattle.demands.specs.History.Call.{Make, Open, Feed, Release}
use Rattle.demands.specs.History.Event.{Here, Elsewhere, OutsideStore}
use Rattle.demands.proofs.Reach.{feed_confined}
use Rattle.demands.proofs.Ready.{neither, event-sound, event_gone}
use Rattle.demands.proofs.Calls.{open_view, release_view}
use Rattle.demands.proofs.Feeds.{place_of, make-view}

-- ---- one call
module _ (r p : ℕ) (s : State) (ok : sound s.desk ≡ true) (held : holder_of (place_in s.desk p) ≡ r + 1) where
  call_own : (c : Call) → gone_by r p c (answer_to c s) ≡ false → own_of (place_in (call c s).desk p) ≡ own_of (place_in s.desk p)
  call_own (Make n m) e = ap own_of (place_of p s _ (make-view r p s ok held n m e))
  call_own (Open q a ios tables) e = ap own_of (place_of p s _ (open_view q a ios tables s p (λ z. omega arith)))
  call_own (Feed q k block) e =
      let c = feed_confined block_laws s k block q in
      by-eq p k (λ z. rw z c.own) (λ z. ap own_of (c.others p z))
  call_own (Release n q k) e = ap own_of (place_of p s _ (release_view n q k s r p held e))

-- ---- any event, and any number of them
pub event_own : (r p : ℕ) (e : Event) (s : State) (rest : List Told) → sound s.desk ≡ true
    → holder_of (place_in s.desk p) ≡ r + 1
    → is_gone r p (told_by e s rest) ≡ false → own_of (place_in (event e s).desk p) ≡ own_of (place_in s.desk p)
unfolding event is_gone
event_own r p (Here c) s rest ok h q = call_own r p s ok h c (neither (gone_by r p c (answer_to c s)) (is_gone r p rest) q).0
event_own r p (Elsewhere other c) s rest ok h q =
    let t = lent other s in call_own r p t ok h c (neither (gone_by r p c (answer_to c t)) (is_gone r p rest) q).0
event_own r p (OutsideStore j v) s rest ok h q = refl

pub holder_of_lem : (l k : List ℕ) → own_of l ≡ own_of k → holder_of l ≡ holder_of k
unfolding own_of
holder_of_lem l k z = ap (λ (o : Place). o.holder) z

pub own_kept : (r p : ℕ) (es : List Event) (s : State) → sound s.desk ≡ true → holder_of (place_in s.desk p) ≡ r + 1
    → is_gone r p (told es s) ≡ false → own_of (place_in (run event es s).desk p) ≡ own_of (place_in s.desk p)
unfolding told run
own_kept r p [] s ok h q = refl
own_kept r p (e ∷ es) s ok h q =
    let o = event_own r p e s _ ok h q in
    own_kept r p es (event e s) (event-sound e s ok) (holder_of_lem _ _ o ∙ h) (event_gone r p e s _ q) ∙ o
