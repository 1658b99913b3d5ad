-- Demand 3, of demand 2's images: in any order of the feeds a completed load's area holds its image.
use mathlib.Core.Path.{◌≡◌, refl, sym, ap, ◌∙◌}
use mathlib.Core.Bool.{Bool, true}
use mathlib.Core.List.{List, [], ◌∷◌, ◌++◌}
use Rattle.word.specs.Lists.{every}
use Rattle.word.proofs.Cases.{and_left, and_right, and_both}
use Rattle.demands.specs.Orders.{run}
use Rattle.demands.specs.History.{State, Event, event, harmless}
use Rattle.demands.specs.Opening.{Opening, after_open, area_words}
use Rattle.demands.specs.Feeding.{Fed, feed, fed_events}
use Rattle.demands.specs.Demands.{Demand2, Demand3Orders, Demand3Images}

run_on : (xs ys : List Event) (s : State) → run event (xs ++ ys) s ≡ run event ys (run event xs s)
unfolding run
run_on [] ys s = refl
run_on (x ∷ xs) ys s = run_on xs ys (event x s)

run_feeds : (es : List Fed) (s : State) → run event (fed_events es) s ≡ run feed es s
unfolding run event
run_feeds [] s = refl
run_feeds (e ∷ es) s = run_feeds es (feed e s)

-- feeds that are lent the load's core do it no harm
feeds_safe : (o : Opening) (es : List Fed) → every (harmless o.room o.place o.area) (fed_events es) ≡ true
unfolding every
feeds_safe o [] = refl
feeds_safe o (e ∷ es) = feeds_safe o es

every_on : (f : Event → Bool) (xs ys : List Event) → every f xs ≡ true → every f ys ≡ true → every f (xs ++ ys) ≡ true
unfolding every
every_on f [] ys p q = q
every_on f (x ∷ xs) ys p q = and_both (f x) (every f (xs ++ ys)) (and_left (f x) (every f xs) p)
    (every_on f xs ys (and_right (f x) (every f xs) p) q)

pub demand_3_images : Demand2 → Demand3Orders → Demand3Images
demand_3_images image orders o between es fs a others grant stays safe done same =
    let t = after_open o in
    let m = run event between t in
    let e : run event (between ++ fed_events fs) t ≡ run event (between ++ fed_events es) t =
    run_on between (fed_events fs) t ∙ run_feeds fs m ∙ sym (orders m es fs same).0 ∙ sym (run_feeds es m)
    ∙ sym (run_on between (fed_events es) t) in
    ap (area_words o) e
    ∙ image o (between ++ fed_events es) a others grant stays (every_on _ between (fed_events es) safe (feeds_safe o es)) done
