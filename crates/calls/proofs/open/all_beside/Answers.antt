-- `calls::open::all_beside` meets its contract: `all` tries the places in order.
use Rattle.std.proofs.Common.{refl, ℕ, arith, rules, tests}
use Rattle.std.proofs.iter.Serving.{serving}
use Rattle.std.proofs.lemmas.Iterator.{YieldsList-from_range}
use Rattle.std.proofs.lemmas.Iterator.Search.{all_from_yields_List}
use Rattle.word.specs.Lists.{every, tab}
use Rattle.layout.specs.Layout.{place_in, places}
use Rattle.layout.proofs.Places.{place-length}
use Rattle.calls.specs.Open.{beside_own}
use Rattle.calls.proofs.open.all_beside.Goals as goal

pub all-requires-clause-callable : goal.all-requires-clause-callable
all-requires-clause-callable c = grind (serving, place-length)

pub returns : goal.returns
unfolding places every tab
returns c =
    all_from_yields_List (λ (p : ℕ). beside_own c.args.room c.args.area (place_in c.args.desk.now p)) _ _ _ c.all.ensures.ran
    (YieldsList-from_range 0 12 12 refl (omega arith))
    (λ x b q k. search (rules, tests))
