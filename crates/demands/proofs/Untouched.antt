-- Demand 2, of the core's other words: a load's own calls change none outside its area. Given the laws of a block's step.
use Prim.Native.Nat.{ℕ}
use mathlib.Core.Path.{◌≡◌, refl, ap, ◌∙◌}
use mathlib.Core.List.{List}
use mathlib.Core.Logic.{⊎_elim}
use native.Mathlib.Omega.{arith}
use lib.ListN.{get_or}
use Rattle.word.specs.declared.Area.{Area}
use Rattle.word.proofs.Cases.{by-eq}
use Rattle.word.proofs.Stretch.{Beside, get_d_cleared_beside}
use Rattle.layout.specs.Layout.{place_in, holder_of}
use Rattle.calls.specs.Outcome.{Outcome}
use Rattle.calls.specs.Open.{opened}
use Rattle.feed.proofs.Laws.{BlockLaws}
use Rattle.demands.specs.History.{State, call}
use Rattle.demands.specs.History.Call.{Open, Release}
use Rattle.demands.specs.Demands.{Outside, Demand2Outside}
use Rattle.demands.proofs.Held.{area_of}
use Rattle.demands.proofs.Views.{extent, extent-free, extent-held, outside_area, outside_beside}
use Rattle.demands.proofs.Reach.{feed_confined}
use Rattle.demands.proofs.Outcomes.{open_sorted}
use Rattle.demands.proofs.Ready.{area-inside}

open_outside : (s : State) (j r : ℕ) (area : Area) (ios tables : List ℕ) → Outside area j
    → get_or (call (Open r area ios tables) s).core j 0 ≡ get_or s.core j 0
unfolding call opened
open_outside s j r area ios tables h =
    ⊎_elim
    (λ x. ap (λ (o : Outcome). get_or o.core j 0) x.1)
    (λ x. ap (λ (o : Outcome). get_or o.core j 0) x.1
    ∙ get_d_cleared_beside s.core _ _ j (area-inside s r area ios tables x.0) (outside_beside j _ _ (outside_area area j h)))
    (open_sorted s.desk s.core r area ios tables)

outside_extent : (l : List ℕ) (j : ℕ) → Outside (area_of l) j → Beside j (area_of l).at.0 (extent l)
outside_extent l j h =
    by-eq (holder_of l) 0
    (λ z. outside_beside j _ _ (λ a b. omega (arith, extent-free l z)))
    (λ z. rw (extent-held l z) (outside_beside j _ _ (outside_area (area_of l) j h)))

release_outside : (s : State) (n r p : ℕ) → (call (Release n r p) s).core ≡ s.core
unfolding call
release_outside s n r p = refl

pub demand_2_outside : BlockLaws → Demand2Outside
demand_2_outside laws s j = (
  open_outside s j,
  λ r p block h. (feed_confined laws s p block r).beside j (outside_extent (place_in s.desk p) j h),
  release_outside s,
)
