-- Demand 2: what a load that completed leaves in its area, and what the desk says of its place.
use mathlib.Core.Path.{refl, ap, ◌∙◌}
use Rattle.lists.specs.Obey.{tables_of}
use Rattle.lists.specs.Load.{Load}
use Rattle.stage.specs.declared.Stage.TheVariants.{Label}
use Rattle.layout.specs.declared.Place.{Place}
use Rattle.layout.specs.Layout.{own_of}
use Rattle.feed.specs.Feed.{load_in}
use Rattle.demands.specs.Opening.{after_open}
use Rattle.demands.specs.Demands.{Demand2, Demand2Zeros, Demand2Area}
use Rattle.demands.proofs.Imaged.{image_is}
use Rattle.demands.proofs.Begun.{begun}
use Rattle.demands.proofs.Lives.{lives}
use Rattle.demands.proofs.Kept.{own_kept}

pub demand_2 : Demand2
demand_2 o es a others grant stays safe done =
    let b = begun o grant in
    let x : Load = record { area = o.area; tables = tables_of o.tables; ios = o.ios } in
    let y = lives o.room o.place x a others es (after_open o) (after_open o).core Label
    b.ready b.holder b.load b.stage b.inside (λ j h e. refl) safe stays done in
    y.area ∙ image_is x (after_open o).core y.left _ b.inside b.tables-inside b.zeros y.takes

pub demand_2_zeros : Demand2Zeros
demand_2_zeros o k grant h = (begun o grant).zeros k h

pub demand_2_area : Demand2Area
unfolding load_in own_of
demand_2_area o es grant stays =
    let b = begun o grant in
    let k = own_kept o.room o.place es (after_open o) b.ready.desk b.holder stays in
    (ap (λ (q : Place). q.given.area) k ∙ ap (λ (y : Load). y.area) b.load, ap (λ (q : Place). q.holder) k ∙ b.holder)
