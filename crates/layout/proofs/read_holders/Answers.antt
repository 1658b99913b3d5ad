-- `layout::read_holders` meets its contract: after p turns the first p holders are those of the desk.
use mathlib.Core.Path.{refl}
use native.Mathlib.Omega.{arith}
use lib.ListN.{length-set}
use Rattle.word.specs.Limits.{place_count}
use Rattle.word.proofs.Fill.{filled_none, filled_more, filled-all}
use Rattle.layout.specs.Layout.{holders}
use Rattle.layout.proofs.read_holders.Goals as goal

pub loop-p-init : goal.loop-p-init
loop-p-init c = record { places = refl; read = filled_none _ _ }

pub loop-p-preserved : goal.loop-p-preserved
loop-p-preserved c =
    let i = c.loop-p.invariant in
    record { places = simp length-set i.places; read = filled_more _ _ _ _ _ (omega arith) refl i.read }

pub returns : goal.returns
unfolding holders
returns c = filled-all _ _ place_count _ _ (omega arith) refl c.loop-p.invariant.read
