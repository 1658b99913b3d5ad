-- `calls::make::clear_places` meets its contract: after p turns the first p places are free.
use mathlib.Core.Path.{◌≡◌}
use native.Mathlib.Omega.{arith}
use lib.ListN.{length-set}
use Rattle.calls.proofs.Made.{freed-none, freed_more}
use Rattle.calls.proofs.make.clear_places.Goals as goal

pub loop-p-init : goal.loop-p-init
loop-p-init c = (omega arith, freed-none _)

pub loop-p-preserved : goal.loop-p-preserved
loop-p-preserved c = (simp length-set (omega arith), freed_more _ _ _ c.loop-p.invariant.1)

pub returns : goal.returns
returns c = let e : c.loop-p.p ≡ 12 = omega arith in rw e at c.loop-p.invariant.1
