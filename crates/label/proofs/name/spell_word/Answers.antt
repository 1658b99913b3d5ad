-- `label::name::spell_word` meets its contract: by the loop's invariant.
use mathlib.Core.Path.{refl}
use native.Mathlib.Omega.{arith}
use Rattle.label.proofs.Spelt.{spelled_more, spelled_end}
use Rattle.label.proofs.name.spell_word.Goals as goal

pub loop-n-init : goal.loop-n-init
loop-n-init c = (omega arith, refl)

pub loop-n-preserved : goal.loop-n-preserved
loop-n-preserved c =
    let l = c.loop-n in
    (omega arith, spelled_more l.s _ l.n _ _ (omega arith) c.spell-s.ensures l.invariant.1)

pub returns : goal.returns
returns c =
    let l = c.loop-n in
    spelled_end l.s _ l.n _ (omega arith) l.invariant.1
