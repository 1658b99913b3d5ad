-- `octal::read_line` meets its contract: by the loop's invariant.
use mathlib.Core.Path.{refl, ◌∙◌}
use native.Mathlib.Omega.{arith}
use Rattle.octal.proofs.Digits.{rest_all, rest_more, rest_bad, rest_end, below_more}
use Rattle.octal.proofs.read_line.Goals as goal

pub loop-d-init : goal.loop-d-init
loop-d-init c = (omega arith, rest_all _ _)

pub returns-then-d-lt-DIGIT_0 : goal.returns-then-d-lt-DIGIT_0
returns-then-d-lt-DIGIT_0 c =
    let l = c.loop-d in
    rest_bad _ _ l.d-index l.w _ (omega arith) l.invariant.1 _ refl (omega arith)
    (λ g h. omega (arith, c.then-d-lt-DIGIT_0.either))

pub loop-d-preserved : goal.loop-d-preserved
loop-d-preserved c =
    let l = c.loop-d in (
      below_more l.d-index l.w _ l.invariant.0 (omega arith),
      rest_more _ _ l.d-index l.w _ (omega arith) l.invariant.1 _ refl (omega arith) _ c.from.ensures (omega arith) (omega arith),
    )

pub returns : goal.returns
returns c = let l = c.loop-d in c.then_some.ensures ∙ rest_end _ _ l.d-index l.w _ (omega arith) l.invariant.1 (omega arith)
