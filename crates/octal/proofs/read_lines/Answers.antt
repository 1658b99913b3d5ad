-- `octal::read_lines` meets its contract: by the loop's invariant.
use mathlib.Core.Path.{ap, ◌∙◌}
use native.Mathlib.Omega.{arith}
use Rattle.word.proofs.Fill.{filled_none, filled_more, filled-all}
use Rattle.octal.specs.Lines.{is_good, word_of, block_of}
use Rattle.octal.proofs.Text.{good_all, good_more, good_end}
use Rattle.octal.proofs.read_lines.Goals as goal

pub loop-i-init : goal.loop-i-init
loop-i-init c = (good_all _, filled_none _ _)

pub loop-i-preserved : goal.loop-i-preserved
loop-i-preserved c =
    let l = c.loop-i in
    let e = c.read_line-line.ensures in (
      good_more _ l.good l.i _ l.invariant.0 _ (omega arith) (c.is_some-good.ensures ∙ ap is_good e),
      filled_more _ _ _ _ _ (omega arith) (c.unwrap_or.ensures ∙ ap word_of e) l.invariant.1,
    )

pub returns : goal.returns
unfolding block_of
returns c =
    let l = c.loop-i in (
      good_end _ l.good l.i _ l.invariant.0 (omega arith),
      filled-all _ _ 256 l.i _ (omega arith) (omega arith) l.invariant.1,
    )
