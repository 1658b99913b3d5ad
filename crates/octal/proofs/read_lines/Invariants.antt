-- `octal::read_lines` meets its contract: by the loop's invariant.
use mathlib.Core.Path.{◌≡◌}
use Rattle.word.proofs.Fill.{filled}
use Rattle.octal.specs.Lines.{line_word, is_block}
use Rattle.octal.proofs.Text.{good_from}
use Rattle.octal.proofs.read_lines.Given as goal

abbrev pub invariant-loop-i : goal.invariant-loop-i
invariant-loop-i l = (is_block l.text ≡ good_from l.text l.good l.i) × (l.block ≡ filled (line_word l.text) l.initial.block l.i)
