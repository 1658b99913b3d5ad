-- `octal::write_line` meets its contract: by the loop's invariant.
use mathlib.Core.Path.{◌≡◌}
use Rattle.word.proofs.Lists.{copied}
use Rattle.octal.specs.Text.{line_of}
use Rattle.octal.proofs.write_line.Given as goal

abbrev pub invariant-loop-i : goal.invariant-loop-i
invariant-loop-i l = l.text ≡ copied l.initial.text l.a (line_of l.w) l.i
