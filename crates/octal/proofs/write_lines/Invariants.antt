-- `octal::write_lines` meets its contract: by the loop's invariant.
use mathlib.Core.Path.{◌≡◌}
use Rattle.octal.proofs.Written.{written}
use Rattle.octal.proofs.write_lines.Given as goal

abbrev pub invariant-loop-i : goal.invariant-loop-i
invariant-loop-i l = l.text ≡ written l.block l.initial.text l.i
