-- `octal::read_line` meets its contract: by the loop's invariant.
use Prim.Native.Nat.{◌<◌, ◌^◌}
use mathlib.Core.Path.{◌≡◌}
use Rattle.octal.specs.Lines.{line_at}
use Rattle.octal.proofs.Digits.{rest}
use Rattle.octal.proofs.read_line.Given as goal

abbrev pub invariant-loop-d : goal.invariant-loop-d
invariant-loop-d l = (l.w < 8 ^ l.d-index) × (line_at l.text l.a ≡ rest l.text l.a l.d-index l.w)
