-- `layout::read_holders` meets its contract: after p turns the first p holders are those of the desk.
use mathlib.Core.Path.{◌≡◌}
use lib.ListN.{length}
use Rattle.word.specs.Limits.{place_count}
use Rattle.word.proofs.Fill.{filled}
use Rattle.layout.specs.Layout.{holder_in}
use Rattle.layout.proofs.read_holders.Given as goal

abbrev pub invariant-loop-p : goal.invariant-loop-p
invariant-loop-p l = record { places : length l.h ≡ place_count; read : l.h ≡ filled (holder_in l.desk) l.initial.h l.p }
