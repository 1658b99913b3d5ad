-- `label::read_tables` meets its contract: at every turn the tables read so far stand, and are counted. The measure is how many are
-- left.
use Prim.Native.Nat.{◌≤◌, ◌-◌}
use lib.ListN.{get_or}
use Rattle.word.specs.Word.{bits}
use Rattle.label.specs.Tables.{table_words}
use Rattle.label.proofs.TableTurns.{ReadTo}
use Rattle.label.proofs.read_tables.Given as goal

abbrev pub invariant-loop-i : goal.invariant-loop-i
invariant-loop-i l = (l.i ≤ bits 28 18 (get_or l.block 3 0)) × ReadTo (table_words l.block) l.i l.least l.c

abbrev pub decreases-loop-i : goal.decreases-loop-i
decreases-loop-i l = l.n - l.i
