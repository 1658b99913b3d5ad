-- `field::address_or_length` meets its contract: either way out by the law of a kept table.
use Rattle.field.proofs.Field.{address-or-length-kept}
use mathlib.Core.Bool.{true, false}
use Rattle.field.proofs.address_or_length.Goals as goal

pub returns-then-sized : goal.returns-then-sized
returns-then-sized c = rw c.if-sized.true (address-or-length-kept true _ _ c.args.k _ c.requires.0 c.requires.1 c.core_table-t.ensures)

pub returns : goal.returns
returns c = rw c.if-sized.false (address-or-length-kept false _ _ c.args.k _ c.requires.0 c.requires.1 c.core_table-t.ensures)
