-- `records::read_entry` meets its contract: each return by the tests that led to it, at the spot of the entry's third word.
use mathlib.Core.Path.{◌∙◌}
use native.Mathlib.Omega.{arith}
use Rattle.records.specs.HowEntries.{entry_read}
use Rattle.records.proofs.Turns.{fits_elsewhere, fits-here}
use Rattle.records.proofs.read_entry.Goals as goal

pub returns-then-s-b : goal.returns-then-s-b
unfolding entry_read
returns-then-s-b c =
    let z = c.args in
    rw (fits_elsewhere z.g z.lists.now z.exact z.b z.block.now z.t _ c.length_spot-s.ensures
    c.if-s-b.true)

pub offset_bounds-block-s : goal.offset_bounds-block-s
offset_bounds-block-s c = rw c.length_spot-s.ensures (omega arith)

pub bounds-block-s : goal.bounds-block-s
bounds-block-s c = rw c.length_spot-s.ensures (omega arith)

pub returns-then-length_fits : goal.returns-then-length_fits
unfolding entry_read
returns-then-length_fits c =
    let z = c.args in
    let told = fits-here z.g z.lists.now z.exact z.b z.block.now z.t _ c.length_spot-s.ensures c.requires.lists
    c.requires.table c.if-s-b.false _ c.minimum_length-least.ensures _ c.core_table-len.ensures _ c.length_fits.ensures in
    rw (told ∙ c.if-length_fits.true)

pub further-requires : goal.further-requires
further-requires c = rw c.length_spot-s.ensures (omega arith)

pub returns : goal.returns
unfolding entry_read
returns c =
    let z = c.args in
    let told = fits-here z.g z.lists.now z.exact z.b z.block.now z.t _ c.length_spot-s.ensures c.requires.lists
    c.requires.table c.if-s-b.false _ c.minimum_length-least.ensures _ c.core_table-len.ensures _ c.length_fits.ensures in
    rw (
      c.further.ensures,
      told ∙ c.if-length_fits.false,
      c.length_spot-s.ensures,
    )
