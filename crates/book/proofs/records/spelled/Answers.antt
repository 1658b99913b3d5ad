-- `book::records::spelled` meets its contract: at every turn the bytes that are left make the number of all.
use mathlib.Core.Path.{refl}
use native.Mathlib.Omega.{arith}
use Rattle.book.proofs.Record.{spell_more, spell_end, spell_below, spell_fits}
use Rattle.book.proofs.records.spelled.Goals as goal

pub loop-b-init : goal.loop-b-init
loop-b-init g c = (omega arith, refl)

pub overflow_mul-n : goal.overflow_mul-n
overflow_mul-n g c =
    let l = c.loop-b in
    let p = c.requires in
    omega (arith, spell_fits g.row.BASE l.n 0 l.b-index p.small l.invariant.0 (omega arith) (omega arith))

pub overflow_add-n : goal.overflow_add-n
overflow_add-n g c =
    let l = c.loop-b in
    let p = c.requires in
    let d = c.type_inv.bytes l.b-index in
    omega (arith, spell_fits g.row.BASE l.n c.from.result l.b-index p.small l.invariant.0 (omega arith) (omega arith))

pub loop-b-preserved : goal.loop-b-preserved
loop-b-preserved g c =
    let l = c.loop-b in
    let p = c.requires in
    let d = c.type_inv.bytes l.b-index in (
      spell_below g.row.BASE l.n c.from.result l.b-index p.small l.invariant.0 (omega arith),
      rw c.from.ensures (spell_more _ _ _ _ l.b-index _ (omega arith) l.invariant.1),
    )

pub returns : goal.returns
returns g c = let l = c.loop-b in spell_end _ _ _ _ l.b-index _ (omega arith) l.invariant.1
