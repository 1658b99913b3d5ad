-- `book::take_records` meets its contract: at every turn the records passed have left their marks, and no two are for one tag.
use Rattle.book.proofs.Taking.{taken_none, take_ready, taken_more, taken_stops, taken-all}
use native.Mathlib.Omega.{arith}
use Rattle.book.proofs.take_records.Goals as goal

pub loop-i-init : goal.loop-i-init
loop-i-init c = let p = c.requires in taken_none _ _ _ _ p.look.long p.look.carried p.none

pub read_record-requires : goal.read_record-requires
read_record-requires c = (c.requires.look.right, omega (arith, c.count-i-end.ensures))

pub take_record-requires : goal.take_record-requires
take_record-requires c =
    let l = c.loop-i in
    take_ready _ _ _ _ l.i c.requires.look (omega (arith, c.count-i-end.ensures)) _ c.read_record.ensures l.invariant.marks-kept.long

pub returns-then-not-take_record : goal.returns-then-not-take_record
returns-then-not-take_record c =
    let l = c.loop-i in
    taken_stops _ _ _ _ l.i c.requires.look (omega (arith, c.count-i-end.ensures)) _ c.read_record.ensures _ _ c.take_record.ensures
    l.invariant c.if-not-take_record.true

pub loop-i-preserved : goal.loop-i-preserved
loop-i-preserved c =
    let l = c.loop-i in
    taken_more _ _ _ _ l.i c.requires.look (omega (arith, c.count-i-end.ensures)) _ c.read_record.ensures _ _ c.take_record.ensures
    l.invariant c.if-not-take_record.false

pub returns : goal.returns
returns c =
    let l = c.loop-i in
    taken-all _ _ _ _ l.i (omega (arith, c.count-i-end.ensures)) (omega (arith, c.count-i-end.ensures)) l.invariant
