-- `book::tags::read_kind` meets its contract: at every turn the tags of the entries passed are written.
use mathlib.Core.Path.{sym, ◌∙◌}
use Rattle.word.proofs.Lists.{copied_none, copied_more, copied_all}
use Rattle.book.specs.HowKept.{with_tags}
use Rattle.book.proofs.Kept.{few_entries, lent_in, tags_long, tags_at}
use native.Mathlib.Omega.{arith}
use Rattle.book.proofs.tags.read_kind.Goals as goal

pub loop-j-init : goal.loop-j-init
loop-j-init c = copied_none _ _ _

pub tag_of-requires : goal.tag_of-requires
tag_of-requires c = (c.requires.0, omega (arith, few_entries c.args.l c.args.kind c.requires.0, c.count_of-n.ensures))

pub overflow_add-kept : goal.overflow_add-kept
overflow_add-kept c = omega (arith, lent_in c.args.l c.args.kind _ _ c.requires.0 c.start_of-a.ensures c.count_of-n.ensures)

pub offset_bounds-kept-a : goal.offset_bounds-kept-a
offset_bounds-kept-a c = omega (arith, lent_in c.args.l c.args.kind _ _ c.requires.0 c.start_of-a.ensures c.count_of-n.ensures)

pub bounds-kept-a : goal.bounds-kept-a
bounds-kept-a c = omega (arith, lent_in c.args.l c.args.kind _ _ c.requires.0 c.start_of-a.ensures c.count_of-n.ensures)

pub loop-j-preserved : goal.loop-j-preserved
loop-j-preserved c =
    let l = c.loop-j in
    let n = c.count_of-n.ensures in
    let i = lent_in c.args.l c.args.kind _ _ c.requires.0 c.start_of-a.ensures n in
    let t = tags_long c.args.blocks.now c.args.l c.args.kind in
    copied_more _ _ _ l.j _ _ (omega arith) (omega arith)
    (c.tag_of.ensures ∙ sym (tags_at c.args.blocks.now c.args.l c.args.kind l.j (omega arith)))
    l.invariant

pub returns : goal.returns
unfolding with_tags
returns c =
    let l = c.loop-j in
    let t = tags_long c.args.blocks.now c.args.l c.args.kind in
    let n = c.count_of-n.ensures in
    rw (sym c.start_of-a.ensures) (copied_all _ _ _ l.j _ (omega arith) l.invariant)
