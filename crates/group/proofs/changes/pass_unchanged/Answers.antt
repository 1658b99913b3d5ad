-- `changes::pass_unchanged`: from what its callees ensure; words without change are no more than are left.
use Prim.Native.Nat.{◌-◌}
use mathlib.Core.Path.{refl, ap, ◌∙◌}
use native.Mathlib.Omega.{arith}
use lib.ListN.{length}
use borrow.Author.Tests.{eq-eqb, ne_eqb}
use Rattle.word.specs.Lists.{splice}
use Rattle.word.proofs.Lists.{length-range, range-lent}
use Rattle.indicator.proofs.Reading.{plain_words_lem}
use Rattle.group.specs.HowWords.{unchanged_step}
use Rattle.group.proofs.changes.pass_unchanged.Goals as goal

pub returns-then-c-ne0 : goal.returns-then-c-ne0
unfolding unchanged_step
returns-then-c-ne0 c = rw (ne_eqb _ _ c.if-c-ne0.true, c.pass_bits.ensures) (record { told = refl; left = refl })

pub overflow_add-past : goal.overflow_add-past
overflow_add-past c =
    let a = c.args in
    let p = plain_words_lem a.c (length a.given.now - a.k) c.requires.near (omega (arith, c.requires.left)) in
    omega (arith, c.unchanged-m.ensures, p.1, c.requires.most)

pub slice_bounds-copy_in-end : goal.slice_bounds-copy_in-end
slice_bounds-copy_in-end c =
    let a = c.args in
    let p = plain_words_lem a.c (length a.given.now - a.k) c.requires.near (omega (arith, c.requires.left)) in
    omega (arith, c.unchanged-m.ensures, p.1)

pub copy_in-requires : goal.copy_in-requires
copy_in-requires c =
    let a = c.args in
    let p = plain_words_lem a.c (length a.given.now - a.k) c.requires.near (omega (arith, c.requires.left)) in
    let m = c.unchanged-m.result in
    let e = ap length (range-lent a.given.now a.k m) ∙ length-range a.given.now a.k m (omega (
      arith,
      c.unchanged-m.ensures,
      p.1,
    )) in
    omega (arith, e, c.unchanged-m.ensures, p.1, c.requires.room)

pub pass_plain-requires : goal.pass_plain-requires
pass_plain-requires c =
    let a = c.args in
    let p = plain_words_lem a.c (length a.given.now - a.k) c.requires.near (omega (arith, c.requires.left)) in
    omega (arith, c.unchanged-m.ensures, p.2)

pub returns : goal.returns
unfolding unchanged_step
returns c =
    let a = c.args in
    rw (eq-eqb _ _ c.if-c-ne0.false, ← c.unchanged-m.ensures, c.pass_plain.ensures)
    (record {
      told = refl;
      left = c.copy_in.ensures ∙ ap (splice a.out.now a.k) (range-lent a.given.now a.k _);
    })
