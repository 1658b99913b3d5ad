-- `count_fits`: the cursor sees the group's bits, and the indicators of the words that are left, read from its place, end where
-- those of all words end.
use native.Mathlib.Omega.{arith}
use Rattle.indicator.proofs.Turns.{counts_start, counts_full, counts_on, counts_end}
use borrow.Author.Rules.{rules}
use Rattle.indicator.proofs.count_fits.Goals as goal

pub loop-k-init : goal.loop-k-init
loop-k-init c = rw c.start-c.ensures (counts_start c.args.words.now c.args.n c.requires.program)

pub refill-requires : goal.refill-requires
refill-requires c =
    let t = c.loop-k.invariant in
    record { long = search rules; all = search rules; sees = t.sees; near = omega (arith, t.reach) }

pub pass_word-c-requires : goal.pass_word-c-requires
pass_word-c-requires c =
    let l = c.loop-k in
    rw c.refill.ensures
    (counts_full c.args.words.now c.args.n c.requires.all (omega arith) l.c l.k l.invariant).room

pub loop-k-preserved : goal.loop-k-preserved
loop-k-preserved c =
    let l = c.loop-k in
    rw (c.pass_word-c.ensures, c.refill.ensures)
    (counts_on c.args.words.now c.args.n c.requires.all (omega arith) l.c l.k l.invariant c.requires.program (omega arith))

pub place-requires : goal.place-requires
place-requires c =
    let t = c.loop-k.invariant in
    record { most = t.sees.most; few = search rules; left = omega (arith, t.sees.left) }

pub just_enough-requires : goal.just_enough-requires
just_enough-requires c = omega (arith, c.place.ensures, c.loop-k.invariant.reach)

pub returns : goal.returns
returns c =
    let a = c.args in
    let l = c.loop-k in
    rw (
      c.just_enough.ensures,
      c.place.ensures,
      counts_end a.words.now a.n l.c l.k (omega arith) l.invariant,
    )
