-- `changes::change_next`: from what its callees ensure.
use native.Mathlib.Omega.{arith}
use Rattle.group.proofs.Loop.{unchanged_next}
use Rattle.group.proofs.LoopTurn.{lent-given, next_turns, one_turns, pass_ready, half_ready, store_ready, out_many}
use Rattle.group.proofs.changes.change_next.Goals as goal

pub move_words-requires : goal.move_words-requires
move_words-requires c = (c.requires, c.if-c-eq-MOVED.true)

pub shape_of-out-then-c-eq-MOVED : goal.shape_of-out-then-c-eq-MOVED
shape_of-out-then-c-eq-MOVED c =
    omega (
      arith,
      c.move_words.ensures.long,
      out_many _ _ _ _ _ _ _
          c.requires,
    )

pub returns-then-c-eq-MOVED : goal.returns-then-c-eq-MOVED
returns-then-c-eq-MOVED c = c.move_words.ensures

pub pass_unchanged-requires : goal.pass_unchanged-requires
pass_unchanged-requires c =
    rw (lent-given c.args.words.now
    c.args.n) (pass_ready _ _ _ _ _ _ _
    c.requires)

pub shape_of-out-then-c-lt-NO_CHANGE : goal.shape_of-out-then-c-lt-NO_CHANGE
shape_of-out-then-c-lt-NO_CHANGE c =
    omega (
      arith,
      (next_turns _ _ _ _ _ _ _ c.requires _ _ (unchanged_next _ _ _ _ _ _ _
          c.if-c-lt-NO_CHANGE.true
          (rw (lent-given c.args.words.now c.args.n)
          at c.pass_unchanged.ensures))).long,
      out_many _ _ _ _ _ _ _ c.requires,
    )

pub returns-then-c-lt-NO_CHANGE : goal.returns-then-c-lt-NO_CHANGE
returns-then-c-lt-NO_CHANGE c =
    next_turns _ _ _ _ _ _ _ c.requires _ _ (unchanged_next _ _ _ _ _ _ _
    c.if-c-lt-NO_CHANGE.true
    (rw (lent-given c.args.words.now c.args.n)
    at c.pass_unchanged.ensures))

pub change_word-requires : goal.change_word-requires
change_word-requires c = half_ready _ _ _ _ _ _ _ c.requires

pub store_word-requires : goal.store_word-requires
store_word-requires c = store_ready _ _ _ _ _ _ _ c.requires

pub shape_of-out : goal.shape_of-out
shape_of-out c =
    omega (
      arith,
      (one_turns _ _ _ _ _ _ _ c.requires _ _ _
          c.change_word.ensures c.store_word.ensures).long,
      out_many _ _ _ _ _ _ _
          c.requires,
    )

pub returns : goal.returns
returns c =
    one_turns _ _ _ _ _ _ _ c.requires _ _ _
    c.change_word.ensures c.store_word.ensures
