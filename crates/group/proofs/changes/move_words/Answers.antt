-- `changes::move_words`: a run of the commonest change leaves what the loop's turns leave.
use mathlib.Core.Path.{refl, ◌∙◌}
use native.Mathlib.Omega.{arith}
use lib.ListN.{length-set}
use Rattle.word.proofs.Cases.{by-lt}
use Rattle.field.specs.Field.{assigned_by}
use Rattle.group.proofs.LoopTurn.{turn_many, turn_word, run_goes, run_stops, run_at, run_stop, fewer_left}
use borrow.Author.Rules.{rules}
use Rattle.group.proofs.changes.move_words.Goals as goal

pub loop-c-init : goal.loop-c-init
loop-c-init c = (
  omega arith,
  c.requires.0.many,
  λ e. refl,
  c.requires.0.reached,
)

pub returns-then-n-k : goal.returns-then-n-k
returns-then-n-k c =
    run_at _ _ _ _ _ _ _ c.requires.0.program (omega (arith, c.requires.0.more, c.if-n-k.true))
    c.loop-c.invariant.3

pub moved_word-requires : goal.moved_word-requires
moved_word-requires c =
    record {
      inside = search rules;
      word = turn_word _ _ _ _ _ _ _ c.requires.0 _ _ _
          c.loop-c.invariant.3 (omega (arith, c.if-n-k.false))
          c.loop-c.invariant.1;
      near = omega (arith, c.loop-c.invariant.1);
    }

pub bounds-out-k : goal.bounds-out-k
bounds-out-k c =
    omega (
      arith,
      c.loop-c.invariant.3.long,
      turn_many _ _ _ _ _ _ _ c.requires.0,
      c.if-n-k.false,
    )

pub shape_of-out-then-d-le-FEW : goal.shape_of-out-then-d-le-FEW
shape_of-out-then-d-le-FEW c =
    omega (
      arith,
      length-set c.loop-c.out c.loop-c.k
          c.in_ok-moved.moved,
      c.loop-c.invariant.3.long,
      c.requires.0.reached.long,
    )

pub returns-then-d-le-FEW : goal.returns-then-d-le-FEW
unfolding assigned_by
returns-then-d-le-FEW c =
    run_at _ _ _ _ _ _ _ c.requires.0.program (omega (arith, c.loop-c.invariant.0))
    (run_goes _ _ _ _ _ _ _ c.requires.0 _ _ _ c.loop-c.invariant.3 (omega (
      arith,
      c.if-n-k.false,
    )) c.loop-c.invariant.1 _
    c.moved_word.ensures c.loop-c-test.true _ _
    c.in_ok-moved.was)

pub loop-c-smaller : goal.loop-c-smaller
loop-c-smaller c = fewer_left _ _ (omega (arith, c.if-n-k.false))

pub loop-c-preserved : goal.loop-c-preserved
unfolding assigned_by
loop-c-preserved c = (
  omega (arith, c.loop-c.invariant.0),
  omega (arith, c.if-d-le-FEW.false),
  (λ e. absurd (omega (arith, c.loop-c.invariant.0))),
  run_goes _ _ _ _ _ _ _ c.requires.0 _ _ _ c.loop-c.invariant.3 (omega (
    arith,
    c.if-n-k.false,
  )) c.loop-c.invariant.1 _
      c.moved_word.ensures c.loop-c-test.true _ _
      c.in_ok-moved.was,
)

pub returns-in_err-moved : goal.returns-in_err-moved
unfolding assigned_by
returns-in_err-moved c =
    rw c.from_residual.ensures (run_stop _ _ _ _ _ (c.loop-c.invariant.3.long ∙ turn_many _ _ _ _ _ _ _
    c.requires.0)
    (run_stops _ _ _ _ _ _ _ c.requires.0 _ _ _ c.loop-c.invariant.3 (omega
    (arith, c.if-n-k.false)) c.loop-c.invariant.1 _
    c.moved_word.ensures c.loop-c-test.true
    c.in_err-moved.was))

pub returns : goal.returns
returns c =
    let l = c.loop-c in
    run_at _ _ _ _ _ _ _ c.requires.0.program
    (by-lt _ _ (λ h. h) (λ h. absurd (c.loop-c-test.false (rw (l.invariant.2 (omega (arith, l.invariant.0))) c.requires.1))))
    l.invariant.3
