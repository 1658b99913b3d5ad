-- `map::all_apart` meets its contract: the stretches not yet looked at decide.
use Rattle.std.proofs.Common.{ℕ, ◌≡◌, ◌+◌, ◌-◌, List, length, take, drop, sym, ◌∙◌, arith, length-drop}
use lib.Seq.{take_all}
use Rattle.word.proofs.Lists.{two_more, two_fails, two_ends}
use Rattle.map.specs.declared.Stretch.{Stretch}
use Rattle.map.specs.Map.{stretches_apart, none}
use Rattle.map.proofs.all_apart.Goals as goal

-- what is lent from place r on is all that stands there
lent : (m : List Stretch) (r : ℕ) → length m ≡ 8 → take (8 - r) (drop r m) ≡ drop r m
lent m r e = take_all (8 - r) (drop r m) (omega (arith, length-drop r m))

pub returns-then-not-apart_from_later : goal.returns-then-not-apart_from_later
returns-then-not-apart_from_later c =
    let t = sym c.apart_from_later.ensures ∙ c.if-not-apart_from_later.true in
    two_fails stretches_apart none _ c.loop-r.r _ (omega arith) (rw (lent c.args.m (c.loop-r.r + 1) (omega arith)) at t) c.loop-r.invariant

pub loop-r-preserved : goal.loop-r-preserved
loop-r-preserved c =
    let t = sym c.apart_from_later.ensures ∙ c.if-not-apart_from_later.false in
    two_more stretches_apart none _ c.loop-r.r _ (omega arith) (rw (lent c.args.m (c.loop-r.r + 1) (omega arith)) at t) c.loop-r.invariant

pub returns : goal.returns
returns c = two_ends stretches_apart none _ c.loop-r.r _ (omega arith) c.loop-r.invariant
