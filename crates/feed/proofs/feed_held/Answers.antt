-- `feed::feed_held`: the stage is the place's; each return by the tests that led to it.
use mathlib.Core.Path.{refl, sym, ◌∙◌}
use native.Mathlib.Omega.{arith}
use Rattle.desk.proofs.Facts.{sound-long}
use Rattle.layout.proofs.Places.{place-length}
use Rattle.feed.specs.Feed.{held_of, checked_of}
use Rattle.feed.proofs.Held.{held-kept_waits}
use Rattle.feed.proofs.Fed.{verdict_pass}
use Rattle.feed.proofs.feed_held.Goals as goal

pub place_at-requires : goal.place_at-requires
place_at-requires c = let q = c.requires in (sound-long _ q.desk, q.place)

pub stage_of-s-requires : goal.stage_of-s-requires
stage_of-s-requires c =
    let q = c.requires in rw c.place_at.ensures
    (place-length _ (sound-long _ q.desk) _ q.place)

pub returns-then-is_over : goal.returns-then-is_over
unfolding held_of
returns-then-is_over c =
    let e = rw c.place_at.ensures at c.stage_of-s.ensures in
    rw (← e, sym c.is_over.ensures ∙ c.if-is_over.true) (record { told = refl; desk_left = refl; core-left = refl })

pub take_block-requires : goal.take_block-requires
take_block-requires c =
    let q = c.requires in
    let e = rw c.place_at.ensures at
    c.stage_of-s.ensures in
    let v = verdict_pass _ _
    (sym c.check_block.ensures ∙ c.in-Ok.is) in
    record {
      long = sound-long _ q.desk;
      place = q.place;
      load = rw e (held-kept_waits _ q.desk _ q.place (λ z. omega (arith, q.held)) _ _ q.long v.0 v.1);
    }

pub returns-in-Ok : goal.returns-in-Ok
unfolding held_of checked_of
returns-in-Ok c =
    let e = rw
    c.place_at.ensures at c.stage_of-s.ensures in
    rw (← e, sym c.is_over.ensures ∙ c.if-is_over.false, ← c.record_due.ensures, sym c.check_block.ensures ∙ c.in-Ok.is) c.take_block.ensures

pub returns-in-Err : goal.returns-in-Err
unfolding held_of checked_of
returns-in-Err c =
    let e = rw c.place_at.ensures at
    c.stage_of-s.ensures in
    rw (
      ← e,
      sym c.is_over.ensures
          ∙ c.if-is_over.false,
      ← c.record_due.ensures,
      sym
          c.check_block.ensures ∙ c.in-Err.is,
    )
    (record { told = refl; desk_left = refl; core-left = refl })
