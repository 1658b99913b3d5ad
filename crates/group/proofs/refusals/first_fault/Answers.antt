-- `refusals::first_fault`: no word before is refused, so the words that are left tell the first refusal.
use native.Mathlib.Omega.{arith}
use Rattle.group.proofs.FirstFault.{looks_start, looks_end, look_refills, look_place, look_bit, look_ready}
use Rattle.group.proofs.FirstFault.{look_word, look_stops, look_on}
use Rattle.group.proofs.refusals.first_fault.Goals as goal

pub loop-k-init : goal.loop-k-init
loop-k-init c = rw c.start-c.ensures (looks_start _ _ _ c.requires.program)

pub place-bit-requires : goal.place-bit-requires
place-bit-requires c = look_place _ _ _ _ _ c.requires _ _ c.loop-k.invariant

pub refill-full-requires : goal.refill-full-requires
refill-full-requires c = look_refills _ _ _ _ _ c.requires _ _ c.loop-k.invariant

pub word_step-requires : goal.word_step-requires
word_step-requires c =
    let p = c.requires in
    let t = c.loop-k.invariant in (
      look_ready _ _ _ _ _ p _ _ t c.loop-k-test.true _ c.refill-full.ensures,
      rw c.place-bit.ensures (look_bit _ _ _ _ _ p _ _ t),
    )

pub pass_word-c-requires : goal.pass_word-c-requires
pass_word-c-requires c =
    (look_ready _ _ _ _ _ c.requires _ _ c.loop-k.invariant
    c.loop-k-test.true _ c.refill-full.ensures).near

pub loop-k-preserved : goal.loop-k-preserved
loop-k-preserved c =
    rw c.pass_word-c.ensures (look_on _ _ _ _ _ c.requires _ _ c.loop-k.invariant
    c.loop-k-test.true _ c.refill-full.ensures _
    (rw (← c.place-bit.ensures) c.word_step.ensures) _ c.in-Ok.is)

pub further-requires : goal.further-requires
further-requires c =
    let p = c.requires in
    let h = c.loop-k-test.true in
    let w = look_word _ _ _ _ _ p _ _ c.loop-k.invariant h _ c.refill-full.ensures _
    (rw (← c.place-bit.ensures) c.word_step.ensures) _ c.in-Err.is in
    omega (arith, w, h, p.program, p.few)

pub returns-in-Err : goal.returns-in-Err
returns-in-Err c =
    rw c.further.ensures (look_stops _ _ _ _ _ c.requires _ _ c.loop-k.invariant
    c.loop-k-test.true _ c.refill-full.ensures _
    (rw (← c.place-bit.ensures) c.word_step.ensures) _ c.in-Err.is)

pub returns : goal.returns
returns c = looks_end _ _ _ _ _ c.loop-k.invariant c.loop-k-test.false
