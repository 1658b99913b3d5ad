-- `refusals::word_step`: from what its callees ensure.
use Rattle.std.specs.Prelude.{Err}
use mathlib.Core.Path.{◌≡◌, sym, ap, ◌∙◌}
use native.Mathlib.Omega.{arith}
use Rattle.word.specs.declared.Half.TheVariants.{Left}
use Rattle.field.specs.Field.{assigned_by}
use Rattle.indicator.specs.HowCursor.{look_of}
use Rattle.indicator.proofs.Places.{width_most}
use Rattle.group.proofs.Both.{half_word, word_goes, word_stops}
use borrow.Author.Rules.{rules}
use Rattle.group.proofs.refusals.word_step.Goals as goal

pub pass-d-requires : goal.pass-d-requires
pass-d-requires c = omega (arith, c.requires.0.near)

pub half_step-requires : goal.half_step-requires
half_step-requires c = let p = c.requires.0 in (p.lists, p.word)

pub overflow_add-bit : goal.overflow_add-bit
overflow_add-bit c = omega (arith, c.requires.1, c.width.ensures, width_most c.look-m.result)

pub half_step-requires-2 : goal.half_step-requires-2
half_step-requires-2 c =
    let a = c.args in (
      c.requires.0.lists,
      half_word (assigned_by a.s a.lists.now) Left _ _ a.w _ c.requires.0.word (sym
          c.half_step.ensures ∙ c.in_ok-v.was),
    )

pub returns : goal.returns
returns c =
    let a = c.args in
    let s = assigned_by a.s a.lists.now in
    word_goes s a.bit a.w a.c _
    (c.look-m.ensures ∙ ap (look_of a.c.ahead) c.field.ensures) _ _ _ _ (sym
    c.half_step.ensures ∙ c.in_ok-v.was)
    c.pass-d.ensures (c.look-r.ensures ∙ ap (look_of _) c.field-2.ensures)
    (rw (← c.width.ensures) c.half_step-2.ensures)

pub returns-in_err-v : goal.returns-in_err-v
returns-in_err-v c =
    let a = c.args in
    let e : c.from_residual.result ≡ Err c.in_err-v.field-0.0 = search rules in
    e ∙ word_stops (assigned_by a.s a.lists.now) a.bit a.w a.c _
    (c.look-m.ensures ∙ ap (look_of a.c.ahead) c.field.ensures) _
    (sym c.half_step.ensures ∙ c.in_err-v.was)
