-- `halves::change_word`: from what its callees ensure.
use mathlib.Core.Path.{sym, ◌∙◌}
use native.Mathlib.Omega.{arith}
use Rattle.word.specs.declared.Half.TheVariants.{Left}
use Rattle.word.specs.Word.{field_of}
use Rattle.field.specs.Field.{assigned_by}
use Rattle.indicator.proofs.Reading.{past_left}
use Rattle.group.specs.HowHalves.{both_of}
use Rattle.group.proofs.Both.{half_fits, half_reach}
use Rattle.group.proofs.halves.change_word.Goals as goal

pub half-requires-2 : goal.half-requires-2
half-requires-2 c =
    let a = c.args in
    let k = assigned_by a.s a.lists.now in
    let e = sym c.half.ensures ∙ c.in_ok-v.was in
    record {
      lists = c.requires.lists;
      word = half_fits k Left a.w a.c _ _ c.requires.word e;
      near = rw (half_reach k Left a.w a.c _ _ e) (omega (arith, past_left a.c (field_of Left a.w), c.requires.near));
    }

pub returns : goal.returns
unfolding both_of
returns c = rw (sym c.half.ensures, c.in_ok-v.was) c.half-2.ensures

pub returns-in_err-v : goal.returns-in_err-v
unfolding both_of
returns-in_err-v c = rw (c.from_residual.ensures, sym c.half.ensures, c.in_err-v.was)
