-- `group_step`: words that lie where they must lie in the core; filled there they are the outcome.
use mathlib.Core.Path.{◌≡◌, refl, sym, ap, ◌∙◌}
use mathlib.Core.Bool.{true}
use native.Mathlib.Omega.{arith}
use lib.ListN.{length}
use Prim.Native.Nat.{ℕ, ◌+◌, ◌≤◌}
use mathlib.Core.List.{List}
use Rattle.word.specs.declared.Area.{Area}
use Rattle.group.specs.declared.Section.{Section}
use Rattle.word.specs.declared.Absolute.{Absolute}
use Rattle.field.specs.Field.{assigned_by}
use Rattle.program.specs.declared.Group.{Group}
use Rattle.group.specs.Group.{InArea, words_lie, address_of, read_outcome, group_step}
use Rattle.group.proofs.Places.{words_lie_lem, group_sized}
use Rattle.group.proofs.Steps.{outcome_filled, outcome_outside}
use borrow.Author.Rules.{rules}
use Rattle.std.specs.Prelude.{Err}
use Rattle.group.proofs.group_step.Goals as goal

-- the words of a group that lies where it must end inside the core
its_end : (area : Area) (section : Section) (g : Group) (core : List ℕ) (to : Absolute) → InArea area section → words_lie section g ≡ true
    → to ≡ address_of area section g → area.at.0 + area.size ≤ length core → to.0 + g.program ≤ length core
its_end area section g core to room lies e inside =
    let l = rw (sym e) at (words_lie_lem area section g room lies) in
    omega (arith, l.high, inside)

pub address_of-to-requires : goal.address_of-to-requires
address_of-to-requires c =
    let p = c.requires in
    record {
      inside = omega (arith, p.inside, p.most);
      room = p.room;
      sized = group_sized _ _
          (sym c.read_group.ensures
          ∙ c.in_ok-g.was);
    }

pub overflow_add-past : goal.overflow_add-past
overflow_add-past c = omega (arith, its_end c.args.s.given.area c.args.section c.in_ok-g.g c.args.core.now _ c.requires.room (sym c.words_lie.ensures ∙ c.if-not-words_lie.false) c.address_of-to.ensures c.requires.inside, c.requires.most)

pub offset_bounds-core-first : goal.offset_bounds-core-first
offset_bounds-core-first c =
    omega
    (arith, its_end c.args.s.given.area c.args.section c.in_ok-g.g c.args.core.now _ c.requires.room (sym c.words_lie.ensures ∙ c.if-not-words_lie.false) c.address_of-to.ensures c.requires.inside, c.requires.most)

pub slice_bounds-fill_group-end : goal.slice_bounds-fill_group-end
slice_bounds-fill_group-end c =
    its_end c.args.s.given.area c.args.section c.in_ok-g.g c.args.core.now _ c.requires.room (sym c.words_lie.ensures ∙ c.if-not-words_lie.false) c.address_of-to.ensures c.requires.inside

pub fill_group-requires : goal.fill_group-requires
fill_group-requires c =
    let p = c.requires in
    record {
      lists = p.lists;
      long = p.long;
      words = p.words;
      place = p.place;
      sized = group_sized _ _ (sym c.read_group.ensures ∙ c.in_ok-g.was);
      room = search rules;
    }

pub returns : goal.returns
unfolding group_step read_outcome assigned_by
returns c =
    rw (sym c.read_group.ensures
    ∙ c.in_ok-g.was)
    (outcome_filled _ _ _ _ _ _ c.requires.long (omega (arith, its_end c.args.s.given.area c.args.section c.in_ok-g.g c.args.core.now _ c.requires.room (sym c.words_lie.ensures ∙ c.if-not-words_lie.false) c.address_of-to.ensures c.requires.inside, ap (λ (x : Absolute). x.0) c.address_of-to.ensures))
    (sym c.words_lie.ensures ∙ c.if-not-words_lie.false) _ (ap (λ (x : Absolute). x.0) c.address_of-to.ensures) _ _ c.fill_group.ensures)

pub returns-then-not-words_lie : goal.returns-then-not-words_lie
unfolding group_step read_outcome assigned_by
returns-then-not-words_lie c =
    rw (sym c.read_group.ensures ∙ c.in_ok-g.was)
    (outcome_outside _ _ _ _ _ _ (sym c.words_lie.ensures ∙ c.if-not-words_lie.true))

pub returns-in_err-g : goal.returns-in_err-g
unfolding group_step read_outcome
returns-in_err-g c =
    let e : c.from_residual.result ≡ Err c.in_err-g.field-0.0 = search rules in
    rw (e, sym c.read_group.ensures ∙ c.in_err-g.was)
    (record { told = refl; left = refl })
