-- `records::entry_step` meets its contract: each return by what the entries are answered with.
use mathlib.Core.Path.{sym, ◌∙◌}
use borrow.Author.Tests.{lt-ltb, le-ltb}
use Rattle.std.proofs.Common.{rules}
use Rattle.lists.proofs.Reading.{core-length}
use Rattle.records.specs.Entries.{after_entries, entry_step}
use Rattle.records.proofs.Turns.{entries_good, entries_bad}
use Rattle.records.proofs.entry_step.Goals as goal

pub returns-then-next-entry_blocks : goal.returns-then-next-entry_blocks
unfolding entry_step after_entries
returns-then-next-entry_blocks c =
    rw (
      entries_good _ _ _ _ _ (sym c.read_entries.ensures ∙ c.in_ok-read_entries.was),
      core-length c.args.g c.args.lists.now c.requires.lists,
      ← c.entry_blocks.ensures,
      lt-ltb _ _ c.if-next-entry_blocks.true,
    )

pub returns : goal.returns
unfolding entry_step after_entries
returns c =
    rw (
      entries_good _ _ _ _ _ (sym c.read_entries.ensures ∙ c.in_ok-read_entries.was),
      core-length c.args.g c.args.lists.now c.requires.lists,
      ← c.entry_blocks.ensures,
      le-ltb _ _ c.if-next-entry_blocks.false,
    )

pub returns-in_err-read_entries : goal.returns-in_err-read_entries
unfolding entry_step
returns-in_err-read_entries c =
    let e = entries_bad _ _ _ _ _ _ (sym c.read_entries.ensures ∙ c.in_err-read_entries.was) in
    search (rules, e.0, e.1)
