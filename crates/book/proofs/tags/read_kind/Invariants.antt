-- `book::tags::read_kind` meets its contract: at every turn the tags of the entries passed are written.
use mathlib.Core.Path.{◌≡◌}
use Rattle.word.proofs.Lists.{copied}
use Rattle.book.specs.Tags.{tags_of}
use Rattle.book.proofs.tags.read_kind.Given as goal

abbrev pub invariant-loop-j : goal.invariant-loop-j
invariant-loop-j l = l.kept ≡ copied l.initial.kept l.a (tags_of l.blocks l.l l.kind) l.j
