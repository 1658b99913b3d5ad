-- `word::slices::copy_whole` meets its contract: what is copied to the start of a list as long is the whole of it.
use mathlib.Core.Path.{sym, ◌∙◌}
use native.Mathlib.Omega.{arith}
use Rattle.word.proofs.Lists.{splice-whole}
use Rattle.word.proofs.slices.copy_whole.Goals as goal

pub returns : goal.returns
returns c = c.copy_in.ensures ∙ splice-whole c.args.dst.now c.args.src.now (sym c.requires)
