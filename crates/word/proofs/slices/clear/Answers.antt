-- `word::slices::clear` meets its contract: the part that was lent came back as zeros.
use mathlib.Core.Path.{ap, ◌∙◌}
use lib.ListN.{length, replicate, length-replicate}
use Rattle.word.specs.Lists.{cleared}
use Rattle.word.proofs.Lists.{lent-whole, range-lent, length-range}
use Rattle.word.proofs.slices.clear.Goals as goal

pub returns : goal.returns
unfolding cleared
returns c =
    let l = c.args.dst.now in
    let a = c.args.a in
    let n = c.args.n in
    let e = ap length (range-lent l a n) ∙ length-range l a n c.requires in
    rw (c.fill.ensures.after (λ y h. h), e) (lent-whole l a n (replicate n 0) c.requires (length-replicate n 0))
