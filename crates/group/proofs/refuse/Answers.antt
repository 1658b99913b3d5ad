-- `refuse`: zeros in all of the words.
use mathlib.Core.Path.{refl, ◌∙◌}
use Rattle.group.proofs.Steps.{cleared-whole}
use Rattle.group.proofs.refuse.Goals as goal

pub returns : goal.returns
returns c =
    record {
      told = refl;
      left = c.clear.ensures
          ∙ cleared-whole c.args.out.now;
    }
