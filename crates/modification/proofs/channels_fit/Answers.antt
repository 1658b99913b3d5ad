-- `modification::channels_fit` meets its contract: `all` tries the numbers in order.
use Rattle.std.proofs.Common.{refl, ◌∙◌, ℕ, arith}
use Rattle.std.proofs.lemmas.Iterator.{YieldsList-from_range}
use Rattle.std.proofs.lemmas.Iterator.Search.{all_from_yields_List}
use Rattle.lists.specs.HowKept.{number_in}
use Rattle.word.proofs.Tests.{tests}
use Rattle.modification.specs.Assignments.{is_channel}
use Rattle.modification.proofs.Channels.{channels_all}
use Rattle.modification.proofs.channels_fit.Goals as goal

pub returns : goal.returns
returns c =
    let ws = c.args.ios.now in
    all_from_yields_List (λ (k : ℕ). is_channel (number_in ws k)) _ _ _ c.all.ensures.ran
    (YieldsList-from_range 0 c.args.m c.args.m refl (omega arith))
    (λ x b q k. search tests)
    ∙ channels_all ws c.args.m
