-- `layout::place_at` meets its contract: each return by the tests that led to it.
use Rattle.word.proofs.Lists.{range-lent}
use Prim.Native.Nat.{◌+◌, ◌*◌}
use Rattle.layout.specs.Layout.{place_words, place_in}
use Rattle.layout.proofs.place_at.Goals as goal

pub returns : goal.returns
unfolding place_in
returns c = let a = c.args in range-lent a.desk.now (17 + a.p * place_words) place_words
