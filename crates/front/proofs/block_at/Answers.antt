-- `front::block_at` meets its contract: the part that is lent is the block, as far as it is there.
use Rattle.front.proofs.Blocks.{last-part}
use Prim.Native.Nat.{◌*◌}
use native.Mathlib.Omega.{arith}
use Rattle.word.proofs.Lists.{range-lent}
use Rattle.word.specs.Limits.{words_in_block}
use Rattle.front.specs.Front.{block_at}
use Rattle.front.proofs.block_at.Goals as goal

pub returns-then-blocks-a-lt-BLOCK_WORDS : goal.returns-then-blocks-a-lt-BLOCK_WORDS
unfolding block_at
returns-then-blocks-a-lt-BLOCK_WORDS c = let a = c.args in last-part a.blocks.now (words_in_block * a.i) words_in_block (omega arith)

pub returns : goal.returns
unfolding block_at
returns c = let a = c.args in range-lent a.blocks.now (words_in_block * a.i) words_in_block
