-- `block::sum_words` meets its contract: by the loop's invariant, over what is left of the four quarters.
use Rattle.std.proofs.Common.{◌∙◌, arith, le-ltb, lt-ltb}
use Rattle.word.specs.Word.{word_limit, is_word}
use Rattle.word.specs.Lists.{every}
use Rattle.word.proofs.Tests.{tests}
use Rattle.block.specs.Block.{whole_block}
use Rattle.block.specs.HowChecksum.{total, summed}
use Rattle.block.proofs.Quarters.{left-all, sums_more, sums_end, words_more, words_end}
use Rattle.block.proofs.OnePass.{summed-none, summed-sum}
use Rattle.block.proofs.sum_words.Goals as goal

pub returns-then-block-ne-BLOCK_WORDS : goal.returns-then-block-ne-BLOCK_WORDS
unfolding summed whole_block
returns-then-block-ne-BLOCK_WORDS c = search tests

pub loop-i-init : goal.loop-i-init
loop-i-init c =
    let e = left-all c.args.block.now (omega arith) in
    (omega arith, rw e (omega arith), rw e)

pub loop-i-preserved : goal.loop-i-preserved
loop-i-preserved c =
    let l = c.loop-i in
    let b = c.args.block.now in (
      omega (arith, c.wrapping_add_u64-sum-in-loop-i-3.type_inv),
      rw (
        c.wrapping_add_u64-sum-in-loop-i-3.ensures.value,
        c.wrapping_add_u64-sum-in-loop-i-2.ensures.value,
        c.wrapping_add_u64-sum-in-loop-i.ensures.value,
        c.wrapping_add_u64-sum.ensures.value,
      )
          (sums_more b l.i (omega arith) l.sum (total b) (omega arith) l.invariant.1),
      words_more b l.i (omega arith) l.any (every is_word b) (omega arith) l.invariant.2,
    )

pub returns-then-any-ge-WORD_LIMIT : goal.returns-then-any-ge-WORD_LIMIT
returns-then-any-ge-WORD_LIMIT c =
    let l = c.loop-i in
    let b = c.args.block.now in
    summed-none b (omega arith)
    (words_end b l.i (omega arith) l.any (every is_word b) (omega arith) l.invariant.2 ∙ le-ltb l.any word_limit c.if-any-ge-WORD_LIMIT.true)

pub returns-else-any-ge-WORD_LIMIT : goal.returns-else-any-ge-WORD_LIMIT
returns-else-any-ge-WORD_LIMIT c =
    let l = c.loop-i in
    let b = c.args.block.now in
    summed-sum b l.sum (omega arith)
    (words_end b l.i (omega arith) l.any (every is_word b) (omega arith) l.invariant.2 ∙ lt-ltb l.any word_limit c.if-any-ge-WORD_LIMIT.false)
    l.invariant.0
    (sums_end b l.i (omega arith) l.sum (total b) (omega arith) l.invariant.1)
