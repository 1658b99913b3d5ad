-- `block::sum_words` meets its contract: by the loop's invariant, over what is left of the four quarters.
use Rattle.std.proofs.Common.{◌≡◌, ◌+◌, ◌%◌, ◌^◌, ◌<◌, ◌&&◌}
use Rattle.word.specs.Word.{is_word}
use Rattle.word.specs.Lists.{every}
use Rattle.block.specs.HowChecksum.{total, quarters, left_of}
use Rattle.block.proofs.sum_words.Given as goal

abbrev pub invariant-loop-i : goal.invariant-loop-i
invariant-loop-i l = (l.sum < 2 ^ 64) × ((l.sum + total (left_of quarters l.block l.i)) % 2 ^ 64 ≡ total l.block % 2 ^ 64)
    × (every is_word l.block ≡ (is_word l.any && every is_word (left_of quarters l.block l.i)))
