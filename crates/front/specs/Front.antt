-- The front of a program file (#101): "a file's label and modification blocks", lent as one slice, block after block. The fault is
-- the one that feeding the blocks in their order gives first, 16 left out: block by block, in each 11, 12 and then 13 on. "13 also
-- for a block missing or over". A place is counted through the whole slice: 256 words a block.
use Rattle.std.specs.Prelude.{ℕ, zero, suc, ◌+◌, ◌*◌, ◌^◌, Bool, List, length, get_or, ltb, Result, Ok, Err}
use Rattle.word.specs.Limits.{words_in_block}
use Rattle.word.specs.Lists.{range}
use Rattle.word.specs.Fault.{fault, further, unless, Verdict, pass}
use Rattle.word.specs.declared.Fault.{Fault}
use Rattle.block.specs.Records.{of_record}
use Rattle.block.specs.Block.{verdict}
use Rattle.block.specs.declared.Record.TheVariants.{Label as label-record, Modification, Program}
use Rattle.label.specs.Label.{label_of, io_count}
use Rattle.label.specs.declared.Label.{Label}
use Rattle.modification.specs.Entries.{entry_blocks, spot_of}

-- a verdict, and the one that follows where it passes
abbrev pub on_pass : Verdict → Verdict → Verdict
on_pass (Ok t) v = v
on_pass (Err f) v = Err f

-- a label that is read once a verdict passes
abbrev pub label_on_pass : Verdict → Result Label Fault → Result Label Fault
label_on_pass (Ok t) r = r
label_on_pass (Err f) r = Err f

-- the words lent as a label: 11 and 12, then 14 and 15, as in feed
unfoldable pub label_block : List ℕ → Result Label Fault
label_block block = label_on_pass (verdict label-record block) (label_of block)

-- block i, of which some word is there; the last one may be a part of a block, which is refused with 11
unfoldable pub block_at : List ℕ → ℕ → List ℕ
block_at blocks i = range blocks (words_in_block * i) words_in_block

abbrev pub is_there : List ℕ → ℕ → Bool
is_there blocks i = ltb (words_in_block * i) (length blocks)

-- 13 at the first word of block i
abbrev pub wrong_record : ℕ → Fault
wrong_record i = further (words_in_block * i) (fault 13)

-- block i, where a modification block is due: 13 where it is missing; 11, 12 and 13 as in feed
unfoldable pub modification_at : List ℕ → ℕ → Verdict
modification_at blocks i =
    unless (is_there blocks i) (Err (wrong_record i))
    (on_pass (verdict Modification (block_at blocks i))
    (unless (of_record Modification (block_at blocks i)) (Err (wrong_record i)) pass))

-- blocks 1 to m, one after another
unfoldable pub modifications_to : List ℕ → ℕ → Verdict
modifications_to blocks zero = pass
modifications_to blocks (suc m) = on_pass (modifications_to blocks m) (modification_at blocks (suc m))

-- block i, where no block is due any more: one that is over is tested for 11 and 12, as the program block that feed waits for
-- there, and is then 13
unfoldable pub over_at : List ℕ → ℕ → Verdict
over_at blocks i =
    unless (is_there blocks i) pass
    (on_pass (verdict Program (block_at blocks i)) (Err (wrong_record i)))

-- what stands behind the label, where m modification blocks are due
unfoldable pub behind_label : List ℕ → ℕ → Verdict
behind_label blocks m = on_pass (modifications_to blocks m) (over_at blocks (suc m))

-- how many modification blocks a label makes due
abbrev pub blocks_due : Label → ℕ
blocks_due l = entry_blocks (io_count l) l.tables

abbrev pub with_blocks : List ℕ → Result Label Fault → Result Label Fault
with_blocks blocks (Ok l) = label_on_pass (behind_label blocks (blocks_due l)) (Ok l)
with_blocks blocks (Err f) = Err f

-- the label of a front, or the first fault; where there is no block at all, 13
unfoldable pub front_of : List ℕ → Result Label Fault
front_of blocks = unless (is_there blocks 0) (Err (wrong_record 0)) (with_blocks blocks (label_block (block_at blocks 0)))

-- entry word k of a file, counted from 0 through all entry words: the first modification block is block 1
unfoldable pub entry_word : List ℕ → ℕ → ℕ
entry_word blocks k = get_or blocks (words_in_block * (1 + (spot_of k).block) + (spot_of k).word) 0

-- what a label needs, as one number: I/O entries, core entries in 2^10, modification blocks in 2^20
abbrev pub needs_value : Label → ℕ
needs_value l = io_count l + 2 ^ 10 * l.tables + 2 ^ 20 * blocks_due l
