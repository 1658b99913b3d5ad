-- Refusals 11 and 12: "block not 256 words, or a word of 2^36 or more"; "checksum word differs".
use Rattle.std.specs.Prelude.{ℕ, Bool, ◌&&◌, List, length, ◌==◌, Result, Ok, Err}
use Rattle.word.specs.Limits.{words_in_block}
use Rattle.word.specs.Word.{is_word}
use Rattle.word.specs.Lists.{every}
use Rattle.word.specs.Fault.{Verdict, pass, fault, unless}
use Rattle.block.specs.Records.{checksum_place}
use Rattle.block.specs.Checksum.{checksum, agrees}
use Rattle.block.specs.declared.Record.{Record}
use Rattle.word.specs.declared.Fault.{Fault}

-- 256 words below 2^36: where the words lent are not that, the refusal is 11
unfoldable pub whole_block : List ℕ → Bool
whole_block block = length block == words_in_block && every is_word block

-- of any words lent as a block that has its checksum at place p, by a rule for the checksum
unfoldable pub seal_verdict : (List ℕ → ℕ) → ℕ → List ℕ → Verdict
seal_verdict checksumOf p block =
    unless (whole_block block) (Err (fault 11))
    (unless (agrees checksumOf p block) (Err (fault 12)) pass)

-- of a block of record r, by the rule in force
unfoldable pub verdict : Record → List ℕ → Verdict
verdict r block = seal_verdict checksum (checksum_place r) block
