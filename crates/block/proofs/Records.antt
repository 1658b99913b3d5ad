-- A block's checksum word is one of its 256 words.
use Rattle.std.proofs.Common.{◌<◌, arith}
use Rattle.word.specs.Limits.{words_in_block}
use Rattle.block.specs.Records.{checksum_place}
use Rattle.block.specs.declared.Record.{Record}
use Rattle.block.specs.declared.Record.TheVariants.{Label, Modification, Program, Termination}

pub place_small : (r : Record) → checksum_place r < words_in_block
place_small Label = omega arith
place_small Modification = omega arith
place_small Program = omega arith
place_small Termination = omega arith
