-- The 16 of the label: "Then 16 if the lists' counts differ from the file's or a jump switch or channel number is over 15."
use Rattle.std.specs.Prelude.{ℕ, Bool, ◌&&◌, List, length, take, eqb, leb}
use Rattle.word.specs.Lists.{every}
use Rattle.label.specs.declared.Label.{Label}
use Rattle.label.specs.Label.{channel_count, io_count}

-- a number that a jump switch or channel reference may be given
abbrev pub channel_most : ℕ
channel_most = 15

abbrev pub is_channel : ℕ → Bool
is_channel n = leb n channel_most

-- the lists fit the label: ios the numbers of the I/O references, tables how many core tables there are
unfoldable pub assignments_fit : Label → List ℕ → ℕ → Bool
assignments_fit l ios tables =
    eqb (length ios) (io_count l) && (eqb tables l.tables && every is_channel (take (channel_count l) ios))
