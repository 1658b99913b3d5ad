-- The house's limits, each once: of rooms, places, words of core and of a block, and how many I/O references and core tables a
-- load has, in the label ("at most 128") and in the lists lent to open ("over 128 entries"). src/limits.rt has the same for the
-- code.
use Rattle.std.specs.Prelude.{ℕ, ◌*◌}

-- "Eight rooms, 0 to 7; twelve places, 0 to 11."
abbrev pub room_count : ℕ
room_count = 8

abbrev pub place_count : ℕ
place_count = 12

-- "a map: eight pairs, start and length of each room's stretch"
abbrev pub map_words : ℕ
map_words = 2 * room_count

-- refusal 2: "core length 0, over 65,536"
abbrev pub core_most : ℕ
core_most = 65536

abbrev pub io_most : ℕ
io_most = 128

abbrev pub tables_most : ℕ
tables_most = 128

-- "block not 256 words" is refused with 11
abbrev pub words_in_block : ℕ
words_in_block = 256
