-- Where things stand in a scratchpad, named once: bytes 0 to 7, and the ninth, their CRC. `src/lib.rt` has the same
-- places for the code.
use Rattle.std.specs.Prelude.{ℕ}

-- the reading's low byte, then its high byte
abbrev pub reading_low_place : ℕ
reading_low_place = 0

abbrev pub reading_high_place : ℕ
reading_high_place = 1

-- the settings: high limit, low limit and, where the family has one, configuration
abbrev pub high_limit_place : ℕ
high_limit_place = 2

abbrev pub low_limit_place : ℕ
low_limit_place = 3

abbrev pub configuration_place : ℕ
configuration_place = 4

-- the counts behind a reading in half degrees: what is left to the next degree, and how many a degree has
abbrev pub count_remain_place : ℕ
count_remain_place = 6

abbrev pub count_per_degree_place : ℕ
count_per_degree_place = 7

abbrev pub crc_place : ℕ
crc_place = 8
