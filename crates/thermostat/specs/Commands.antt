-- The command bytes of the DS1821, taken right after a reset. `src/lib.rt` has the same names for the code.
use Rattle.std.specs.Prelude.{ℕ}

abbrev pub start_conversion : ℕ
start_conversion = 0xEE

abbrev pub stop_conversion : ℕ
stop_conversion = 0x22

abbrev pub read_temperature : ℕ
read_temperature = 0xAA

abbrev pub write_high : ℕ
write_high = 0x01

abbrev pub write_low : ℕ
write_low = 0x02

abbrev pub read_high : ℕ
read_high = 0xA1

abbrev pub read_low : ℕ
read_low = 0xA2

abbrev pub write_status : ℕ
write_status = 0x0C

abbrev pub read_status : ℕ
read_status = 0xAC
