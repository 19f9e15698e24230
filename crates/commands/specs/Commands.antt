-- The command bytes of the scope's "One slot", named once for all definitions. `src/lib.rt` has the same names for the
-- code.
use Rattle.std.specs.Prelude.{ℕ}

-- ## ROM commands, taken after a reset

abbrev pub read_rom : ℕ
read_rom = 0x33

abbrev pub match_rom : ℕ
match_rom = 0x55

abbrev pub skip_rom : ℕ
skip_rom = 0xCC

abbrev pub search_rom : ℕ
search_rom = 0xF0

abbrev pub alarm_search : ℕ
alarm_search = 0xEC

-- ## Function commands, taken after a ROM command

abbrev pub convert : ℕ
convert = 0x44

abbrev pub write_scratchpad : ℕ
write_scratchpad = 0x4E

abbrev pub read_scratchpad : ℕ
read_scratchpad = 0xBE

abbrev pub copy_scratchpad : ℕ
copy_scratchpad = 0x48

abbrev pub recall_eeprom : ℕ
recall_eeprom = 0xB8

abbrev pub read_power : ℕ
read_power = 0xB4
