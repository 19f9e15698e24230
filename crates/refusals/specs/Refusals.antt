-- The refusal numbers of the scope's table, named once for all definitions. 0 is no refusal.
-- `src/lib.rt` has the same names for the code.
use Rattle.std.specs.Prelude.{ℕ}

abbrev pub accepted : ℕ
accepted = 0

-- a list, a buffer or the rest of a buffer is too short
abbrev pub no_room : ℕ
no_room = 1

-- a character is no upper-case hexadecimal digit, or a line has no line feed
abbrev pub not_hex : ℕ
not_hex = 2

-- a line or a frame has not the shape of one
abbrev pub malformed : ℕ
malformed = 3

-- no device answered the reset
abbrev pub no_presence : ℕ
no_presence = 4

-- the CRC of a code or of a scratchpad is wrong
abbrev pub wrong_crc : ℕ
wrong_crc = 5

-- all nine scratchpad bytes are zero
abbrev pub all_zero : ℕ
all_zero = 6

-- the family is none of ours, or a configuration is not in its stored form
abbrev pub wrong_kind : ℕ
wrong_kind = 7

-- the code is already on the bench, in the store of settings or in the list of readings
abbrev pub duplicate : ℕ
duplicate = 8

-- the bench, the store of settings or the list of readings has no place left
abbrev pub bench_full : ℕ
bench_full = 9

-- a line-powered device is busy and holds the wire
abbrev pub wire_busy : ℕ
wire_busy = 10

-- a temperature is outside -55 to +125 degrees
abbrev pub out_of_range : ℕ
out_of_range = 11

-- the code is not on the bench, or not in the store of settings
abbrev pub not_found : ℕ
not_found = 12

-- the bytes read back differ, or the device is not busy with what is to be finished
abbrev pub mismatch : ℕ
mismatch = 13

-- a search pass holds a triple that no device can give
abbrev pub bad_triple : ℕ
bad_triple = 14

-- a pulse or a gap of the line has none of the lengths that the rule knows
abbrev pub bad_pulse : ℕ
bad_pulse = 15

-- the time of an edge is not above that of the edge before it
abbrev pub not_later : ℕ
not_later = 16

-- the address pins of a device that has them are over 15
abbrev pub wrong_pins : ℕ
wrong_pins = 17

-- a change names a version of settings that is not the current one
abbrev pub stale_version : ℕ
stale_version = 18

-- settings are at the last version that there is
abbrev pub versions_spent : ℕ
versions_spent = 19

-- the count bytes of a scratchpad in half degrees cannot be: byte 7 is zero, or byte 6 above it
abbrev pub wrong_counts : ℕ
wrong_counts = 20

-- a row of comma-separated text has not the form of one, or its reading is none that the family has
abbrev pub bad_row : ℕ
bad_row = 21

-- the bytes of a table are not those that the records of a bench pack to
abbrev pub not_a_table : ℕ
not_a_table = 22
