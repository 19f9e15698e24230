-- The configuration byte, the scope's "stored form": for B, (byte AND 60h) + 1Fh.
--     stored_form_b byte                     that sum
--     stored_form byte low                  the two resolution bits (6 and 5) of the byte, a 1 in bit 4, and the low
--                                          four bits of `low`: at 15 it is stored_form_b
--     resolution byte                      bits 6 and 5 as a number from 0 to 3
--     kept_configuration row byte           a configuration as a device of this row keeps it: in stored form; 0 where
--                                          the family has none
--     as_kept row byte                      whether a device of this row can have the byte there: it is its own stored
--                                          form; any byte where the family has none
--     same_seen row a b                     whether a master takes two configurations for the same: where the family has
--                                          pins, which no master knows, by the upper four bits; else by all
--     configuration_as_asked row asked byte  whether a master takes `byte` for what became of `asked`: it is the stored
--                                          form of that; any byte where the family has none
--     in_form row byte                      whether a master takes the byte for a configuration: it is its own stored
--                                          form; any byte where the family has none
-- The low four bits are a parameter: a property of the family, or the pins of a device.
use Rattle.std.specs.Prelude.{ℕ, ◌+◌, ◌/◌, ◌%◌, Bool, true, eqb}
use Rattle.std.specs.Int.Bits.{bit_and}
use Rattle.std.specs.Prelude.{if◌then◌else◌}
use Rattle.family.specs.declared.Properties.{Properties}

abbrev pub stored_form_b : ℕ → ℕ
stored_form_b byte = bit_and byte 0x60 + 0x1F

abbrev pub stored_form : ℕ → ℕ → ℕ
stored_form byte low = bit_and byte 0x60 + 0x10 + low % 16

abbrev pub resolution : ℕ → ℕ
resolution byte = byte / 32 % 4

abbrev pub kept_configuration : Properties → ℕ → ℕ
kept_configuration row byte = if row.configurable then stored_form byte row.nibble else 0

abbrev pub as_kept : Properties → ℕ → Bool
as_kept row byte = if row.configurable then eqb byte (stored_form byte row.nibble) else true

abbrev pub same_seen : Properties → ℕ → ℕ → Bool
same_seen row a b = if row.pinned then eqb (a / 16) (b / 16) else eqb a b

abbrev pub configuration_as_asked : Properties → ℕ → ℕ → Bool
configuration_as_asked row asked byte = if row.configurable then same_seen row byte (stored_form asked row.nibble)
    else true

abbrev pub in_form : Properties → ℕ → Bool
in_form row byte = configuration_as_asked row byte byte
