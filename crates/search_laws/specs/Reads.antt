-- The slots of a number and of a number that is read, on any bus.
--     read_slots n            n slots in which the master offers 1
--     after_bits B n x ds     the devices after the n lowest bits of the number x, one slot each, first bit lowest
--     bits_shown B n ds       the line's bits in n read slots; after_reads B n ds, the devices after them
use Rattle.std.specs.Prelude.{ℕ, Bool, true, List, replicate}
use Rattle.basic_laws.specs.Bits.{bits_of}
use Rattle.search_laws.specs.Wire.{Bus, slots}

abbrev pub read_slots : ℕ → List Bool
read_slots n = replicate n true

module _ (B : Bus) where
  abbrev pub after_bits : ℕ → ℕ → B.Devices → B.Devices
  after_bits n x ds = (slots B (bits_of n x) ds).devices

  abbrev pub bits_shown : ℕ → B.Devices → List Bool
  bits_shown n ds = (slots B (read_slots n) ds).lines

  abbrev pub after_reads : ℕ → B.Devices → B.Devices
  after_reads n ds = (slots B (read_slots n) ds).devices
