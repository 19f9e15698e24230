-- What the types of a record hold, as far as its bytes depend on it: of every value that code can hand over it is so.
--     InTypes d          64 bits of a code, eight bytes of a scratchpad, sixteen bits of a reading; a byte goes to a
--                        byte as it is
use Rattle.std.specs.Prelude.{◌^◌, ◌<◌, ◌≡◌, length}
use Rattle.basic_laws.specs.Complement.{Fits16}
use Rattle.temperature.specs.Register.{count_of}
use Rattle.device.specs.declared.Device.{Device}

pub record InTypes (d : Device) : Type 0 where
  pub code_fits : d.code < 256 ^ 8
  pub pad-length : length d.scratchpad ≡ 8
  pub reading-fits : Fits16 (count_of d.page.reading)
