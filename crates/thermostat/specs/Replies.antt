-- What eight read slots give, as the code hands it on.
--     probe_byte_read p      the byte that the line shows, and the probe after it
use Rattle.thermostat.specs.declared.Thermostat.{Thermostat}
use Rattle.thermostat.specs.Calls.{byte_shown_by, after_reading}
use Rattle.thermostat.specs.declared.master.ByteRead.{ByteRead}

abbrev pub probe_byte_read : Thermostat → ByteRead
probe_byte_read p = record { byte = byte_shown_by p; probe = after_reading p }
