-- A bench: up to 32 devices on one wire.
--     live b              the devices on the wire: the first `count` of the table, all of it for a larger count
--     empty_bench          where every history starts
--     place_of b code      where the first device with this code stands, or nowhere
--     free b              whether no device holds the wire
use Rattle.std.specs.Prelude.{ℕ, Bool, List, eqb, take, replicate}
use Rattle.basic_laws.specs.First.{first_with}
use Rattle.device.specs.Power.{joined}
use Rattle.bench.specs.Wire.{free_wire}
use Rattle.device.specs.declared.Device.{Device}
use Rattle.device.specs.declared.Power.TheVariants.{External}
use Rattle.bench.specs.declared.Bench.{Bench}
use Rattle.bench.specs.declared.Place.{Place}
use Rattle.bench.specs.declared.Place.TheVariants.{At, Nowhere}

abbrev pub live : Bench → List Device
live b = take b.count b.devices

-- what stands in a place of the table that no device has taken
unfoldable pub vacant : Device
vacant = joined (record { code = 0; power = External; high = 0; low = 0; configuration = 0; pins = 0 })

abbrev pub empty_bench : Bench
empty_bench = record { devices = replicate 32 vacant; count = 0 }

unfoldable pub place_of : Bench → ℕ → Place
place_of b code = first_with (λ d. eqb d.code code) At Nowhere 0 (live b)

unfoldable pub free : Bench → Bool
free b = free_wire (live b)
