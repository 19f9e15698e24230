-- The wire of a bench (the scope, "One slot"): what the devices on it do together. A bench has a table of places, of
-- which the first `count` are taken.
--     free_wire l                  whether no device of l holds the wire: a busy device that is powered from it
--     line_shown l m               what the line shows: the AND of the master's bit and every device's offer
--     all_heard count table l      the table after a slot in which the line showed l: every device that is there takes
--                                 the bit
--     all_restarted count table    the table after a reset: every device that is there listens for a ROM command
use Rattle.std.specs.Prelude.{ℕ, Bool, not, ◌&&◌, List}
use Rattle.basic_laws.specs.Fold.{all}
use Rattle.basic_laws.specs.Front.{map_front}
use Rattle.device.specs.Hear.{hear_of}
use Rattle.device.specs.Offer.{offer_of}
use Rattle.device.specs.Power.{reset_of}
use Rattle.device.specs.Record.{holds_wire}
use Rattle.device.specs.declared.Device.{Device}

abbrev pub free_wire : List Device → Bool
free_wire l = all (λ d. not (holds_wire d)) l

abbrev pub line_shown : List Device → Bool → Bool
line_shown l m = m && all offer_of l

abbrev pub all_heard : ℕ → List Device → Bool → List Device
all_heard count table l = map_front (λ d. hear_of d l) count table

abbrev pub all_restarted : ℕ → List Device → List Device
all_restarted count table = map_front reset_of count table
