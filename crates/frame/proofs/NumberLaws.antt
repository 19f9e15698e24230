-- The number of a bit, as `from` gives it.
use Rattle.std.specs.Prelude.{◌≡◌, Bool, true, false}
use Rattle.std.proofs.Common.{refl}
use Rattle.std.specs.Int.{from_bool}
use Rattle.basic_laws.specs.Bits.{bit_number}

pub from-bit : (b : Bool) → from_bool b ≡ bit_number b
from-bit true = refl
from-bit false = refl
