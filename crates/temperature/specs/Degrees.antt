-- A count of sixteenths in degrees, in single precision: exact, as the scope asks, at every count.
--     degrees_of c          the single-precision number nearest to c / 16
--     IsSixteenths x z     sixteen times the value of x is z: x is finite, has the sign of z, and is |z| / 16 in size
-- Law `degrees-exact`: over the closed range -880 to 2000 nothing is lost; `sixteenths-exact` says it of every 16-bit
-- count.
use Rattle.std.specs.Prelude.{not, ℤ, nat_abs, Float}
use Rattle.std.specs.Int.Signed.{non_neg}
use Rattle.std.specs.Float.{binary32}
use Rattle.std.specs.Float.Ieee.{round}
use Rattle.std.specs.Float.Ieee.Exact.{HasValue}
use Rattle.temperature.specs.declared.Degrees.{Degrees}
use Rattle.temperature.specs.declared.Sixteenths.{Sixteenths}

abbrev pub nearest : ℤ → Float
nearest z = round binary32 (not (non_neg z)) (nat_abs z) 16

abbrev pub degrees_of : Sixteenths → Degrees
degrees_of c = record { 0 = nearest c.0 }

abbrev pub IsSixteenths : Float → ℤ → Type 0
IsSixteenths x z = HasValue x (not (non_neg z)) (nat_abs z) 16
