-- Two's complement there and back, by the sign, and after rounding. The code holds a signed number as its bits, so what
-- it computes is read back from bits at each step: the laws named `..-code` say that this changes nothing.
--     read16 n, held16 z      how the code's own numbers of sixteen bits are read and held: law `signed-read` and
--                             `bits-held` say that it is as the definitions have it
use Rattle.std.specs.Prelude.{ℕ, ℤ}
use Rattle.std.specs.Int.{w16}
use mir.Val.{to_z, of_z}

abbrev pub read16 : ℕ → ℤ
read16 n = to_z w16 n

abbrev pub held16 : ℤ → ℕ
held16 z = of_z w16 z
