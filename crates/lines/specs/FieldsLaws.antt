-- The bound of the numbers that a field of two digits holds.
use Rattle.std.specs.Prelude.{ℕ, ◌<◌, List}
use Rattle.std.proofs.Common.{lit<}
use Rattle.text.specs.NumbersLaws.{fixed-below}
use Rattle.lines.specs.Fields.{byte_in}

-- two digits are a byte
pub byte-below : (w : List ℕ) → (byte_in w).number < 256
byte-below w = fixed-below 16 2 w (lit< tt)
