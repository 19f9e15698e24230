-- Every product, difference and sum stays far within 32 bits: whole degrees of 16 bits times at most 1020, and two
-- small numbers.
use Prim.Native.Nat.{ℕ, ◌-◌, ◌*◌, ◌<◌, ◌≤◌}
use mathlib.Core.Path.{◌≡◌, ap}
use native.Mathlib.Omega.{arith}
use lib.IntN.{ℤ, pos, ◌+ℤ◌, ◌-ℤ◌, ◌*ℤ◌}
use lib.Signed.{mag}
use mir.Syntax.{w16, w32}
use mir.Val.{SFits, to_z, of_z}
use mir.ValLaws.{to_z-of_z, to_z_pos}
use Rattle.basic_laws.specs.Complement.{Fits16}
use Rattle.basic_laws.proofs.ComplementLaws.{widened-back}
use Rattle.basic_laws.proofs.DifferencesLaws.{plus-size, minus-size}
use Rattle.basic_laws.proofs.RoundingLaws.{mul-size}
use Rattle.scratchpad.proofs.fine.fraction.Goals as goal
use Rattle.scratchpad.proofs.fine.fraction.Goals.{After-struct_told-1}

-- the steps on plain values: z whole degrees, p counts per degree, q = 4 p, l = 4 (p - remaining)
module _ (z : ℤ) (f : Fits16 z) (p q l : ℕ) (some : 0 < q) (few : q ≤ 1020) (byte : p ≤ 255) (small : l ≤ 1020) where
  product-size : mag (z *ℤ pos q) < q * 32768
  product-size = mul-size z q 32768 some f.sfits

  product-fits : SFits w32 (z *ℤ pos q)
  product-fits = record { sfits = omega (arith, product-size) }

  less-fits : SFits w32 (z *ℤ pos q -ℤ pos p)
  less-fits = record { sfits = omega (arith, product-size, minus-size (z *ℤ pos q) p) }

  sum_fits : SFits w32 (z *ℤ pos q -ℤ pos p +ℤ pos l)
  sum_fits = record {
    sfits = omega (
      arith,
      product-size,
      minus-size (z *ℤ pos q) p,
      plus-size (z *ℤ pos q -ℤ pos p) l,
    );
  }

  -- the same on numbers as the code holds them
  abbrev factor : ℤ
  factor = to_z w32 (of_z w32 (to_z w16 (of_z w16 z))) *ℤ to_z w32 q

  abbrev less : ℤ
  less = to_z w32 (of_z w32 factor) -ℤ to_z w32 p

  abbrev sum : ℤ
  sum = to_z w32 (of_z w32 less) +ℤ to_z w32 l

  factors : factor ≡ z *ℤ pos q
  factors = rw (widened-back z f, to_z_pos w32 q (omega arith))

  pub product-code : SFits w32 factor
  product-code = rw factors product-fits

  terms : less ≡ z *ℤ pos q -ℤ pos p
  terms = rw (factors, to_z-of_z w32 (z *ℤ pos q) product-fits, to_z_pos w32 p (omega arith))

  pub less-code : SFits w32 less
  less-code = rw terms less-fits

  whole_sum : sum ≡ z *ℤ pos q -ℤ pos p +ℤ pos l
  whole_sum = rw (terms, to_z-of_z w32 (z *ℤ pos q -ℤ pos p) less-fits, to_z_pos w32 l (omega arith))

  pub sum-code : SFits w32 sum
  sum-code = rw whole_sum sum_fits

  pub numerator-code : to_z w32 (of_z w32 sum) ≡ z *ℤ pos q -ℤ pos p +ℤ pos l
  numerator-code = rw (whole_sum, to_z-of_z w32 (z *ℤ pos q -ℤ pos p +ℤ pos l) sum_fits)

-- the numbers of the call
module _ (c : After-struct_told-1) where
  degrees-fit : Fits16 c.args.whole.0
  degrees-fit = record { sfits = c.struct_told-1.given.0.1 }

  some : 0 < 4 * c.args.per
  some = omega (arith, c.requires.0)

  few : 4 * c.args.per ≤ 1020
  few = omega (arith, c.ranges.per.fits)

  byte : c.args.per ≤ 255
  byte = omega (arith, c.ranges.per.fits)

  small : 4 * (c.args.per - c.args.remaining) ≤ 1020
  small = omega (arith, c.ranges.per.fits)

pub returns : goal.returns
returns c =
    ap (λ z. record { numerator = z; denominator = 4 * c.args.per })
    (numerator-code _ (degrees-fit (goal.at.returns c).After-struct_told-1) _ _ _ (some (goal.at.returns c).After-struct_told-1) (few (goal.at.returns c).After-struct_told-1) (byte (goal.at.returns c).After-struct_told-1) (small (goal.at.returns c).After-struct_told-1))
