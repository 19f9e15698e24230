-- A code is below 2 ^ 64, so that from place 64 on its bits are zero; below that the shift is the division.
use Prim.Native.Nat.{◌/◌, ◌^◌, ◌<◌}
use mathlib.Core.Path.{◌≡◌}
use native.Mathlib.Nat.{div-eq_of_lt, lt_of_lt_of_le}
use lib.Pow.{pow_mono}
use Rattle.rom.proofs.bit_of.Goals as goal

pub returns-then-place-ge64 : goal.returns-then-place-ge64
returns-then-place-ge64 c =
    record {
      answer = let code = c.args.code in
          let place = c.args.place in
          let small : code < 2 ^ place = lt_of_lt_of_le c.ranges.code.fits (pow_mono c.if-place-ge64.true) in
          let gone : code / 2 ^ place ≡ 0 = div-eq_of_lt small in
          rw gone;
    }
