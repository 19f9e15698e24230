-- The bit stands in the byte of its place.
use Prim.Native.Nat.{ℕ, ◌+◌, ◌*◌, ◌/◌, ◌%◌, ◌<◌}
use mathlib.Core.Bool.{false}
use mathlib.Core.Path.{◌≡◌, sym, ap, ◌∙◌}
use native.Mathlib.Omega.{arith}
use lib.ListN.{length, get_or}
use Rattle.basic_laws.specs.Bits.{bytes_bits}
use Rattle.basic_laws.specs.BitsLaws.{byte-bit}
use Rattle.naming.proofs.bit_at.Goals as goal

pub returns : goal.returns
returns c =
    let e : 8 * (c.args.slot / 8) + c.args.slot % 8 ≡ c.args.slot = omega arith in
    let h : c.args.slot / 8 < length c.args.bits.now = omega arith in
    sym (ap (λ (n : ℕ). get_or (bytes_bits c.args.bits.now) n false) (sym e)
    ∙ byte-bit c.args.bits.now (c.args.slot / 8) (c.args.slot % 8) (omega arith) h)
