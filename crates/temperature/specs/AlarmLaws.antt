-- The alarm rule where the low limit is above the high one: every temperature alarms. A limit to its byte and back, and
-- a byte to its limit and back.
use Rattle.std.specs.Prelude.{ℕ, ◌<◌, ◌≤◌, ◌≡◌, refl, Bool, true, false, ℤ, pos, negsuc}
use Rattle.std.proofs.Common.{ap, arith, le-leb, leb-true, SFits}
use Rattle.std.specs.Int.Signed.{le_z}
use Rattle.std.specs.Int.{w8}
use Rattle.refusals.specs.Refusals.{accepted}
use Rattle.basic_laws.specs.Complement.{signed8}
use Rattle.basic_laws.proofs.ComplementLaws.{signed-bits8, bits-signed8, signed-fits8}
use Rattle.basic_laws.proofs.RoundingLaws.{le_total, le_trans}
use Rattle.temperature.specs.declared.WholeDegrees.{WholeDegrees}
use Rattle.temperature.specs.Alarm.{limit_of, limit_byte_of, alarms_at}
use Rattle.temperature.specs.Range.{is_limit}
use Rattle.temperature.specs.RangeLaws.{between-bounds}

pub alarm-crossed : (t high low : WholeDegrees) → le_z high.0 low.0 ≡ true → alarms_at t high low ≡ true
alarm-crossed t high low crossed = by-test (le_z high.0 t.0) refl
  where
    by-test : (b : Bool) → le_z high.0 t.0 ≡ b → alarms_at t high low ≡ true
    by-test true e = rw e
    by-test false e = rw (e, le_trans t.0 high.0 low.0 (le_total high.0 t.0 e) crossed)

-- ## There and back

-- a limit fits eight bits, and eight bits hold limits only
pub limit-fits : (w : WholeDegrees) → is_limit w ≡ true → SFits w8 w.0
limit-fits w e = at_sign w.0 (between-bounds (negsuc 127) (pos 127) w.0 e)
  where
    at_sign : (z : ℤ) → (le_z (negsuc 127) z ≡ true) × (le_z z (pos 127) ≡ true) → SFits w8 z
    at_sign (pos n) b = let h = leb-true n 127 b.1 in record { sfits = omega arith }
    at_sign (negsuc n) b = let h = leb-true n 127 b.0 in record { sfits = omega arith }

fits-limit : (z : ℤ) → SFits w8 z → is_limit (record { 0 = z }) ≡ true
fits-limit (pos n) f = let h : n ≤ 127 = omega (arith, f.sfits) in le-leb n 127 h
fits-limit (negsuc n) f = let h : n ≤ 127 = omega (arith, f.sfits) in rw (le-leb n 127 h)

pub limit-back : (w : WholeDegrees) → is_limit w ≡ true → limit_of (limit_byte_of w).byte ≡ w
limit-back w e = rw e (ap (λ z. record { 0 = z }) (signed-bits8 w.0 (limit-fits w e)))

pub byte-back : (byte : ℕ) → byte < 256 → limit_byte_of (limit_of byte) ≡ record { refusal = accepted; byte = byte }
byte-back byte h = rw (fits-limit (signed8 byte) (signed-fits8 byte h), bits-signed8 byte h)
