-- Two's complement there and back, by the sign, and after rounding. The code holds a signed number as its bits, so what
-- it computes is read back from bits at each step: the laws named `..-code` say that this changes nothing.
--     read16 n, held16 z      how the code's own numbers of sixteen bits are read and held: law `signed-read` and
--                             `bits-held` say that it is as the definitions have it
use Rattle.std.specs.Prelude.{ℕ, zero, suc, ◌-◌, ◌*◌, ◌^◌, ◌<◌, ◌≤◌, ◌≡◌, refl, Bool, true, false, ltb, ℤ, pos, negsuc, neg_ℤ, ◌+ℤ◌, ◌-ℤ◌, ◌*ℤ◌}
use Rattle.std.proofs.Common.{ap, ◌∙◌, arith, lt_of_lt_of_le, le-ltb, leb-false, ltb-false, lt-ltb, lit≤}
use Rattle.std.proofs.lemmas.Bool.{false≢true}
use Rattle.std.specs.Int.Signed.{mag, mag_shr, le_z, shr_z}
use Rattle.std.specs.Int.{Width, w8, w16, w32}
use mir.Val.{SFits, to_z, of_z, bits, hbits}
use mir.ValLaws.{to_z-of_z, of_z-to_z, of_z_fits, to_z-Fits, sfits_le, half_full}
use Rattle.std.specs.Prelude.{if◌then◌else◌}
use Rattle.basic_laws.specs.Rounding.{floor_div, floor_to}
use Rattle.basic_laws.proofs.RoundingLaws.{floor-size, mul-size, sub-below, sub-above}
use Rattle.basic_laws.specs.Complement.{signed16, signed8, bits16, bits8, Fits16}
use Rattle.basic_laws.specs.ComplementLaws.{held16, read16}

-- ## By the sign: what bits from the half on, and a number below zero, are

difference : (n m : ℕ) → n < m → pos n -ℤ pos m ≡ negsuc (m - suc n)
difference n zero h = absurd (omega arith)
difference n (suc m) h = sub-below n (suc m) h

pub signed_high : (w : Width) (n : ℕ) → 2 ^ hbits w ≤ n → n < 2 ^ bits w → pos n -ℤ pos (2 ^ bits w) ≡ to_z w n
signed_high w n h l = rw (le-ltb n (2 ^ hbits w) h) (difference n (2 ^ bits w) l)

pub bits-negative : (w : Width) (z : ℤ) → SFits w z → le_z (pos 0) z ≡ false → z +ℤ pos (2 ^ bits w) ≡ pos (of_z w z)
bits-negative w (pos n) f e = let h : n < 0 = leb-false 0 n e in absurd (omega arith)
bits-negative w (negsuc n) f e = sub-above (2 ^ bits w) (suc n) (half_full w f.sfits)

pub bits_positive : (w : Width) (z : ℤ) → le_z (pos 0) z ≡ true → z ≡ pos (of_z w z)
bits_positive w (pos n) e = refl
bits_positive w (negsuc n) e = absurd (false≢true e)

-- ## The definitions and the code's numbers

signed_word : (w : Width) (n : ℕ) → n < 2 ^ bits w
    → (if ltb n (2 ^ hbits w) then pos n else pos n -ℤ pos (2 ^ bits w)) ≡ to_z w n
signed_word w n h = by-test (ltb n (2 ^ hbits w)) refl
  where
    by-test : (t : Bool) → ltb n (2 ^ hbits w) ≡ t → (if t then pos n else pos n -ℤ pos (2 ^ bits w)) ≡ to_z w n
    by-test true e = rw e
    by-test false e = signed_high w n (ltb-false n (2 ^ hbits w) e) h

pub signed-read : (n : ℕ) → n < 65536 → signed16 n ≡ read16 n
signed-read n h = signed_word w16 n h

pub signed-read8 : (n : ℕ) → n < 256 → signed8 n ≡ to_z w8 n
signed-read8 n h = signed_word w8 n h

pub bits-held : (z : ℤ) → bits16 z ≡ held16 z
bits-held (pos n) = refl
bits-held (negsuc n) = refl

pub bits-held8 : (z : ℤ) → bits8 z ≡ of_z w8 z
bits-held8 (pos n) = refl
bits-held8 (negsuc n) = refl

-- ## There and back

pub held_back : (z : ℤ) → Fits16 z → read16 (held16 z) ≡ z
held_back z f = to_z-of_z w16 z f

pub held_below : (z : ℤ) → Fits16 z → held16 z < 65536
held_below z f = (of_z_fits w16 z f).fits

pub signed-bits : (z : ℤ) → Fits16 z → signed16 (bits16 z) ≡ z
signed-bits z f = rw (bits-held z, signed-read (held16 z) (held_below z f)) (held_back z f)

pub bits-signed : (n : ℕ) → n < 65536 → bits16 (signed16 n) ≡ n
bits-signed n h = rw (bits-held (signed16 n), signed-read n h) (of_z-to_z w16 n (record { fits = h }))

pub signed-fits : (n : ℕ) → n < 65536 → Fits16 (signed16 n)
signed-fits n h = rw (signed-read n h) (to_z-Fits w16 n (record { fits = h }))

-- the same of eight bits
pub signed-bits8 : (z : ℤ) → SFits w8 z → signed8 (bits8 z) ≡ z
signed-bits8 z f = rw (bits-held8 z, signed-read8 (of_z w8 z) (of_z_fits w8 z f).fits) (to_z-of_z w8 z f)

pub bits-signed8 : (n : ℕ) → n < 256 → bits8 (signed8 n) ≡ n
bits-signed8 n h = rw (bits-held8 (signed8 n), signed-read8 n h) (of_z-to_z w8 n (record { fits = h }))

pub signed-fits8 : (n : ℕ) → n < 256 → SFits w8 (signed8 n)
signed-fits8 n h = rw (signed-read8 n h) (to_z-Fits w8 n (record { fits = h }))

-- ## A wider number

pub wider : (w v : Width) (z : ℤ) → 2 ^ hbits w ≤ 2 ^ hbits v → SFits w z → SFits v z
wider w v z l f = record { sfits = lt_of_lt_of_le f.sfits l }

-- a number of sixteen bits, held by thirty-two
pub widened : (z : ℤ) → Fits16 z → SFits w32 (read16 (held16 z))
widened z f = rw (held_back z f) (wider w16 w32 z (lit≤ tt) f)

pub widened-back : (z : ℤ) → Fits16 z → to_z w32 (of_z w32 (read16 (held16 z))) ≡ z
widened-back z f = to_z-of_z w32 (read16 (held16 z)) (widened z f) ∙ held_back z f

-- ## What fits stays within sixteen bits when it is rounded: no function needs a range

-- the code's shift is the division
pub floor-shift : (z : ℤ) (s : ℕ) → floor_div z s ≡ shr_z z s
floor-shift (pos n) s = refl
floor-shift (negsuc n) s = refl

pub div-fits : (z : ℤ) (s : ℕ) → Fits16 z → Fits16 (floor_div z s)
div-fits z s f = rw (floor-shift z s) (sfits_le (mag_shr z s) f)

-- ## The code's own steps

pub shift-code : (z : ℤ) (s : ℕ) → Fits16 z → read16 (held16 (shr_z (read16 (held16 z)) s)) ≡ floor_div z s
shift-code z s f = rw (held_back z f, ← floor-shift z s) (held_back (floor_div z s) (div-fits z s f))

module _ (z : ℤ) (s t : ℕ) (positive : 0 < s) (divides : s * t ≡ 32768) where
  pub mul-fits : mag z < t → Fits16 (z *ℤ pos s)
  mul-fits h = record { sfits = rw divides at (mul-size z s t positive h) }

  module _ (f : Fits16 z) where
    pub floor-fits : Fits16 (floor_to s z)
    floor-fits =
        let h : mag z < s * t = rw divides f.sfits in
        record { sfits = rw divides at (floor-size z s t positive h) }

    pub floor-code-fits : Fits16 (read16 (held16 (shr_z (read16 (held16 z)) s)) *ℤ pos s)
    unfolding floor_to
    floor-code-fits = rw (shift-code z s f) floor-fits

    pub floor-code : read16 (held16 (read16 (held16 (shr_z (read16 (held16 z)) s)) *ℤ pos s)) ≡ floor_to s z
    unfolding floor_to
    floor-code = rw (shift-code z s f) (held_back (floor_to s z) floor-fits)

-- ## A number and its negative, as the code makes them of a size

small : (w : Width) (n : ℕ) → n < 2 ^ hbits w → to_z w n ≡ pos n
small w n h = rw (lt-ltb n (2 ^ hbits w) h)

pub positive-code : (n : ℕ) → n ≤ 32767 → to_z w16 n ≡ pos n
positive-code n h = small w16 n (omega arith)

negated : (n : ℕ) → pos 0 -ℤ pos n ≡ neg_ℤ (pos n)
negated zero = refl
negated (suc n) = sub-below 0 (suc n) (omega arith) ∙ ap negsuc (omega arith)

negative_fits : (w : Width) (n : ℕ) → 1 ≤ 2 ^ hbits w → n ≤ 2 ^ hbits w → SFits w (neg_ℤ (pos n))
negative_fits w zero one h = record { sfits = one }
negative_fits w (suc n) one h = record { sfits = h }

module _ (n : ℕ) (h : n ≤ 32768) where
  negative-wide : pos 0 -ℤ to_z w32 n ≡ neg_ℤ (pos n)
  negative-wide = rw (small w32 n (omega arith)) (negated n)

  pub negative-wide-fits : SFits w32 (pos 0 -ℤ to_z w32 n)
  negative-wide-fits = rw negative-wide (negative_fits w32 n (lit≤ tt) (omega arith))

  wide-code : to_z w32 (of_z w32 (pos 0 -ℤ to_z w32 n)) ≡ neg_ℤ (pos n)
  wide-code = to_z-of_z w32 (pos 0 -ℤ to_z w32 n) negative-wide-fits ∙ negative-wide

  pub negative-code-fits : SFits w16 (to_z w32 (of_z w32 (pos 0 -ℤ to_z w32 n)))
  negative-code-fits = rw wide-code (negative_fits w16 n (lit≤ tt) h)

  pub negative-code : to_z w16 (of_z w16 (to_z w32 (of_z w32 (pos 0 -ℤ to_z w32 n)))) ≡ neg_ℤ (pos n)
  negative-code = to_z-of_z w16 (to_z w32 (of_z w32 (pos 0 -ℤ to_z w32 n))) negative-code-fits ∙ wide-code
