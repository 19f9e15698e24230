-- Of what a conversion left, the fine reading is the count again, for every count (`fine_back`); byte 6 is then 1 to 16
-- (`remaining-bounds`), so that the counts are right (`counts-left`). The idea: with w = s + 4 and r what w is over 16
-- t, byte 6 is 16 - r (`remaining-over`). What is over is told by the two signs of w.
use Rattle.std.specs.Prelude.{ℕ, suc, ◌+◌, ◌-◌, ◌*◌, ◌/◌, ◌%◌, ◌<◌, ◌≤◌, ◌≡◌, true, ℤ, pos, negsuc, ◌+ℤ◌, ◌-ℤ◌, ◌*ℤ◌}
use Rattle.std.proofs.Common.{sym, ap, ◌∙◌, arith, le-leb}
use Rattle.std.proofs.Math.IntN.{sub_ℕ, +ℤ-neg_ℤ_cancel}
use Rattle.family.specs.declared.Unit.TheVariants.{HalfDegrees as inHalfDegrees}
use Rattle.basic_laws.specs.Complement.{Fits16, bits8, bits16}
use Rattle.basic_laws.proofs.DifferencesLaws.{difference-cases, difference-same, pos-difference, negative-difference}
use Rattle.basic_laws.proofs.DifferencesLaws.{difference-negated, difference-sum}
use Rattle.basic_laws.specs.Rounding.{floor_div}
use Rattle.basic_laws.proofs.RoundingLaws.{sub-above}
use Rattle.temperature.specs.Measured.{nearest_halves}
use Rattle.temperature.proofs.MeasuredLaws.{whole-nearest}
use Rattle.temperature.specs.Units.{whole_of}
use Rattle.temperature.specs.declared.Reading.TheVariants.{InHalves}
use Rattle.temperature.specs.declared.Sixteenths.{Sixteenths}
use Rattle.temperature.specs.declared.WholeDegrees.{WholeDegrees}
use Rattle.scratchpad.specs.Fine.{counts_per_degree, remaining_of, counts_right, fine_of}

-- ## What is over a multiple of 16

-- 0 to 15, also below zero
over : ℤ → ℕ
over (pos n) = n % 16
over (negsuc n) = 15 - n % 16

over-bound : (w : ℤ) → over w ≤ 15
unfolding over
over-bound (pos n) = omega arith
over-bound (negsuc n) = omega arith

-- 16 t + 12 - (w - 4)
over-sixteen : (w : ℤ) → floor_div w 16 *ℤ pos 16 +ℤ pos 12 -ℤ (w -ℤ pos 4) ≡ pos (16 - over w)
unfolding over
over-sixteen (pos n) =
    let big : 0 + n ≤ n / 16 * 16 + 12 + 4 = omega arith in
    ap (λ z. pos (n / 16 * 16 + 12) +ℤ z) (difference-negated n 4)
    ∙ ap (λ z. z +ℤ sub_ℕ 4 n) (pos-difference (n / 16 * 16 + 12))
    ∙ difference-sum (n / 16 * 16 + 12) 0 4 n ∙ sub-above (n / 16 * 16 + 12 + 4) (0 + n) big ∙ ap pos (omega arith)
over-sixteen (negsuc n) =
    let y = suc (n / 16) * 16 in
    let v = suc (suc (n + 3)) in
    let big : y + 0 + 0 ≤ 0 + 12 + v = omega arith in
    ap (λ z. z +ℤ pos 12 +ℤ pos v) (negative-difference y) ∙ ap (λ z. sub_ℕ 0 y +ℤ z +ℤ pos v) (pos-difference 12)
    ∙ ap (λ z. z +ℤ pos v) (difference-sum 0 y 12 0) ∙ ap (λ z. sub_ℕ (0 + 12) (y + 0) +ℤ z) (pos-difference v)
    ∙ difference-sum (0 + 12) (y + 0) v 0 ∙ sub-above (0 + 12 + v) (y + 0 + 0) big ∙ ap pos (omega arith)

-- ## Byte 6

remaining-over : (count : Sixteenths) → remaining_of count ≡ 16 - over (count.0 +ℤ pos 4)
unfolding remaining_of
remaining-over count =
    let w = count.0 +ℤ pos 4 in
    ap (λ z. bits8 (floor_div w 16 *ℤ pos 16 +ℤ pos 12 -ℤ z)) (sym (+ℤ-neg_ℤ_cancel count.0 (pos 4)))
    ∙ ap bits8 (over-sixteen w)

pub remaining-bounds : (count : Sixteenths) → (1 ≤ remaining_of count) × (remaining_of count ≤ 16)
remaining-bounds count =
    let h = over-bound (count.0 +ℤ pos 4) in
    let e = remaining-over count in
    (omega arith, omega arith)

-- as the code makes it of the low bits
pub remaining-low : (count : Sixteenths) → Fits16 count.0
    → remaining_of count ≡ 16 - (bits16 count.0 % 256 % 16 + 4) % 16
unfolding over
remaining-low count f = remaining-over count ∙ by_sign count.0 f
  where
    by_sign : (z : ℤ) → Fits16 z → 16 - over (z +ℤ pos 4) ≡ 16 - (bits16 z % 256 % 16 + 4) % 16
    by_sign (pos n) f = omega arith
    by_sign (negsuc n) f =
        let h : n < 32768 = f.sfits in
        difference-cases (λ w. 16 - over w ≡ 16 - (bits16 (negsuc n) % 256 % 16 + 4) % 16) 4 (suc n) (λ l. omega arith)
        (λ l. omega arith)

-- ## What a conversion left

pub counts-left : (count : Sixteenths) → counts_right inHalfDegrees (remaining_of count) counts_per_degree ≡ true
counts-left count = le-leb (remaining_of count) counts_per_degree (remaining-bounds count).1

-- 64 t - 16 + 4 r
over-fourfold : (w : ℤ) → floor_div w 16 *ℤ pos 64 -ℤ pos 16 +ℤ pos (4 * over w) ≡ (w -ℤ pos 4) *ℤ pos 4
unfolding over
over-fourfold (pos n) =
    let a = n / 16 * 64 in
    let r = 4 * (n % 16) in
    ap (λ z. sub_ℕ a 16 +ℤ z) (pos-difference r) ∙ difference-sum a 16 r 0 ∙ sym (fourfold n)
  where
    fourfold : (n : ℕ) → sub_ℕ n 4 *ℤ pos 4 ≡ sub_ℕ (n / 16 * 64 + 4 * (n % 16)) (16 + 0)
    fourfold n =
        difference-cases (λ z. z *ℤ pos 4 ≡ sub_ℕ (n / 16 * 64 + 4 * (n % 16)) (16 + 0)) n 4
        (λ l. negative-difference (suc (4 - suc n) * 4)
        ∙ difference-same 0 (suc (4 - suc n) * 4) (n / 16 * 64 + 4 * (n % 16)) (16 + 0) (omega arith))
        (λ l. pos-difference ((n - 4) * 4) ∙ difference-same ((n - 4) * 4) 0 (n / 16 * 64 + 4 * (n % 16)) (16 + 0)
        (omega arith))
over-fourfold (negsuc n) =
    let y = suc (n / 16) * 64 in
    let r = 4 * (15 - n % 16) in
    ap (λ z. z -ℤ pos 16 +ℤ pos r) (negative-difference y) ∙ ap (λ z. z +ℤ pos r) (difference-sum 0 y 0 16)
    ∙ ap (λ z. sub_ℕ (0 + 0) (y + 16) +ℤ z) (pos-difference r) ∙ difference-sum (0 + 0) (y + 16) r 0
    ∙ difference-same (0 + 0 + r) (y + 16 + 0) 0 (suc (suc (n + 3)) * 4) (omega arith)
    ∙ sym (negative-difference (suc (suc (n + 3)) * 4))

-- the fine reading is the count: 4 s over 64
pub fine_back : (count : Sixteenths) → fine_of (InHalves (nearest_halves count)) (remaining_of count) counts_per_degree
    ≡ record { numerator = count.0 *ℤ pos 4; denominator = 64 }
fine_back count =
    let w = count.0 +ℤ pos 4 in
    let b = over-bound w in
    let left : 4 * (16 - remaining_of count) ≡ 4 * over w = omega (arith, remaining-over count) in
    let whole : (whole_of (InHalves (nearest_halves count))).0 ≡ floor_div w 16 =
    ap (λ (d : WholeDegrees). d.0) (whole-nearest count) in
    rw (counts-left count, whole, left, over-fourfold w, +ℤ-neg_ℤ_cancel count.0 (pos 4))
