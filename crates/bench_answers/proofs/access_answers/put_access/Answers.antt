-- Field after field; the register of the reading has two bytes, and the mark of the line stands behind the denominator.
use Prim.Native.Nat.{ℕ}
use mathlib.Core.List.{List, [], ◌∷◌, ◌++◌}
use mathlib.Core.Path.{subst}
use lib.IntN.{ℤ}
use mir.Syntax.{w32}
use mir.Val.{SFits, to_z, of_z}
use mir.ValLaws.{to_z-of_z}
use Rattle.text.specs.Decimal.{decimal, signed_decimal}
use Rattle.text.specs.Digits.{hex_of}
use Rattle.temperature.specs.declared.Register.{Register}
use Rattle.text.specs.Putting.{Puts}
use Rattle.text.proofs.PuttingLaws.{puts-field, field_puts}
use Rattle.bench_answers.specs.AccessLine.{reading_digits, access_fields}
use Rattle.bench_answers.specs.AccessLineLaws.{mark-behind}
use Rattle.bench_answers.proofs.access_answers.put_access.Goals as goal

-- what is put is the number given
given : (z : ℤ) → SFits w32 z → (d : List ℕ) (at : ℕ) (d' : List ℕ) (r : ℕ)
    → Puts d at (signed_decimal (to_z w32 (of_z w32 z)) ++ 0x2F ∷ []) d' r → Puts d at (signed_decimal z ++ 0x2F ∷ []) d' r
given z f d at d' r p = subst (λ (y : ℤ). Puts d at (signed_decimal y ++ 0x2F ∷ []) d' r) (to_z-of_z w32 z f) p

pub returns : goal.returns
unfolding access_fields
returns c =
    let a = c.args in
    let last = field_puts c.put_signed-behind_numerator.new.out c.put_signed-behind_numerator.result (decimal a.denominator)
    0x0A c.put_number.new.out c.put_number.result
    (c.put_number.ensures.answer, c.put_number.ensures.written) in
    let over = puts-field (signed_decimal a.numerator) 0x2F
    (given a.numerator c.ranges.numerator
    _ _ _ _ (field_puts c.put_bytes-behind_reading.new.out c.put_bytes-behind_reading.result
    (signed_decimal (to_z w32 (of_z w32 a.numerator))) 0x2F c.put_signed-behind_numerator.new.out
    c.put_signed-behind_numerator.result (
      c.put_signed-behind_numerator.ensures.answer,
      c.put_signed-behind_numerator.ensures.written,
    ))) last in
    let fraction = subst (λ (x : List ℕ). Puts c.put_bytes-behind_reading.new.out c.put_bytes-behind_reading.result x
    c.put_number.new.out c.put_number.result)
    (mark-behind (signed_decimal a.numerator) (decimal a.denominator) 0x0A) over in
    let digits = subst (λ (g : Register). Puts c.put_bytes-behind_pad.new.out c.put_bytes-behind_pad.result
    (hex_of (g.high ∷ g.low ∷ []) ++ 0x20 ∷ []) c.put_bytes-behind_reading.new.out c.put_bytes-behind_reading.result)
    c.register_of-register.ensures.answer (field_puts c.put_bytes-behind_pad.new.out c.put_bytes-behind_pad.result
    (hex_of (c.register_of-register.result.high ∷ c.register_of-register.result.low ∷ [])) 0x20
    c.put_bytes-behind_reading.new.out c.put_bytes-behind_reading.result (
      c.put_bytes-behind_reading.ensures.answer,
      c.put_bytes-behind_reading.ensures.written,
    )) in
    puts-field (decimal a.refusal) 0x20 (field_puts a.out.now a.at (decimal a.refusal) 0x20
    c.put_number-behind_refusal.new.out c.put_number-behind_refusal.result (
      c.put_number-behind_refusal.ensures.answer,
      c.put_number-behind_refusal.ensures.written,
    ))
    (puts-field (hex_of a.pad) 0x20 (field_puts c.put_number-behind_refusal.new.out c.put_number-behind_refusal.result
    (hex_of a.pad) 0x20 c.put_bytes-behind_pad.new.out c.put_bytes-behind_pad.result (
      c.put_bytes-behind_pad.ensures.answer,
      c.put_bytes-behind_pad.ensures.written,
    ))
    (puts-field (reading_digits a.reading) 0x20 digits fraction))
