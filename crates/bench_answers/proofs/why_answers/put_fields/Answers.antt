-- Field after field; a number with a sign is read back from the bits that hold it.
use Prim.Native.Nat.{ℕ}
use mathlib.Core.List.{List, [], ◌∷◌, ◌++◌}
use mathlib.Core.Path.{subst}
use lib.IntN.{ℤ}
use mir.Syntax.{w32}
use mir.Val.{to_z, of_z}
use Rattle.basic_laws.specs.Complement.{Fits16}
use Rattle.basic_laws.specs.ComplementLaws.{read16, held16}
use Rattle.basic_laws.proofs.ComplementLaws.{widened, widened-back}
use Rattle.text.specs.Decimal.{decimal, signed_decimal}
use Rattle.text.specs.Putting.{Puts, flag}
use Rattle.text.proofs.PuttingLaws.{puts-field, field_puts}
use Rattle.bench_answers.specs.WhyLine.{why_fields}
use Rattle.bench_answers.specs.WhyLineLaws.{why-fields-short}
use Rattle.bench_answers.proofs.why_answers.put_fields.Goals as goal

-- a number of sixteen bits, as the code holds it
abbrev wide : ℤ → ℤ
wide z = to_z w32 (of_z w32 (read16 (held16 z)))

-- what is put is the number given
given : (z : ℤ) → Fits16 z → (d : List ℕ) (at : ℕ) (d' : List ℕ) (r : ℕ)
    → Puts d at (signed_decimal (wide z) ++ 0x20 ∷ []) d' r → Puts d at (signed_decimal z ++ 0x20 ∷ []) d' r
given z f d at d' r p = subst (λ (y : ℤ). Puts d at (signed_decimal y ++ 0x20 ∷ []) d' r) (widened-back z f) p

pub overflow_cast-count : goal.overflow_cast-count
overflow_cast-count c =
    widened
    _ c.ranges.count

pub overflow_cast-high : goal.overflow_cast-high
overflow_cast-high c =
    widened
    _ c.ranges.high

pub overflow_cast-low : goal.overflow_cast-low
overflow_cast-low c =
    widened
    _ c.ranges.low

pub returns : goal.returns
unfolding why_fields
returns c =
    let a = c.args in
    let short = why-fields-short a.refusal a.reason a.count a.high a.low a.differs
    c.ranges.refusal.fits c.ranges.reason.fits c.ranges.count c.ranges.high
    c.ranges.low in (
      puts-field (decimal a.refusal) 0x20 (field_puts a.out.now a.at (decimal a.refusal) 0x20
          c.put_number-behind_refusal.new.out c.put_number-behind_refusal.result (
            c.put_number-behind_refusal.ensures.answer,
            c.put_number-behind_refusal.ensures.written,
          ))
          (puts-field (decimal a.reason) 0x20 (field_puts c.put_number-behind_refusal.new.out
          c.put_number-behind_refusal.result (decimal a.reason) 0x20 c.put_number-behind_reason.new.out
          c.put_number-behind_reason.result (c.put_number-behind_reason.ensures.answer, c.put_number-behind_reason.ensures.written))
          (puts-field (signed_decimal a.count) 0x20
          (given a.count c.ranges.count
          _ _ _ _ (field_puts c.put_number-behind_reason.new.out c.put_number-behind_reason.result
          (signed_decimal (wide a.count)) 0x20 c.put_signed-behind_reading.new.out c.put_signed-behind_reading.result
          (c.put_signed-behind_reading.ensures.answer, c.put_signed-behind_reading.ensures.written)))
          (puts-field (signed_decimal a.high) 0x20
          (given a.high c.ranges.high _ _ _ _ (field_puts c.put_signed-behind_reading.new.out
          c.put_signed-behind_reading.result (signed_decimal (wide a.high)) 0x20 c.put_signed-behind_high.new.out
          c.put_signed-behind_high.result (c.put_signed-behind_high.ensures.answer, c.put_signed-behind_high.ensures.written)))
          (puts-field (signed_decimal a.low) 0x20
          (given a.low c.ranges.low _ _ _ _ (field_puts c.put_signed-behind_high.new.out
          c.put_signed-behind_high.result (signed_decimal (wide a.low)) 0x20 c.put_signed-behind_low.new.out
          c.put_signed-behind_low.result (c.put_signed-behind_low.ensures.answer, c.put_signed-behind_low.ensures.written)))
          (field_puts c.put_signed-behind_low.new.out c.put_signed-behind_low.result (flag a.differs) 0x0A
          c.put_flag.new.out c.put_flag.result (
            c.put_flag.ensures.answer,
            c.put_flag.ensures.written,
          )))))),
      short,
    )
