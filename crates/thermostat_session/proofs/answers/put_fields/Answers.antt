-- Field after field; a number with a sign is read back from the bits that hold it.
use Prim.Native.Nat.{ℕ}
use mathlib.Core.List.{List, [], ◌∷◌, ◌++◌}
use mathlib.Core.Path.{subst}
use lib.IntN.{ℤ}
use mir.Syntax.{w32}
use mir.Val.{to_z, of_z}
use Rattle.basic_laws.specs.Complement.{Fits16}
use Rattle.basic_laws.specs.ComplementLaws.{read16, held16}
use Rattle.basic_laws.proofs.ComplementLaws.{widened, widened-back}
use Rattle.text.specs.Decimal.{signed_decimal}
use Rattle.text.specs.Digits.{hex_digits}
use Rattle.text.specs.Putting.{Puts, flag}
use Rattle.text.proofs.PuttingLaws.{puts-field, field_puts}
use Rattle.thermostat_session.specs.ProbeLines.{fields_line}
use Rattle.thermostat_session.specs.ProbeLinesLaws.{fields-short}
use Rattle.thermostat_session.proofs.answers.put_fields.Goals as goal

-- a number of sixteen bits, as the code holds it
abbrev wide : ℤ → ℤ
wide z = to_z w32 (of_z w32 (read16 (held16 z)))

-- what is put is the number given
given : (z : ℤ) → Fits16 z → (d : List ℕ) (at : ℕ) (d' : List ℕ) (r : ℕ)
    → Puts d at (signed_decimal (wide z) ++ 0x20 ∷ []) d' r → Puts d at (signed_decimal z ++ 0x20 ∷ []) d' r
given z f d at d' r p = subst (λ (y : ℤ). Puts d at (signed_decimal y ++ 0x20 ∷ []) d' r) (widened-back z f) p

pub overflow_cast-temperature : goal.overflow_cast-temperature
overflow_cast-temperature c =
    widened _ c.ranges.temperature

pub overflow_cast-high : goal.overflow_cast-high
overflow_cast-high c =
    widened _ c.ranges.high

pub overflow_cast-low : goal.overflow_cast-low
overflow_cast-low c =
    widened
    _ c.ranges.low

pub returns : goal.returns
unfolding fields_line
returns c =
    let a = c.args in (
      puts-field (signed_decimal a.temperature) 0x20
          (given a.temperature c.ranges.temperature
          _ _ _ _ (field_puts a.out.now a.at (signed_decimal (wide a.temperature)) 0x20
          c.put_signed-behind_temperature.new.out c.put_signed-behind_temperature.result
          (c.put_signed-behind_temperature.ensures.answer, c.put_signed-behind_temperature.ensures.written)))
          (puts-field (signed_decimal a.high) 0x20
          (given a.high c.ranges.high _ _ _ _ (field_puts c.put_signed-behind_temperature.new.out
          c.put_signed-behind_temperature.result (signed_decimal (wide a.high)) 0x20 c.put_signed-behind_high.new.out
          c.put_signed-behind_high.result (c.put_signed-behind_high.ensures.answer, c.put_signed-behind_high.ensures.written)))
          (puts-field (signed_decimal a.low) 0x20
          (given a.low c.ranges.low _ _ _ _ (field_puts c.put_signed-behind_high.new.out
          c.put_signed-behind_high.result (signed_decimal (wide a.low)) 0x20 c.put_signed-behind_low.new.out
          c.put_signed-behind_low.result (c.put_signed-behind_low.ensures.answer, c.put_signed-behind_low.ensures.written)))
          (puts-field (hex_digits 2 a.status) 0x20
          (field_puts c.put_signed-behind_low.new.out c.put_signed-behind_low.result (hex_digits 2 a.status) 0x20
          c.put_digits-behind_status.new.out c.put_digits-behind_status.result (
            c.put_digits-behind_status.ensures.answer,
            c.put_digits-behind_status.ensures.written,
          ))
          (puts-field (flag a.output) 0x20 (field_puts c.put_digits-behind_status.new.out c.put_digits-behind_status.result
          (flag a.output) 0x20 c.put_flag-behind_output.new.out c.put_flag-behind_output.result
          (c.put_flag-behind_output.ensures.answer, c.put_flag-behind_output.ensures.written))
          (puts-field (flag a.converting) 0x20
          (field_puts c.put_flag-behind_output.new.out c.put_flag-behind_output.result (flag a.converting) 0x20
          c.put_flag-behind_converting.new.out c.put_flag-behind_converting.result (
            c.put_flag-behind_converting.ensures.answer,
            c.put_flag-behind_converting.ensures.written,
          ))
          (field_puts c.put_flag-behind_converting.new.out c.put_flag-behind_converting.result (flag a.thermostat) 0x0A
          c.put_flag.new.out c.put_flag.result (
            c.put_flag.ensures.answer,
            c.put_flag.ensures.written,
          ))))))),
      fields-short a.temperature a.high a.low a.status a.output a.converting a.thermostat
          c.ranges.temperature c.ranges.high c.ranges.low,
    )
