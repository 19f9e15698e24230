-- The lines that answer the requests of the thermostat console. A status is two hexadecimal digits; temperature and
-- limits are whole degrees with their sign; a truth value is 0 or 1.
--     status_line r s        REFUSAL STATUS
--     probe_line p           TEMPERATURE HIGH LOW STATUS OUTPUT CONVERTING THERMOSTAT of a probe as it stands
--     reply_line a           the line of a reply: ? to what is no request, REFUSAL, 0 and a bit, or one of those above
use Rattle.std.specs.Prelude.{ℕ, Bool, List, [], ◌∷◌, ℤ}
use Rattle.refusals.specs.Refusals.{accepted}
use Rattle.text.specs.Decimal.{decimal, signed_decimal}
use Rattle.text.specs.Digits.{hex_digits}
use Rattle.text.specs.Putting.{line, flag}
use Rattle.temperature.specs.Alarm.{limit_of}
use Rattle.bench_answers.specs.Answers.{bad_line, refusal_line, bit_line}
use Rattle.thermostat.specs.Status.{status_of}
use Rattle.thermostat.specs.declared.Thermostat.{Thermostat}
use Rattle.thermostat_session.specs.declared.answers.Reply.{Reply}
use Rattle.thermostat_session.specs.declared.answers.Reply.TheVariants.{Unknown, Plain, Bit, StatusByte, Probe}

unfoldable pub status_line : ℕ → ℕ → List ℕ
status_line refusal status = line (decimal refusal ∷ hex_digits 2 status ∷ [])

-- the seven fields
unfoldable pub fields_line : ℤ → ℤ → ℤ → ℕ → Bool → Bool → Bool → List ℕ
fields_line temperature high low status output converting thermostat =
    line (signed_decimal temperature ∷ signed_decimal high ∷ signed_decimal low ∷ hex_digits 2 status ∷ flag output
    ∷ flag converting ∷ flag thermostat ∷ [])

abbrev pub probe_line : Thermostat → List ℕ
probe_line p = fields_line (limit_of p.temperature).0 (limit_of p.kept.high).0 (limit_of p.kept.low).0
    (status_of p) p.output p.converting p.thermostat

unfoldable pub reply_line : Reply → List ℕ
reply_line Unknown = bad_line
reply_line (Plain refusal) = refusal_line refusal
reply_line (Bit bit) = bit_line accepted bit
reply_line (StatusByte refusal status) = status_line refusal status
reply_line (Probe p) = probe_line p
