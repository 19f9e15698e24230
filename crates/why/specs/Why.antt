-- Why a code is on the list of an alarm search, or is not (request E1): the reason, the reading and the two limits as
-- they stood at the last conversion that finished since power-up, and whether either of today's limits differs.
--     band_of t high low      where a whole degree stands to its limits, equality included; with low above high it may
--                            be past both
--     band_on p               where a page's reading stands to the page's limits: never by the flag, never by today's
--                            limits
--     on_the_list r            whether the reason puts a code on the list: high, low or both
--     reason_number r         the number of a reason, 0 to 5
--     silent n r             a refusal or a reason without numbers: zero, zero, zero and no
--     limits_differ p pad     whether a limit of today, in scratchpad bytes 2 and 3, is another than the page's
--     told_by p pad           what a page says, with the scratchpad as it stands today
--     why_at b place          the same for the device at a place, or that there is none
--     why_of b code           the answer for a code: 5, then 7, for a code that is not sound; else by the device with
--                            that code, or that there is none
use Rattle.std.specs.Prelude.{ℕ, Bool, true, false, not, ◌&&◌, List, eqb, pos, get_or}
use Rattle.std.specs.Int.Signed.{le_z}
use Rattle.std.specs.Prelude.{if◌then◌else◌}
use Rattle.refusals.specs.Refusals.{accepted}
use Rattle.family.specs.Layout.{high_limit_place, low_limit_place}
use Rattle.rom.specs.Code.{code_refusal, sound}
use Rattle.temperature.specs.Alarm.{limit_of}
use Rattle.temperature.specs.Units.{whole_of}
use Rattle.temperature.specs.declared.Reading.TheVariants.{InSixteenths}
use Rattle.temperature.specs.declared.WholeDegrees.{WholeDegrees}
use Rattle.device.specs.declared.Page.{Page}
use Rattle.bench.specs.Bench.{place_of}
use Rattle.bench.specs.Calls.{device_at}
use Rattle.bench.specs.declared.Bench.{Bench}
use Rattle.bench.specs.declared.Place.{Place}
use Rattle.bench.specs.declared.Place.TheVariants.{At, Nowhere}
use Rattle.why.specs.declared.rules.Reason.{Reason}
use Rattle.why.specs.declared.rules.Reason.TheVariants.{NotOnBench, NoConversion, InBand, High, Low, Both}
use Rattle.why.specs.declared.rules.Why.{Why}

-- ## The reason

abbrev pub band_of : WholeDegrees → WholeDegrees → WholeDegrees → Reason
band_of t high low =
    if le_z high.0 t.0 then if le_z t.0 low.0 then Both else High
    else if le_z t.0 low.0 then Low
    else InBand

abbrev pub band_on : Page → Reason
band_on p = band_of (whole_of p.reading) (limit_of p.high) (limit_of p.low)

abbrev pub on_the_list : Reason → Bool
on_the_list NotOnBench = false
on_the_list NoConversion = false
on_the_list InBand = false
on_the_list High = true
on_the_list Low = true
on_the_list Both = true

abbrev pub reason_number : Reason → ℕ
reason_number NotOnBench = 0
reason_number NoConversion = 1
reason_number InBand = 2
reason_number High = 3
reason_number Low = 4
reason_number Both = 5

-- ## The answer

abbrev pub silent : ℕ → Reason → Why
silent refusal reason = record {
  refusal = refusal;
  reason = reason;
  reading = InSixteenths (record { 0 = pos 0 });
  high = record { 0 = pos 0 };
  low = record { 0 = pos 0 };
  differs = false;
}

abbrev pub limits_differ : Page → List ℕ → Bool
limits_differ p pad = not (eqb (get_or pad high_limit_place 0) p.high && eqb (get_or pad low_limit_place 0) p.low)

unfoldable pub told_by : Page → List ℕ → Why
told_by p pad =
    if p.taken then record {
      refusal = accepted;
      reason = band_on p;
      reading = p.reading;
      high = limit_of p.high;
      low = limit_of p.low;
      differs = limits_differ p pad;
    }
    else silent accepted NoConversion

abbrev pub why_at : Bench → Place → Why
why_at b (At i) = let d = device_at b i in told_by d.page d.scratchpad
why_at b Nowhere = silent accepted NotOnBench

unfoldable pub why_of : Bench → ℕ → Why
why_of b code = if sound code then why_at b (place_of b code) else silent (code_refusal code) NotOnBench
