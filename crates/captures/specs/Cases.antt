-- The bounds of the table on both sides, as one statement.
use Rattle.std.specs.Prelude.{◌≡◌, refl, true, false}
use Rattle.captures.specs.declared.pulses.Pulse.TheVariants.{One, Zero, Reset, Other}
use Rattle.captures.specs.Bounds.{is_wait, is_silence, is_presence, pulse_of}

pub record BoundCases : Type 0 where
  pub one_from : (pulse_of 0 ≡ Other) × (pulse_of 1 ≡ One)
  pub one-to : (pulse_of 15 ≡ One) × (pulse_of 16 ≡ Zero)
  pub zero-to : (pulse_of 120 ≡ Zero) × (pulse_of 121 ≡ Other)
  pub reset-from : (pulse_of 479 ≡ Other) × (pulse_of 480 ≡ Reset)
  pub reset-to : (pulse_of 960 ≡ Reset) × (pulse_of 961 ≡ Other)
  pub wait-from : (is_wait 14 ≡ false) × (is_wait 15 ≡ true)
  pub wait-to : (is_wait 60 ≡ true) × (is_wait 61 ≡ false)
  pub silence-from : (is_silence 479 ≡ false) × (is_silence 480 ≡ true)
  pub presence-from : (is_presence 59 ≡ false) × (is_presence 60 ≡ true)
  pub presence-to : (is_presence 240 ≡ true) × (is_presence 241 ≡ false)

pub bound-cases-hold : BoundCases
bound-cases-hold = record {
  one_from = (refl, refl);
  one-to = (refl, refl);
  zero-to = (refl, refl);
  reset-from = (refl, refl);
  reset-to = (refl, refl);
  wait-from = (refl, refl);
  wait-to = (refl, refl);
  silence-from = (refl, refl);
  presence-from = (refl, refl);
  presence-to = (refl, refl);
}
