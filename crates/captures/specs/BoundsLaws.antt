-- A time below, within and above a range, and what a low is from one bound of the table to the next.
use Rattle.std.specs.Prelude.{ℕ, ◌<◌, ◌≤◌, ◌≡◌, true, false, leb}
use Rattle.std.proofs.Math.Bool.{and-false}
use Rattle.std.proofs.Common.{arith, le-leb}
use Rattle.std.proofs.lemmas.Bool.{lt-leb}
use Rattle.captures.specs.declared.pulses.Pulse.TheVariants.{One, Zero, Reset, Other}
use Rattle.captures.specs.Bounds.{lasts_between, pulse_of}

module _ (a b d : ℕ) where
  pub between-below : d < a → lasts_between a b d ≡ false
  between-below h = rw (lt-leb a d h)

  pub between-within : a ≤ d → d ≤ b → lasts_between a b d ≡ true
  between-within h k = rw (le-leb a d h, le-leb d b k)

  pub between-above : b < d → lasts_between a b d ≡ false
  between-above h = rw (lt-leb d b h) (and-false (leb a d))

module _ (d : ℕ) where
  pub pulse-none : d < 1 → Other ≡ pulse_of d
  pulse-none h =
      let zero : d < 16 = omega arith in let reset : d < 480 = omega arith in
      rw (between-below 1 15 d h, between-below 16 120 d zero, between-below 480 960 d reset)

  pub pulse-one : 1 ≤ d → d ≤ 15 → One ≡ pulse_of d
  pulse-one h k = rw (between-within 1 15 d h k)

  pub pulse-zero : 15 < d → d ≤ 120 → Zero ≡ pulse_of d
  pulse-zero h k = rw (between-above 1 15 d h, between-within 16 120 d h k)

  pub pulse-between : 120 < d → d < 480 → Other ≡ pulse_of d
  pulse-between h k =
      let one : 15 < d = omega arith in
      rw (between-above 1 15 d one, between-above 16 120 d h, between-below 480 960 d k)

  pub pulse-reset : 480 ≤ d → d ≤ 960 → Reset ≡ pulse_of d
  pulse-reset h k =
      let one : 15 < d = omega arith in let zero : 120 < d = omega arith in
      rw (between-above 1 15 d one, between-above 16 120 d zero, between-within 480 960 d h k)

  pub pulse-long : 960 < d → Other ≡ pulse_of d
  pulse-long h =
      let one : 15 < d = omega arith in let zero : 120 < d = omega arith in
      rw (between-above 1 15 d one, between-above 16 120 d zero, between-above 480 960 d h)
