-- The branches of the rule, one law for each. How long the line was high before the first edge counts for nothing.
use Rattle.std.specs.Prelude.{ℕ, ◌-◌, ◌<◌, ◌≤◌, ◌≡◌, refl, Bool, true, false, ◌&&◌, leb, ltb}
use Rattle.std.proofs.Common.{sym, ap, ◌∙◌, arith, le-leb, lt-ltb, le-ltb}
use Rattle.std.proofs.Math.Bool.{and-false}
use Rattle.std.proofs.lemmas.Bool.{false≢true, lt-leb}
use Rattle.basic_laws.specs.ChoiceLaws.{choice-then, choice-else}
use Rattle.refusals.specs.Refusals.{accepted, malformed, bad_pulse, not_later}
use Rattle.frame.specs.Frames.{most_slots, blank_frame, pushed}
use Rattle.captures.specs.declared.pulses.PulseStage.{PulseStage}
use Rattle.captures.specs.declared.pulses.PulseStage.TheVariants.{Idle, FirstLow, Released, Presence, High, Low}
use Rattle.captures.specs.declared.pulses.Wire.{Wire}
use Rattle.captures.specs.BoundsLaws.{between-below, between-within, between-above}
use Rattle.captures.specs.Rule.{begun, goes, refuses, moves, restarts, takes_slot, after_first_low, after_release}
use Rattle.captures.specs.Rule.{after_presence, after_level, edge_step, ending_at}

pub first_any : (s : PulseStage) (w : Wire) (t d e : ℕ) → begun s ≡ false → after_level s w t d ≡ after_level s w t e
first_any Idle w t d e h = refl
first_any FirstLow w t d e h = absurd (false≢true (sym h))
first_any Released w t d e h = absurd (false≢true (sym h))
first_any Presence w t d e h = absurd (false≢true (sym h))
first_any High w t d e h = absurd (false≢true (sym h))
first_any Low w t d e h = absurd (false≢true (sym h))

-- an edge behind another, by its time
module _ (w : Wire) (t : ℕ) (some : begun w.stage ≡ true) where
  abbrev late : Bool
  late = begun w.stage && leb t w.last

  pub edge-late : t ≤ w.last → refuses w not_later ≡ edge_step w t
  edge-late h =
      choice-then late (refuses w not_later) (after_level w.stage w t (t - w.last))
      (ap (λ (b : Bool). b && leb t w.last) some ∙ le-leb t w.last h)

  pub edge-later : w.last < t → after_level w.stage w t (t - w.last) ≡ edge_step w t
  edge-later h =
      choice-else late (refuses w not_later) (after_level w.stage w t (t - w.last))
      (ap (λ (b : Bool). b && leb t w.last) some ∙ lt-leb t w.last h)

-- an end that is refused closes no frame
pub refused-open : (s : PulseStage) → ((ending_at s).refusal ≡ accepted → ⊥) → (ending_at s).closes ≡ false
refused-open Idle h = refl
refused-open FirstLow h = refl
refused-open Released h = absurd (h refl)
refused-open Presence h = refl
refused-open High h = absurd (h refl)
refused-open Low h = refl

module _ (w : Wire) (t d : ℕ) where
  pub first_short : d < 480 → refuses w bad_pulse ≡ after_first_low w t d
  first_short h = rw (between-below 480 960 d h)

  pub first-reset : 480 ≤ d → d ≤ 960 → restarts t false ≡ after_first_low w t d
  first-reset h k = rw (between-within 480 960 d h k)

  pub first-long : 960 < d → refuses w bad_pulse ≡ after_first_low w t d
  first-long h = rw (between-above 480 960 d h)

  pub gap-short : d < 15 → refuses w bad_pulse ≡ after_release w t d
  gap-short h = let k : d < 480 = omega arith in rw (between-below 15 60 d h, lt-leb 480 d k)

  pub gap-wait : 15 ≤ d → d ≤ 60 → moves w Presence t ≡ after_release w t d
  gap-wait h k = rw (between-within 15 60 d h k)

  pub gap-between : 60 < d → d < 480 → refuses w bad_pulse ≡ after_release w t d
  gap-between h k = rw (between-above 15 60 d h, lt-leb 480 d k)

  pub gap-silence : 480 ≤ d → moves w Low t ≡ after_release w t d
  gap-silence h = let k : 60 < d = omega arith in rw (between-above 15 60 d k, le-leb 480 d h)

  pub presence-short : d < 60 → refuses w bad_pulse ≡ after_presence w t d
  presence-short h = rw (between-below 60 240 d h)

  pub presence-seen : 60 ≤ d → d ≤ 240 → goes High t (blank_frame true) ≡ after_presence w t d
  presence-seen h k = rw (between-within 60 240 d h k)

  pub presence-long : 240 < d → refuses w bad_pulse ≡ after_presence w t d
  presence-long h = rw (between-above 60 240 d h)

-- ## A slot, by the frame that is open

module _ (w : Wire) (t : ℕ) (b : Bool) where
  abbrev room : Bool
  room = w.frame.presence && ltb w.frame.count most_slots

  pub slot-silent : w.frame.presence ≡ false → refuses w malformed ≡ takes_slot w t b
  slot-silent e = choice-else room (goes High t (pushed w.frame b)) (refuses w malformed)
      (ap (λ (p : Bool). p && ltb w.frame.count most_slots) e)

  pub slot-past : most_slots ≤ w.frame.count → refuses w malformed ≡ takes_slot w t b
  slot-past h = choice-else room (goes High t (pushed w.frame b)) (refuses w malformed)
      (ap (λ (u : Bool). w.frame.presence && u) (le-ltb w.frame.count most_slots h)
      ∙ and-false w.frame.presence)

  pub slot-taken : w.frame.presence ≡ true → w.frame.count < most_slots
      → goes High t (pushed w.frame b) ≡ takes_slot w t b
  slot-taken e h = choice-then room (goes High t (pushed w.frame b)) (refuses w malformed)
      (ap (λ (p : Bool). p && ltb w.frame.count most_slots) e ∙ lt-ltb w.frame.count most_slots h)
