-- The pins are kept where the family has them, the configuration in its stored form, and the rest is power-up.
use Rattle.device.specs.Power.{joined}
use Rattle.device.proofs.power_and_finishes.join.Goals as goal

pub returns : goal.returns
unfolding joined
returns c =
    record {
      answer = simp (
        c.powered_up.ensures.answer,
        c.kept_configuration-configuration.ensures.answer,
        c.row_of-row.ensures.answer,
        c.kept_pins-pins.ensures.answer,
        c.family_row.ensures.answer,
      );
    }
