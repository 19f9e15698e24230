-- The record is that of power-up, with code, power and EEPROM of the device.
use Rattle.device.specs.Power.{power_up}
use Rattle.device.proofs.power_and_finishes.power_cycle.Goals as goal

pub returns : goal.returns
unfolding power_up
returns c =
    record { answer = simp c.powered_up.ensures.answer }
