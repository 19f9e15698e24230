-- Resets and slots that a master issues, by the slot rule itself (the scope, "One slot").
--     issued passes b        for each list of the master's bits a reset, which shows presence if there is a device, and
--                            a slot for each bit: the frames that the line showed, and the bench after the last slot
--     Granted passes b       none of these resets and slots is refused
use Rattle.std.specs.Prelude.{Bool, List, [], ◌∷◌, ◌≡◌}
use Rattle.refusals.specs.Refusals.{accepted}
use Rattle.frame.specs.declared.Frame.{Frame}
use Rattle.search_laws.specs.Wire.{slots}
use Rattle.bench.specs.Slot.{line_bit, heard, slotted, presence_of, restarted, reset_done}
use Rattle.bench.specs.declared.Bench.{Bench}
use Rattle.master_rules.specs.Buses.{slot_rule}
use Rattle.master_rules.specs.Search.{frame_shown}

-- ## Resets and slots by the slot rule

pub record Issued : Type 0 where
  pub frames : List Frame
  pub bench : Bench

unfoldable pub issued : List (List Bool) → Bench → Issued
issued [] b = record { frames = []; bench = b }
issued (bits ∷ passes) b =
    let r = slots slot_rule bits (restarted b) in
    let s = issued passes r.devices in
    record { frames = frame_shown (presence_of b) r.lines ∷ s.frames; bench = s.bench }

abbrev pub SlotsGranted : List Bool → Bench → Type 0
SlotsGranted [] b = Unit
SlotsGranted (x ∷ bits) b = ((slotted b x).refusal ≡ accepted) × SlotsGranted bits (heard b (line_bit b x))

abbrev pub Granted : List (List Bool) → Bench → Type 0
Granted [] b = Unit
Granted (bits ∷ passes) b = ((reset_done b).refusal ≡ accepted) × SlotsGranted bits (restarted b)
    × Granted passes (slots slot_rule bits (restarted b)).devices
