-- The bench as a bus (the scope, "One slot"), in two ways that agree wherever no line-powered device is busy.
--     slot_rule      the slot rule itself: the line is the AND of the master's bit and every offer, every device hears
--                   the line's bit, and a reset restarts every device
--     calls         the bench's own calls, refusals included: a refused slot or reset changes nothing and shows 0
use Rattle.search_laws.specs.Wire.{Bus}
use Rattle.bench.specs.Slot.{line_bit, heard, slotted, restarted, reset_done}
use Rattle.bench.specs.declared.Bench.{Bench}

abbrev pub slot_rule : Bus
slot_rule = record {
  Devices = Bench;
  line = λ m b. line_bit b m;
  after = λ m b. heard b (line_bit b m);
  reset = restarted;
}

abbrev pub calls : Bus
calls = record {
  Devices = Bench;
  line = λ m b. (slotted b m).line;
  after = λ m b. (slotted b m).bench;
  reset = λ b. (reset_done b).bench;
}
