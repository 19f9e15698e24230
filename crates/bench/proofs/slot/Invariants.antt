-- The first round looks and changes nothing: the line is the AND of the master's bit and the offers of the devices
-- passed, and whether the wire is free is left to those from the place on. In the second the devices passed have heard
-- the line, and all others are as they were.
use Rattle.std.proofs.Common.{◌≡◌, ◌&&◌, take, drop, not}
use Rattle.basic_laws.specs.Fold.{fold, all}
use Rattle.basic_laws.specs.Front.{map_front}
use Rattle.device.specs.Hear.{hear_of}
use Rattle.device.specs.Offer.{offer_of}
use Rattle.device.specs.Record.{holds_wire}
use Rattle.bench.proofs.slot.Given as goal

abbrev pub invariant-loop-d : goal.invariant-loop-d
invariant-loop-d l = record {
  shown : l.line ≡ fold (λ b d. b && offer_of d) l.bit (take l.d-index l.d-items);
  free_on : all (λ d. not (holds_wire d)) (drop l.d-index l.d-items) ≡ all (λ d. not (holds_wire d)) l.d-items;
}

abbrev pub invariant-loop-d-2 : goal.invariant-loop-d-2
invariant-loop-d-2 l = l.d-items ≡ map_front (λ d. hear_of d l.line) l.d-index l.initial.d-items
