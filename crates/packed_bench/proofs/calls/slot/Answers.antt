-- Unpacked, called, packed: the one law.
use Rattle.bench.specs.Slot.{slotted}
use Rattle.packed_bench.specs.Answers.{no_slot, slot_seen}
use Rattle.packed_bench.specs.ThroughLaws.{slot-keeps, accepted-room, refused-done, stored-done}
use Rattle.packed_bench.proofs.calls.slot.Goals as goal

pub returns-then-refusal-ne-ACCEPTED : goal.returns-then-refusal-ne-ACCEPTED
returns-then-refusal-ne-ACCEPTED c =
    let a = c.args in let all = refused-done (λ b. slotted b a.bit) slot_seen (λ r. r.bench) no_slot a.t.now c.unpack-there.result
    c.unpack-there.ensures.answer c.if-refusal-ne-ACCEPTED.true in record { answer = all.0; written = all.1.0; after = all.1.1 }

pub store-requires : goal.store-requires
store-requires c =
    accepted-room _ c.unpack-there.result c.unpack-there.ensures.answer c.if-refusal-ne-ACCEPTED.false

pub returns : goal.returns
returns c =
    let a = c.args in let all = stored-done (λ b. slotted b a.bit) slot_seen (λ r. r.bench) no_slot a.t.now c.unpack-there.result
    c.unpack-there.ensures.answer (slot-keeps a.bit) c.if-refusal-ne-ACCEPTED.false
    c.slot-done.result c.slot-done.ensures.answer _ c.store.ensures.written c.store.ensures.typed in record { answer = all.0; written = all.1.0; after = all.1.1 }
