-- Unpacked, called, packed: the one law.
use Rattle.bench.specs.Slot.{reset_done}
use Rattle.packed_bench.specs.Answers.{no_reset, reset_seen}
use Rattle.packed_bench.specs.ThroughLaws.{reset-keeps, accepted-room, refused-done, stored-done}
use Rattle.packed_bench.proofs.calls.reset.Goals as goal

pub returns-then-refusal-ne-ACCEPTED : goal.returns-then-refusal-ne-ACCEPTED
returns-then-refusal-ne-ACCEPTED c =
    let a = c.args in let all = refused-done (λ b. reset_done b) reset_seen (λ r. r.bench) no_reset a.t.now c.unpack-there.result
    c.unpack-there.ensures.answer c.if-refusal-ne-ACCEPTED.true in record { answer = all.0; written = all.1.0; after = all.1.1 }

pub store-requires : goal.store-requires
store-requires c =
    accepted-room _ c.unpack-there.result c.unpack-there.ensures.answer c.if-refusal-ne-ACCEPTED.false

pub returns : goal.returns
returns c =
    let a = c.args in let all = stored-done (λ b. reset_done b) reset_seen (λ r. r.bench) no_reset a.t.now c.unpack-there.result
    c.unpack-there.ensures.answer reset-keeps c.if-refusal-ne-ACCEPTED.false
    c.reset-done.result c.reset-done.ensures.answer _ c.store.ensures.written c.store.ensures.typed in record { answer = all.0; written = all.1.0; after = all.1.1 }
