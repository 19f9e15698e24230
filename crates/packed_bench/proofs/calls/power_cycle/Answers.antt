-- Unpacked, called, packed: the one law.
use mathlib.Core.Path.{◌∙◌}
use Rattle.bench.specs.Calls.{power_cycled}
use Rattle.packed_bench.specs.ThroughLaws.{cycle-keeps, accepted-room, refused-done, stored-done}
use Rattle.packed_bench.proofs.calls.power_cycle.Goals as goal

pub returns-then-refusal-ne-ACCEPTED : goal.returns-then-refusal-ne-ACCEPTED
returns-then-refusal-ne-ACCEPTED c =
    let a = c.args in let all = refused-done (λ b. power_cycled b a.code) (λ r. r.refusal) (λ r. r.bench) (λ n. n) a.t.now
    c.unpack-there.result c.unpack-there.ensures.answer c.if-refusal-ne-ACCEPTED.true in record { answer = all.0; written = all.1.0; after = all.1.1 }

pub keep-requires : goal.keep-requires
keep-requires c =
    accepted-room _ c.unpack-there.result c.unpack-there.ensures.answer c.if-refusal-ne-ACCEPTED.false

pub returns : goal.returns
returns c =
    let a = c.args in
    let done =
    stored-done (λ b. power_cycled b a.code) (λ r. r.refusal) (λ r. r.bench) (λ n. n) a.t.now
    c.unpack-there.result c.unpack-there.ensures.answer (cycle-keeps a.code) c.if-refusal-ne-ACCEPTED.false
    c.power_cycle.result c.power_cycle.ensures.answer _ c.keep.ensures.written c.keep.ensures.typed in
    record { answer = c.keep.ensures.answer ∙ done.0; written = done.1.0; after = done.1.1 }
