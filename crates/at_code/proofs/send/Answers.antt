use Rattle.std.proofs.Common.{◌∙◌, sym}
use Rattle.search_laws.specs.ReadsLaws.{bits-turn, bits-end}
use Rattle.master_rules.specs.Buses.{calls}
use Rattle.at_code.proofs.send.Goals as goal

pub loop-preserved : goal.loop-preserved
loop-preserved c =
    rw (c.slot-r.ensures.answer, ← bits-turn calls c.args.count c.loop.counter _ _ c.loop-test.true) c.loop.invariant

pub returns : goal.returns
returns c =
    record { answer = sym (bits-end calls c.args.count c.loop.counter _ _ c.loop-test.false) ∙ c.loop.invariant }
