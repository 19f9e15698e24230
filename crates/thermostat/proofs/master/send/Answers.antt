use mathlib.Core.Path.{◌∙◌, sym}
use Rattle.search_laws.specs.ReadsLaws.{bits-turn, bits-end}
use Rattle.thermostat.specs.Calls.{alone}
use Rattle.thermostat.proofs.master.send.Goals as goal

pub loop-preserved : goal.loop-preserved
loop-preserved c =
    rw (c.slot.ensures.answer, ← bits-turn alone 8 c.loop.counter _ _ c.loop-test.true) c.loop.invariant

pub returns : goal.returns
returns c =
    record { answer = sym (bits-end alone 8 c.loop.counter _ _ c.loop-test.false) ∙ c.loop.invariant }
