use Rattle.std.proofs.Common.{◌≡◌, ◌∙◌, sym}
use Rattle.search.specs.Pass.{command_sent, pass_begun, command-turn, command-end}
use Rattle.search.proofs.pass.begin_pass.Goals as goal

pub loop-preserved : goal.loop-preserved
loop-preserved c =
    rw (c.show-s.ensures.answer, ← command-turn 8 c.loop.counter _ _ _ c.loop-test.true) c.loop.invariant

pub returns : goal.returns
returns c =
    record {
      answer = let a = c.args in
          let begun : pass_begun a.command a.bench ≡ command_sent 8 a.command c.blank-frame.result a.bench =
          rw c.blank-frame.ensures.answer in
          sym (command-end 8 c.loop.counter c.loop.left _ _ c.loop-test.false) ∙ c.loop.invariant ∙ sym begun;
    }
