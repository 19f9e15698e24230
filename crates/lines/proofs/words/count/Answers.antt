-- The line's parts between spaces are counted.
use Rattle.std.proofs.Common.{refl, rules, eqb}
use Rattle.std.proofs.lemmas.Iterator.Consumers.{count_from_yields_List}
use Rattle.std.proofs.lemmas.Iterator.Splits.{YieldsList-from_slice_split}
use Rattle.text.specs.Lines.{space}
use Rattle.lines.specs.WordsLaws.{words-split}
use Rattle.lines.proofs.words.count.Goals as goal

pub returns : goal.returns
returns c =
    record {
      answer = rw (← words-split c.args.line.now) (count_from_yields_List c.split.result _ c.count.ensures.ran
          (YieldsList-from_slice_split _ (λ b. eqb b space) c.args.line.now (search rules) (search rules) refl
          (λ x b q k. search rules)));
    }
