-- At twelve bits the reading is the raw one.
use mathlib.Core.Path.{ap, ◌∙◌}
use Rattle.temperature.specs.Register.{raw_reading}
use Rattle.packed_bench.specs.PartsLaws.{reading-cleared}
use Rattle.packed_bench.proofs.record_parts.reading_from.Goals as goal

pub returns : goal.returns
returns c =
    record {
      answer = let a = c.args in
          c.reading_of.ensures.answer ∙ reading-cleared _ ∙ ap (λ u. raw_reading u a.low a.high) c.unit_at.ensures.answer;
    }
