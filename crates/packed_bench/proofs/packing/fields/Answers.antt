-- Each field from its own bytes.
use mathlib.Core.Path.{◌≡◌, ap, ◌∙◌}
use lib.ListN.{get_or}
use Rattle.packed_bench.specs.Bytes.{code_from_bytes, eight_at}
use Rattle.packed_bench.specs.Parts.{stage_of, activity_of, power_of}
use Rattle.packed_bench.specs.Packed.{case_at, reading_at, fields_of}
use Rattle.packed_bench.proofs.packing.fields.Goals as goal

pub returns : goal.returns
unfolding fields_of
returns c =
    record {
      answer = let t = c.args.t in
          let code : c.code_of-code.result ≡ code_from_bytes (eight_at t 0) =
          c.code_of-code.ensures.answer ∙ ap (λ l. code_from_bytes (eight_at l 0)) c.eight_at.ensures.answer in
          let pad : c.eight_at-scratchpad.result ≡ eight_at t 8 = c.eight_at-scratchpad.ensures.answer in
          let stage : c.stage_of-stage.result ≡ stage_of (case_at t 16) =
          c.stage_of-stage.ensures.answer ∙ ap stage_of c.case_at.ensures.answer in
          let activity : c.activity_of-activity.result ≡ activity_of (case_at t 20) =
          c.activity_of-activity.ensures.answer ∙ ap activity_of c.case_at-2.ensures.answer in
          let power : c.power_of-power.result ≡ power_of (get_or t 27 0) = c.power_of-power.ensures.answer in
          let reading : c.reading_from-reading.result ≡ reading_at t 30 = c.reading_from-reading.ensures.answer in
          rw (code, pad, stage, activity, power, reading);
    }
