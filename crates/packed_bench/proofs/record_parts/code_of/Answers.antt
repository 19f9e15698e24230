-- The number that std makes of the bytes is the definition's.
use Rattle.std.proofs.Common.{◌∙◌}
use Rattle.packed_bench.specs.BytesLaws.{code-same}
use Rattle.packed_bench.proofs.record_parts.code_of.Goals as goal

pub returns : goal.returns
returns c =
    record { answer = c.from_le_bytes.ensures ∙ code-same c.args.b }
