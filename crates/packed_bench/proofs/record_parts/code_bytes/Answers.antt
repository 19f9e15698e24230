-- The bytes that std takes are the definition's.
use Rattle.std.proofs.Common.{sym, ◌∙◌}
use Rattle.std.proofs.Math.Nat.{div-one}
use Rattle.packed_bench.specs.BytesLaws.{bytes-same}
use Rattle.packed_bench.proofs.record_parts.code_bytes.Goals as goal

pub returns : goal.returns
returns c =
    record { answer = c.to_le_bytes.ensures ∙ bytes-same 8 0 c.args.code c.args.code (sym (div-one c.args.code)) }
