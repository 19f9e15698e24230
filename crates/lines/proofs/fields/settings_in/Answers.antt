-- Two digits are a byte; the settings are valid where all three are.
use Rattle.std.proofs.Common.{◌≡◌, ◌&&◌}
use Rattle.lines.specs.Fields.{three_bytes_in}
use Rattle.lines.specs.FieldsLaws.{byte-below}
use Rattle.lines.proofs.fields.settings_in.Goals as goal
use Rattle.lines.proofs.fields.settings_in.Goals.{then-h, else-h, then-l, else-l}

pub overflow_cast-result : goal.overflow_cast-result
overflow_cast-result c =
    let read = c.byte_in-h.ensures in
    record { fits = rw read (byte-below c.args.high.now) }

pub overflow_cast-result-2 : goal.overflow_cast-result-2
overflow_cast-result-2 c =
    let read = c.byte_in-l.ensures in
    record { fits = rw read (byte-below c.args.low.now) }

pub overflow_cast-result-3 : goal.overflow_cast-result-3
overflow_cast-result-3 c =
    let read = c.byte_in-c.ensures in
    record {
      fits = rw read (byte-below
          c.args.configuration.now);
    }

pub returns : goal.returns
unfolding three_bytes_in
returns c =
    let h = c.byte_in-h.result.valid in
    let l = c.byte_in-l.result.valid in
    let both : c.if-h.value ≡ (h && l) = elim c.if-h.branch [
      | then-h w ↦ rw (w.value-is, w.if-h.true)
      | else-h w ↦ rw (w.value-is, w.if-h.false)
    ] in
    let all : c.if-l.result ≡ (h && l && c.byte_in-c.result.valid) = rw (← both) (elim c.if-l.branch [
      | then-l w ↦ rw (w.result-is, w.if-l.true)
      | else-l w ↦ rw (w.result-is, w.if-l.false)
    ]) in
    record { answer = rw (all, c.byte_in-h.ensures, c.byte_in-l.ensures, c.byte_in-c.ensures) }
