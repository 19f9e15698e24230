-- An empty text is laid, and reported where it has room.
use Rattle.std.proofs.Common.{◌+◌, ap, ◌∙◌}
use Rattle.mending.specs.Mending.{reported}
use Rattle.mending.proofs.drop_line.Goals as goal

pub returns : goal.returns
returns c =
    let refusal = c.args.refusal in
    record { answer = c.reported.ensures ∙ ap (reported (32 + refusal)) c.lay-written.ensures.answer; written = c.lay-written.ensures.written }
