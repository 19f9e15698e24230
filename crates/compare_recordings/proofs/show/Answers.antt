-- The line that was laid, and the part, are those of the two recordings.
use Rattle.std.proofs.Common.{refl}
use lib.ListN.{replicate}
use Rattle.comparing.specs.HeadingLaws.{heading-shown}
use Rattle.compare_recordings.proofs.show.Goals as goal

pub write_shown-requires : goal.write_shown-requires
write_shown-requires g c =
    let line = c.heading-end in
    let part = c.part-part in (
      heading-shown c.args.first.bytes.now c.args.second.bytes.now (replicate 64 0) part.new.side part.new.line line.result
          line.new.out refl line.ensures.answer.0 line.ensures.written part.ensures.side part.ensures.line,
      part.ensures.answer,
    )
