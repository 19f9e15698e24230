-- There is room for all that can come of the piece, so that what is laid is what is left of its whole lines, the report
-- on them, and what is told of that. The piece is what was carried and what came.
use Rattle.std.proofs.Common.{◌≡◌, ◌++◌, ◌∙◌, drop, take, ap, sym, take-append-drop}
use Rattle.pieces.specs.Carried.{carried_in}
use Rattle.pieces.specs.Pieces.{said_whole, carried}
use Rattle.mending.proofs.Laws.{piece-said, piece-noted, piece-carries}
use Rattle.mending.specs.Claims.{most_held_of_mending, report_said}
use Rattle.mending.specs.Notice.{notices_of, lines_after, RoomToMend}
use Rattle.mending.specs.NoticesLaws.{notices-told, notices-counted}
use Rattle.mending.proofs.RoomLaws.{room-text, room_whole}
use Rattle.mend_recording.proofs.Room.{room_for}
use Rattle.mend_recording.proofs.MenderReadyFollower.follow.Goals as goal

pub write_told-requires : goal.write_told-requires
write_told-requires g c =
    let s = c.args.piece.now in
    let now = c.args.self.now in
    let room : RoomToMend s now.left now.report now.told = room_for c.requires.fits in
    let fed = c.feed-fed in
    let noted = piece-noted s now.left now.report (room-text room) fed.result fed.ensures.answer fed.new.report
    fed.ensures.reported in
    let notices = c.notices-noticed in
    notices-told now.lines (take fed.result.lines fed.new.report) now.told (rw noted (room_whole room)) notices.result
    notices.ensures.answer.0 notices.new.out notices.ensures.written
    ∙ ap (notices_of now.lines) noted

pub write_left-requires : goal.write_left-requires
write_left-requires g c =
    let s = c.args.piece.now in
    let now = c.args.self.now in
    let room : RoomToMend s now.left now.report now.told = room_for c.requires.fits in
    piece-said s now.left now.report (room-text room) c.feed-fed.result c.feed-fed.ensures.answer c.feed-fed.new.out
    c.feed-fed.ensures.written

pub returns-clause-leads : goal.returns-clause-leads
returns-clause-leads g c =
    let s = c.args.piece.now in
    let now = c.args.self.now in
    let room : RoomToMend s now.left now.report now.told = room_for c.requires.fits in
    let fed = c.feed-fed in
    let noted = piece-noted s now.left now.report (room-text room) fed.result fed.ensures.answer fed.new.report
    fed.ensures.reported in
    let whole : s ≡ carried_in now.carried ++ drop c.args._held s =
    rw (← c.requires.front) (sym (take-append-drop c.args._held s)) in (
      piece-carries s now.left now.report (room-text room) fed.result fed.ensures.answer
          ∙ ap (carried most_held_of_mending) whole,
      notices-counted now.lines (take fed.result.lines fed.new.report) now.told (rw noted (room_whole room))
          c.notices-noticed.result c.notices-noticed.ensures.answer.0
          ∙ ap (lines_after now.lines) (noted ∙ ap (said_whole report_said) whole),
    )
