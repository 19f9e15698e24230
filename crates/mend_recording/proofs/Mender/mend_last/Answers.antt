-- What is carried to the end is put at the front of the buffer, and what is laid for it is handed on.
use Rattle.std.proofs.Common.{◌∙◌, length, take, ap, arith}
use Rattle.pieces.specs.Carried.{carried_in}
use Rattle.pieces.specs.CarriedLaws.{laid-taken}
use Rattle.mending.specs.Mending.{mended_text, reports}
use Rattle.mending.proofs.Laws.{text-said, text-noted}
use Rattle.mending.specs.Notice.{notices_of, RoomToMend}
use Rattle.mending.specs.NoticesLaws.{notices-told}
use Rattle.mending.proofs.RoomLaws.{room-text, room-all}
use Rattle.mend_recording.proofs.Room.{room_for}
use Rattle.mend_recording.proofs.Mender.mend_last.Goals as goal

pub write_last-requires : goal.write_last-requires
write_last-requires g c =
    let now = c.args.self.now in
    let put = c.put_back-held in
    let few = put.ensures.few in
    let u = carried_in now.carried in
    let front = laid-taken c.args.buffer.now u (omega arith) put.result put.new.buffer put.ensures.answer put.ensures.written in
    let s = take put.result.next put.new.buffer in
    let size = ap length front.1 in
    let room : RoomToMend s now.left now.report now.told =
    room_for record { size = length c.args.buffer.now; allowed = c.requires; within = omega arith } in
    let last = c.mend-last in
    let noted = text-noted s now.left now.report (room-text room) last.result last.ensures.answer.0 last.new.report
    last.ensures.reported in
    let notices = c.notices-noticed in (
      text-said s now.left now.report (room-text room) last.result last.ensures.answer.0 last.new.out last.ensures.written
          ∙ ap mended_text front.1,
      notices-told now.lines (take last.result.lines last.new.report) now.told (rw noted (room-all room)) notices.result
          notices.ensures.answer.0 notices.new.out notices.ensures.written
          ∙ ap (notices_of now.lines) (noted ∙ ap reports front.1),
    )
