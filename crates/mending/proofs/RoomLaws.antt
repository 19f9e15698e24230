-- What has room for all that can come of a text has room for each part of that, and for all that can come of a shorter
-- text.
use Rattle.std.specs.Prelude.{◌≡◌, ℕ, ◌*◌, ◌≤◌, true, List, length}
use Rattle.std.proofs.Common.{arith, mul-le-mul_left}
use Rattle.std.proofs.lemmas.List.{length-map}
use Rattle.text.specs.Lines.{lines_of}
use Rattle.pieces.specs.Pieces.{whole, said_whole}
use Rattle.mending.specs.Mending.{report_byte, reports}
use Rattle.mending.specs.Claims.{report_said}
use Rattle.mending.specs.MendingText.{text_room}
use Rattle.mending.specs.Notice.{most_told, RoomToMend}
use Rattle.mending.proofs.Laws.{room-there, lines-few, notes-length, whole-fewer}

module _ {s left report told : List ℕ} (room : RoomToMend s left report told) where
  pub room-less : (u left' report' told' : List ℕ) → length u ≤ length s → length left' ≡ length left
      → length report' ≡ length report → length told' ≡ length told
      → RoomToMend u left' report' told'
  room-less u left' report' told' less a b c =
      let t = room.text in
      let n = room.noted in
      let w = room.notices in
      let m = mul-le-mul_left {m = length u} {n = length s} most_told less in
      record { text = omega arith; noted = omega arith; notices = omega arith }

  pub room-text : text_room s left report ≡ true
  room-text = let few = lines-few s in let n = room.noted in room-there s left report room.text (omega arith)

  pub room_whole : most_told * length (said_whole report_said s) ≤ length told
  room_whole =
      let a = notes-length (whole (lines_of s)) in
      let b = whole-fewer (lines_of s) in
      let few = lines-few s in
      let w = room.notices in
      let m = mul-le-mul_left {m = length (said_whole report_said s)} {n = length s} most_told (omega arith) in
      omega arith

  pub room-all : most_told * length (reports s) ≤ length told
  room-all =
      let a = length-map (lines_of s) report_byte in
      let few = lines-few s in
      let w = room.notices in
      let m = mul-le-mul_left {m = length (reports s)} {n = length s} most_told (omega arith) in
      omega arith
