-- What is carried to the end is put at the front of the buffer, and what is laid for it is handed on.
use Rattle.std.proofs.Common.{◌≤◌, ◌*◌, ◌∙◌, length, take, ap, lit<, arith}
use native.Mathlib.Nat.{mul-le-mul_left}
use Rattle.pieces.specs.Carried.{carried_in}
use Rattle.pieces.specs.CarriedLaws.{laid-taken}
use Rattle.pieces.specs.Pieces.{said}
use Rattle.pieces.specs.Walk.{finish-said}
use Rattle.naming.specs.Printing.{printed_line}
use Rattle.naming.specs.Streaming.{most_printed}
use Rattle.name_frames.proofs.Names.print_last.Goals as goal

pub write_last-requires : goal.write_last-requires
write_last-requires g c =
    let put = c.put_back-end in
    let few = put.ensures.few in
    let u = carried_in c.args.self.now.carried in
    let front = laid-taken c.args.buffer.now u (omega arith) put.result put.new.buffer put.ensures.answer put.ensures.written in
    let bytes = take put.result.next put.new.buffer in
    let most = mul-le-mul_left {m = length u} {n = length c.args.buffer.now} most_printed (omega arith) in
    let wide : most_printed * length bytes ≤ length c.args.self.now.text = rw front.1 (omega (arith, c.requires.1)) in
    finish-said printed_line most_printed (lit< tt) bytes c.args.self.now.text wide c.finish-last.new.out
    c.finish-last.result c.finish-last.ensures.answer.0 c.finish-last.ensures.written
    ∙ ap (said printed_line) front.1
