-- The three ends of the call: no room, a last line without a feed, and none.
use lib.Dec.{lit<}
use Rattle.pieces.specs.Walk.{finish-open, finish-whole}
use Rattle.naming.specs.Printing.{printed_line}
use Rattle.naming.specs.Streaming.{most_printed}
use Rattle.basic_laws.specs.Places.{part-all}
use Rattle.naming.proofs.StreamingLaws.{text-short}
use Rattle.naming.proofs.streaming.finish.Goals as goal

pub returns-then-next-s : goal.returns-then-next-s
returns-then-next-s c =
    let e = finish-open printed_line most_printed (lit< tt) c.args.s.now c.args.out.now c.if-out-s.false
    c.print_whole-done.result c.print_whole-done.ensures.answer c.print_whole-done.new.out c.print_whole-done.ensures.written
    text-short _ (part-all c.args.s.now c.print_whole-done.result.next) c.if-next-s.true
    c.print_line.result c.print_line.new.out c.print_line.ensures.answer c.print_line.ensures.written in
    record { answer = e.0; written = e.1 }

pub returns : goal.returns
returns c =
    let e = finish-whole printed_line most_printed (lit< tt) c.args.s.now c.args.out.now
    c.if-out-s.false c.print_whole-done.result c.print_whole-done.ensures.answer
    c.print_whole-done.new.out c.print_whole-done.ensures.written c.if-next-s.false in
    record { answer = e.0; written = e.1 }
