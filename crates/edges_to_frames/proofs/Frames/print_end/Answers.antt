-- What stands in the buffer is what the reader hands on for the end, whatever stood there before.
use Rattle.edges_to_frames.proofs.Waits.{end_told}
use Rattle.edges_to_frames.proofs.Frames.print_end.Goals as goal

pub write_end-requires : goal.write_end-requires
write_end-requires g c =
    let e = c.print_end-printed.ensures in
    let now = c.args.self.now in
    rw (e.answer, e.written) (end_told now.reader (now.waits c.requires.0) now.text c.requires.1)
