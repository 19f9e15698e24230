-- The call has room for all that the piece can say, so that what it laid is what is said for the whole lines.
use Rattle.std.proofs.Common.{◌≤◌, ◌*◌, length, lit<, arith}
use native.Mathlib.Nat.{mul-le-mul_left}
use Rattle.pieces.specs.Walk.{feed-said}
use Rattle.naming.specs.Printing.{printed_line}
use Rattle.naming.specs.Streaming.{most_printed, most_held_of_recording}
use Rattle.name_frames.proofs.NamesReadyFollower.follow.Goals as goal

pub write_said-requires : goal.write_said-requires
write_said-requires g c =
    let fits = c.requires.fits in
    let most = mul-le-mul_left {m = length c.args.piece.now} {n = fits.size} most_printed fits.within in
    let room : most_printed * length c.args.piece.now ≤ length c.args.self.now.text = omega (arith, fits.allowed.1) in
    feed-said printed_line most_printed (lit< tt) c.args.piece.now c.args.self.now.text room c.feed-fed.new.out
    most_held_of_recording c.feed-fed.result c.feed-fed.ensures.answer c.feed-fed.ensures.written
