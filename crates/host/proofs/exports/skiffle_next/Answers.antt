-- The buffer of 135 bytes is long enough.
use Prim.Native.Nat.{◌≤◌}
use mathlib.Core.Path.{◌≡◌}
use native.Mathlib.Omega.{arith}
use lib.ListN.{length}
use Rattle.naming.specs.Streaming.{most_held_of_recording}
use Rattle.host.specs.Laws.{lent-room}
use borrow.Author.Rules.{rules}
use Rattle.host.proofs.exports.skiffle_next.Goals as goal

pub returns : goal.returns
returns c =
    let long : length c.args.line.now ≡ most_held_of_recording = search (rules, c.well_formed.0) in
    let room : most_held_of_recording ≤ length c.args.line.now = omega arith in let all = lent-room c.args.line.now c.args.held c.args.bytes.now c.args.at c.args.ended room
    c.next.result c.next.new.line c.next.ensures.answer c.next.ensures.written in record { answer = all.0; written = all.1 }
