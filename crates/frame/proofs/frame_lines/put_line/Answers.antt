-- Presence, count, slots and feed, laid one behind the other, are the line.
use Prim.Native.Nat.{◌+◌, ◌*◌, ◌-◌, ◌≤◌}
use mathlib.Core.Path.{◌≡◌, sym, ◌∙◌}
use native.Mathlib.Omega.{arith}
use lib.ListN.{length}
use lib.Seq.{length-take-le}
use Rattle.frame.specs.Frames.{bytes_for}
use Rattle.frame.specs.Writing.{slot_bytes}
use Rattle.frame.proofs.NumberLaws.{from-bit}
use Rattle.frame.proofs.WritingLaws.{line-laid}
use borrow.Author.Rules.{rules}
use Rattle.frame.proofs.frame_lines.put_line.Goals as goal
use Rattle.frame.proofs.frame_lines.put_line.Goals.{Start}

-- the frame's array, and how much of it is written
long : (c : Start) → length c.args.f.bits ≡ 64
long c =
    search rules

pub returns : goal.returns
returns c =
    let f = c.args.f in
    let n = c.bytes_for-n.result in
    let part : n - 0 ≡ bytes_for f.count = let e = c.bytes_for-n.ensures.answer in omega arith in
    let size : length (slot_bytes f) ≡ n =
    let l = long (goal.at.returns c).Start in let most = c.requires.0 in let e = c.bytes_for-n.ensures.answer in
    length-take-le (bytes_for f.count) f.bits (omega arith) ∙ sym e in
    let room : c.args.at + (7 + 2 * n) ≤ length c.args.s.now = rw c.bytes_for-n.ensures.answer c.requires.1 in
    let shown = c.from.ensures ∙ from-bit f.presence in
    rw (
      c.lay_hex_bytes.ensures.written,
      part,
      c.lay_hex-2.ensures.written,
      c.lay_hex.ensures.written,
      shown,
    ) (line-laid c.args.s.now c.args.at f n size room)
