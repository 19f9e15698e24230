-- The decoded bytes lie over 64 zeros, and those before place n are the ones decoded.
use Prim.Native.Nat.{◌+◌, ◌-◌, ◌≤◌}
use mathlib.Core.Path.{◌≡◌, sym, ap, ◌∙◌}
use native.Mathlib.Omega.{arith}
use lib.ListN.{length, take}
use Rattle.basic_laws.specs.Laid.{laid}
use Rattle.basic_laws.specs.LaidLaws.{laid-read}
use Rattle.text.specs.Digits.{bytes_of}
use Rattle.text.proofs.LayingLaws.{lay-fits}
use Rattle.frame.specs.Frames.{no_bits, bytes_for, clear_from}
use Rattle.frame.specs.ReadLine.{LineContent, found, line_answer_of}
use Rattle.frame.specs.ReadLineLaws.{body-length, slots-clear, slots-spare}
use Rattle.frame.proofs.frame_lines.parsing.read_slots.Goals as goal
use Rattle.frame.proofs.frame_lines.parsing.read_slots.Goals.{After-clear_from-clear, After-read_bytes, Start}

-- how many bytes the digits stand for
many : (c : Start) → length (bytes_of c.args.body.now) ≡ bytes_for c.args.count
many c =
    body-length c.args.body.now c.args.count c.requires.1

few : (c : Start) → length (bytes_of c.args.body.now) ≤ 64
few c =
    let m = many c in let p = c.requires.0 in omega arith

-- what the array holds once the digits are decoded
filled : (c : After-read_bytes) → c.read_bytes.new.out
    ≡ laid no_bits 0 (bytes_of c.args.body.now)
unfolding no_bits
filled c =
    let x = bytes_of c.args.body.now in
    let size = few (c.before.before.before.before.before) in
    let room : 0 + length x ≤ length no_bits = omega arith in
    c.read_bytes.ensures.written ∙ rw c.requires.2 (lay-fits no_bits 0 x room).1

-- what the test says of the digits' own bytes
seen : (c : After-clear_from-clear) →
    let a = c.args in
    c.clear_from-clear.result ≡ clear_from a.count (bytes_of a.body.now)
seen c =
    let x = bytes_of c.args.body.now in
    let n = c.bytes_for-n.result in
    let e : n - 0 ≡ length x = let m = many (c.before.before.before.before.before.before.before.before) in let b = c.bytes_for-n.ensures.answer in omega arith in
    let p : take (n - 0) c.read_bytes.new.out ≡ x = rw (e, filled (record { before = c.before.before.before.before; type_inv = record { body = c.before.before.before.before.shared_slice_known-1.given } })) (laid-read no_bits 0 x (omega arith)) in
    c.clear_from-clear.ensures.answer ∙ ap (clear_from c.args.count) p

pub returns-then-not-clear : goal.returns-then-not-clear
returns-then-not-clear c =
    let a = c.args in
    let spare = slots-spare a.presence a.count a.body.now (sym (seen (goal.at.returns-then-not-clear c).After-clear_from-clear)
    ∙ c.if-not-clear.true) in
    c.refuse.ensures ∙ ap (λ (r : LineContent). line_answer_of (found r a.next)) (sym spare)

pub returns : goal.returns
returns c =
    let a = c.args in
    rw (
      slots-clear a.presence a.count a.body.now (sym (seen (goal.at.returns c).After-clear_from-clear)
          ∙ c.if-not-clear.false),
      ← filled (goal.at.returns c).After-read_bytes,
    )
