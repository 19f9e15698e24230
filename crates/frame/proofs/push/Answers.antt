-- Below the most slots one byte is replaced, and so one bit of all.
use Prim.Native.Nat.{ℕ, ◌+◌, ◌/◌, ◌<◌}
use mathlib.Core.Path.{◌≡◌, sym, ap, ◌∙◌}
use native.Mathlib.Omega.{arith}
use lib.ListN.{set, get_or}
use mir.Syntax.{w8}
use mir.Val.{Fits}
use Rattle.frame.specs.Frames.{slots_of, pushed, Held}
use Rattle.frame.specs.FramesLaws.{push-made, push-history}
use borrow.Author.Rules.{rules}
use Rattle.frame.proofs.push.Goals as goal
use Rattle.frame.proofs.push.Goals.{Start}

-- the frame is one that the program holds
byte : (c : Start) (i : ℕ) → Fits w8 (get_or c.args.f.bits i 0)
byte c i =
    search rules

held : (c : Start) → Held c.args.f
held c =
    record { size = search rules; bytes = λ i. (byte c i).fits }

pub returns : goal.returns
returns c =
    let f = c.args.f in
    let b = c.args.bit in
    let room : f.count < 512 = omega arith in
    let made : record {
      presence = f.presence;
      count = f.count + 1;
      bits = set f.bits (f.count / 8) c.with_bit.result;
    } ≡ pushed f b =
    rw c.with_bit.ensures (sym (push-made f b (held (goal.at.returns c).Start) room)) in
    record { answer = made; history = ap slots_of made ∙ push-history f b (held (goal.at.returns c).Start) }
