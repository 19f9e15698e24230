-- Past the count or past the array there is no slot; else the bit of its byte.
use lib.ListN.{length}
use mathlib.Core.Path.{◌≡◌, sym}
use Rattle.frame.specs.FramesLaws.{slot-past, slot-here}
use borrow.Author.Rules.{rules}
use Rattle.frame.proofs.slot_bit.Goals as goal
use Rattle.frame.proofs.slot_bit.Goals.{Start}

long : (c : Start) → length c.args.f.bits ≡ 64
long c =
    search rules

pub returns-then-i-ge-MOST_SLOTS : goal.returns-then-i-ge-MOST_SLOTS
returns-then-i-ge-MOST_SLOTS c =
    record {
      answer = sym (slot-past c.args.f c.args.i
          (long (goal.at.returns-then-i-ge-MOST_SLOTS c).Start) c.if-i-ge-MOST_SLOTS.true);
    }

pub returns : goal.returns
returns c =
    record {
      answer = sym (slot-here c.args.f c.args.i
          (long (goal.at.returns c).Start) c.if-count-i.false c.if-i-ge-MOST_SLOTS.false);
    }
