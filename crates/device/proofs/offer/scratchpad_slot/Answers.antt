-- A bit of one of the eight bytes, or of their CRC, which is the ninth; past the nine the line gets a 1. `pad` is the
-- eight, `long` their number.
use Prim.Native.Nat.{◌<◌, ◌≤◌}
use mathlib.Core.Path.{◌≡◌}
use native.Mathlib.Omega.{arith}
use lib.ListN.{length}
use borrow.Author.Tests.{lt-ltb, le-ltb}
use Rattle.device.specs.Offer.{scratchpad_slot}
use Rattle.device.specs.OfferLaws.{nine-length, nine-byte, nine-crc}
use borrow.Author.Rules.{rules}
use Rattle.device.proofs.offer.scratchpad_slot.Goals as goal

pub returns-then-k-lt8 : goal.returns-then-k-lt8
unfolding scratchpad_slot
returns-then-k-lt8 c =
    record {
      answer = let pad = c.args.pad in
          let long : length pad ≡ 8 = search rules in
          let within : c.args.k < 9 = omega (arith, c.if-k-lt8.true) in
          simp (c.byte_slot.ensures.answer, nine-length pad long, lt-ltb _ 9 within, nine-byte pad _ long c.if-k-lt8.true);
    }

pub returns-then-k-eq8 : goal.returns-then-k-eq8
unfolding scratchpad_slot
returns-then-k-eq8 c =
    record {
      answer = let pad = c.args.pad in
          let long : length pad ≡ 8 = search rules in
          let within : c.args.k < 9 = omega (arith, c.if-k-eq8.true) in
          simp (
            c.byte_slot-then-k-eq8.ensures.answer,
            c.crc_of.ensures.answer,
            nine-length pad long,
            lt-ltb _ 9 within,
            nine-crc pad _ long c.if-k-eq8.true,
          );
    }

pub returns : goal.returns
unfolding scratchpad_slot
returns c =
    record {
      answer = let pad = c.args.pad in
          let long : length pad ≡ 8 = search rules in
          let past : 9 ≤ c.args.k = omega arith in
          simp (nine-length pad long, le-ltb _ 9 past);
    }
