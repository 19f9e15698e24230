use Rattle.std.proofs.Common.{ℕ, suc, ◌≡◌, ◌+◌, ◌-◌, ◌*◌, ◌^◌, ◌∙◌, refl, ap, arith, true}
use native.Mathlib.Nat.{mul-one}
use Rattle.basic_laws.specs.Bits.{number_of}
use Rattle.commands.specs.BytesLaws.{shifted-on}
use Rattle.search_laws.specs.Wire.{slots}
use Rattle.bench.specs.Slot.{slotted}
use Rattle.at_code.specs.Replies.{byte_read_of}
use Rattle.master_rules.specs.Access.{after_slots, byte_shown}
use Rattle.search_laws.specs.Reads.{bits_shown}
use Rattle.search_laws.specs.ReadsLaws.{reads_more, shown-more}
use Rattle.master_rules.specs.Buses.{calls}
use Rattle.at_code.proofs.read_byte.Goals as goal

pub loop-init : goal.loop-init
unfolding slots number_of
loop-init c =
    record { bench_is = refl; byte_is = refl }

pub loop-preserved : goal.loop-preserved
loop-preserved c =
    let i = c.loop.counter in
    let b = c.args.bench in
    let inv = c.loop.invariant in
    let left : 8 - i ≡ suc (8 - (i + 1)) = omega arith in
    let seven : i + (8 - (i + 1)) ≡ 7 = omega arith in
    record {
      bench_is = rw (c.slot-r.ensures.answer, inv.bench_is) (reads_more calls i b);
      byte_is = c.push-byte.ensures.answer
          ∙ rw (c.slot-r.ensures.answer, inv.bench_is, inv.byte_is, left)
          (shifted-on i (8 - (i + 1)) (number_of (bits_shown calls i b)) (slotted (after_slots i b) true).line seven)
          ∙ ap (λ (n : ℕ). n * 2 ^ (8 - (i + 1))) (shown-more calls i b);
    }

pub returns : goal.returns
unfolding byte_read_of
returns c =
    record {
      answer = let all : c.loop.counter ≡ 8 = omega arith in
          rw (c.loop.invariant.bench_is, c.loop.invariant.byte_is, all, mul-one (byte_shown c.args.bench));
    }
