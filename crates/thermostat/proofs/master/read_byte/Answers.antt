use Prim.Native.Nat.{ℕ, suc, ◌+◌, ◌-◌, ◌*◌, ◌^◌}
use mathlib.Core.Path.{◌≡◌, ◌∙◌, ap}
use mathlib.Core.Bool.{true}
use native.Mathlib.Omega.{arith}
use Rattle.basic_laws.specs.Bits.{number_of}
use Rattle.commands.specs.BytesLaws.{shifted-on}
use Rattle.search_laws.specs.Reads.{bits_shown, after_reads}
use Rattle.search_laws.specs.ReadsLaws.{reads_more, shown-more}
use Rattle.search_laws.specs.Wire.{slots}
use Rattle.thermostat.specs.Slot.{probe_slotted}
use Rattle.thermostat.specs.Calls.{alone}
use borrow.Author.Rules.{rules}
use Rattle.thermostat.proofs.master.read_byte.Goals as goal

pub loop-init : goal.loop-init
unfolding slots number_of
loop-init c = search rules

pub loop-preserved : goal.loop-preserved
loop-preserved c =
    let i = c.loop.counter in
    let p = c.args.probe in
    let left : 8 - i ≡ suc (8 - (i + 1)) = omega arith in
    let seven : i + (8 - (i + 1)) ≡ 7 = omega arith in
    let before = c.loop.invariant in record {
      after = rw (c.slot-r.ensures.answer, before.after) (reads_more alone i p);
      shown = c.push-byte.ensures.answer
          ∙ rw (
            c.slot-r.ensures.answer,
            before.after,
            before.shown,
            left,
          ) (shifted-on i (8 - (i + 1)) (number_of (bits_shown alone i p))
          (probe_slotted (after_reads alone i p) true).line seven)
          ∙ ap (λ (n : ℕ). n * 2 ^ (8 - (i + 1))) (shown-more alone i p);
    }
