-- Eight bits put into an empty register, lowest first, make their number: `eight-in`.
use Rattle.basic_laws.specs.Bits.{bit_at}
use mathlib.Core.Bool.{true}
use Rattle.thermostat.specs.Calls.{changed_status}
use Rattle.commands.specs.BytesLaws.{eight-in}
use Rattle.thermostat.proofs.master.changed_status.Goals as goal

pub returns : goal.returns
unfolding changed_status
returns c =
    record {
      answer = let a =
          c.args in
          simp (
            c.push-2.ensures.answer,
            c.byte_slot-3.ensures.answer,
            c.push-sixth.ensures.answer,
            c.byte_slot-2.ensures.answer,
            c.push-fifth.ensures.answer,
            c.byte_slot.ensures.answer,
            c.push-flags.ensures.answer,
            c.push.ensures.answer,
            c.push-mode.ensures.answer,
            c.push-polarity.ensures.answer,
            c.push-oneshot.ensures.answer,
          )
          (eight-in a.asked.oneshot a.asked.polarity a.asked.mode true true (bit_at a.status 5)
          (bit_at a.status 6) (bit_at a.status 7));
    }
