-- Eight bits put into an empty register, lowest first, make their number: `eight-in`.
use Rattle.commands.specs.BytesLaws.{eight-in}
use Rattle.thermostat.specs.Status.{status_of}
use Rattle.thermostat.proofs.status_of.Goals as goal

pub returns : goal.returns
unfolding status_of
returns c =
    record {
      answer = simp (
        c.push.ensures.answer,
        c.push-one.ensures.answer,
        c.push-writing.ensures.answer,
        c.push-high.ensures.answer,
        c.push-low.ensures.answer,
        c.push-mode.ensures.answer,
        c.push-polarity.ensures.answer,
        c.push-oneshot.ensures.answer,
        eight-in,
      );
    }
