-- The low four bits of the register are those of the count (`remaining-low`).
use mathlib.Core.Path.{sym}
use Rattle.scratchpad.specs.FineLaws.{remaining-low}
use Rattle.scratchpad.proofs.fine.remaining.Goals as goal

pub returns : goal.returns
returns c =
    record {
      answer = rw c.register_of-register.ensures.answer
          (sym (remaining-low c.args.count (record { sfits = c.well_formed.0.1.1.0.1 })));
    }
