-- Each arm shifts the count right and multiplies back by the same power of two, which is the one law of rounding down,
-- at 8, 4 and 2; at 1 the count is its own floor. Each step divides 2 ^ 15, so every product fits.
use mathlib.Core.Path.{refl}
use borrow.Author.Tests.{ne_eqb}
use lib.Dec.{lit<}
use Rattle.basic_laws.specs.Complement.{Fits16}
use Rattle.basic_laws.proofs.ComplementLaws.{floor-code}
use Rattle.basic_laws.proofs.RoundingLaws.{floor-one}
use Rattle.temperature.proofs.rounded.Goals as goal
use Rattle.temperature.proofs.rounded.Goals.{Start}

fits : (c : Start) → Fits16 c.args.count.0
fits c =
    record { sfits = c.well_formed.0.1.1.0.1 }

pub returns-in-0 : goal.returns-in-0
returns-in-0 c =
    record { answer = rw (c.in-0.is, floor-code _ 8 4096 (lit< tt) refl (fits (goal.at.returns-in-0 c).Start)) }

pub returns-in-1 : goal.returns-in-1
returns-in-1 c =
    record { answer = rw (c.in-1.is, floor-code _ 4 8192 (lit< tt) refl (fits (goal.at.returns-in-1 c).Start)) }

pub returns-in-2 : goal.returns-in-2
returns-in-2 c =
    record { answer = rw (c.in-2.is, floor-code _ 2 16384 (lit< tt) refl (fits (goal.at.returns-in-2 c).Start)) }

pub returns-in_default : goal.returns-in_default
returns-in_default c =
    record {
      answer = simp (
        ne_eqb _ 0 c.in_default.in_default-own.rest.0.0.1,
        ne_eqb _ 1 c.in_default.in_default-own.rest.0.1,
        ne_eqb _ 2 c.in_default.in_default-own.rest.1,
        floor-one,
      );
    }
