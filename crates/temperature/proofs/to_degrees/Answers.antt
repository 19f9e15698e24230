-- The count fits sixteen bits, so the code's quotient is the nearest number, which is exact.
use mathlib.Core.Path.{refl}
use Rattle.basic_laws.proofs.ComplementLaws.{held_back}
use Rattle.temperature.specs.DegreesLaws.{quotient, sixteen, sixteenths-exact}
use Rattle.temperature.proofs.to_degrees.Goals as goal

pub returns : goal.returns
returns c =
    record {
      answer = let z = c.args.c.0 in
          let h = c.well_formed.0.1.1.0.1 in
          rw (held_back z (record { sfits = h }), sixteen, quotient z h) (refl, sixteenths-exact z h);
    }
