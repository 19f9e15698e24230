-- Presence stays as it is, and what is not refused: a run of slots throughout which nobody holds the wire.
use Rattle.std.specs.Prelude.{Bool, List, [], ◌∷◌, ◌≡◌, ltb}
use Rattle.std.proofs.Common.{ap, ◌∙◌}
use Rattle.search_laws.specs.Holds.{slots-hold}
use Rattle.search_laws.specs.Wire.{passes, slots}
use Rattle.bench.proofs.Laws.{heard-count, restarted-count, slot-accepted, reset-accepted}
use Rattle.bench.specs.Slot.{line_bit, presence_of, restarted}
use Rattle.bench.specs.declared.Bench.{Bench}
use Rattle.master_rules.specs.Buses.{slot_rule}
use Rattle.master_rules.specs.Course.{Throughout, Runs}
use Rattle.master_rules.specs.OnTheBench.{Free}
use Rattle.master_rules.specs.Issued.{SlotsGranted, Granted}

-- ## What they show

-- presence stays as it is
pub slots-presence : (bits : List Bool) (b : Bench)
    → presence_of (slots slot_rule bits (restarted b)).devices ≡ presence_of b
slots-presence bits b =
    slots-hold slot_rule (λ c. presence_of c ≡ presence_of b) (λ m c e. ap (ltb 0) (heard-count c (line_bit c m))
    ∙ e) bits (restarted b)
    (ap (ltb 0) (restarted-count b))

-- ## None is refused

slots-granted : (bits : List Bool) (b : Bench) → Throughout slot_rule Free bits b → SlotsGranted bits b
slots-granted [] b t = tt
slots-granted (x ∷ bits) b t = (ap (λ r. r.refusal) (slot-accepted b x t.0), slots-granted bits _ t.1)

-- a run of slots after a reset, and what follows it
pub granted-run : (bits : List Bool) (passes : List (List Bool)) (b : Bench) → Free b
    → Runs slot_rule Free bits (restarted b)
    → (Free (slots slot_rule bits (restarted b)).devices → Granted passes (slots slot_rule bits (restarted b)).devices)
    → Granted (bits ∷ passes) b
granted-run bits passes b f r more =
    (ap (λ r. r.refusal) (reset-accepted b f), slots-granted bits (restarted b) r.throughout, more r.after-it)
