-- The loop's invariant: the reading and the list hold what the codes so far have given, and no more codes than were
-- passed.
use Rattle.std.proofs.Common.{◌≡◌, ◌≤◌, length, take}
use Rattle.basic_laws.specs.Fold.{fold}
use Rattle.master_rules.specs.Pins.{pins_step, nobody_read}
use Rattle.pins.specs.Reading.{Holds}
use Rattle.pins.proofs.read_all.Given as goal

abbrev pub invariant-loop-code : goal.invariant-loop-code
invariant-loop-code l = record {
  few : l.r.codes ≤ l.code-index;
  as_long : length l.list ≡ length l.initial.list;
  holds : Holds l.initial.list l.list l.r (fold pins_step (nobody_read l.initial.r.bench) (take l.code-index l.codes));
}
