-- The loop's invariant: what is lent, with the entries that are left laid from this place on, is what is promised; the
-- devices so far are of the types.
use Rattle.std.proofs.Common.{◌≡◌, ◌*◌, ◌-◌, take, drop}
use Rattle.basic_laws.specs.Each.{Each}
use Rattle.basic_laws.specs.Laid.{laid}
use Rattle.packed_bench.specs.Types.{InTypes}
use Rattle.packed_bench.specs.Table.{table_of}
use Rattle.packed_bench.proofs.entries.write_entries.Given as goal

abbrev pub invariant-loop-place : goal.invariant-loop-place
invariant-loop-place l =
    (laid l.t (48 * l.place) (table_of (32 - l.place) (drop l.place (take l.count l.devices)))
    ≡ laid l.initial.t 0 (table_of 32 (take l.count l.devices)))
    × Each InTypes (take l.place (take l.count l.devices))
