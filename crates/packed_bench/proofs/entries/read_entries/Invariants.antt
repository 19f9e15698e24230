-- The loop's invariant: the devices have 32 places; those so far, and those of the entries from this place on, are the
-- devices of the bytes.
use Rattle.std.proofs.Common.{◌≡◌, ◌*◌, ◌-◌, ◌++◌, length, take, drop}
use Rattle.packed_bench.specs.Table.{devices_in}
use Rattle.packed_bench.proofs.entries.read_entries.Given as goal

abbrev pub invariant-loop-place : goal.invariant-loop-place
invariant-loop-place l =
    (length l.devices ≡ 32)
    × (devices_in 32 l.t ≡ take l.place l.devices ++ devices_in (32 - l.place) (drop (48 * l.place) l.t))
