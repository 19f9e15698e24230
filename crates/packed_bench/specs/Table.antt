-- The table of a bench in bytes (docs/TABLE.md): 32 entries of 48 bytes, the devices in the leading ones, zeros in the
-- others.
--     entry_bytes ds       the entry of the first of ds; 48 zeros where there is none
--     table_of n ds        n entries, those of ds from the first on
--     devices_in n t       the devices that n entries hold: as they are read, up to the first with the code 0
--     is_table t           whether t begins with the very table of the devices that are read from it, and their codes
--                         fit
--     unpacked t          the bench that t holds; 1 for fewer than 1,536 bytes, then 22 for bytes that are no table,
--                         with the empty bench
--     pack_refusal t b     1 where less than a table is lent, then 22 for a bench that no table holds
--     packed_into t b      the lent bytes once a bench is packed into them: its table from byte 0 on, all others as they
--                         were; on a refusal all of them
use Rattle.std.specs.Prelude.{ℕ, zero, suc, Bool, ◌&&◌, List, [], ◌∷◌, ◌++◌, eqb, ltb, length, take, drop, replicate}
use Rattle.std.specs.Prelude.{if◌then◌else◌}
use Rattle.basic_laws.specs.Laid.{laid}
use Rattle.basic_laws.specs.Same.{same}
use Rattle.refusals.specs.Refusals.{accepted, no_room, not_a_table}
use Rattle.device.specs.declared.Device.{Device}
use Rattle.packed_bench.specs.Packed.{packed_device, fields_of}
use Rattle.bench.specs.Bench.{live, empty_bench}
use Rattle.bench.specs.Records.{codes_fit, bench_of, made_of}
use Rattle.bench.specs.declared.Bench.{Bench}
use Rattle.packed_bench.specs.declared.table.Unpacked.{Unpacked}

-- 32 entries of 48 bytes
abbrev pub table_bytes : ℕ
table_bytes = 1536

-- ## Devices to bytes

abbrev pub entry_bytes : List Device → List ℕ
entry_bytes [] = replicate 48 0
entry_bytes (d ∷ ds) = packed_device d

unfoldable pub table_of : ℕ → List Device → List ℕ
table_of zero ds = []
table_of (suc n) ds = entry_bytes ds ++ table_of n (drop 1 ds)

-- ## Bytes to devices

-- d before the others, unless its code is 0: such an entry is in no use, and none after it
abbrev pub in_use : Device → List Device → List Device
in_use d ds = if eqb d.code 0 then [] else d ∷ ds

unfoldable pub devices_in : ℕ → List ℕ → List Device
devices_in zero t = []
devices_in (suc n) t = in_use (fields_of (take 48 t)) (devices_in n (drop 48 t))

-- ## What is accepted

abbrev pub holds : List ℕ → List Device → Bool
holds t ds = same (table_of 32 ds) (take table_bytes t) && codes_fit ds

abbrev pub is_table : List ℕ → Bool
is_table t = holds t (devices_in 32 t)

-- the records in bytes, none where they are too few for a table; and the bytes with these records in front
abbrev pub records_in : List ℕ → List Device
records_in t = if ltb (length t) table_bytes then [] else devices_in 32 t

abbrev pub written_over : List ℕ → List Device → List ℕ
written_over t ds = if ltb (length t) table_bytes then t else laid t 0 (table_of 32 ds)

-- ## The bench

abbrev pub not_unpacked : ℕ → Unpacked
not_unpacked n = record { refusal = n; bench = empty_bench }

abbrev pub held : Bench → Unpacked
held b = record { refusal = accepted; bench = b }

unfoldable pub unpacked : List ℕ → Unpacked
unpacked t =
    if ltb (length t) table_bytes then not_unpacked no_room
    else if is_table t then held (bench_of (devices_in 32 t))
    else not_unpacked not_a_table

abbrev pub pack_refusal : List ℕ → Bench → ℕ
pack_refusal t b = if ltb (length t) table_bytes then no_room else (made_of b.devices b.count).refusal

unfoldable pub packed_into : List ℕ → Bench → List ℕ
packed_into t b = if eqb (pack_refusal t b) accepted then laid t 0 (table_of 32 (live b)) else t
