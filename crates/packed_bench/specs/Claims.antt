-- What holds of a bench in a table (request E12), as claims; `ClaimsLaws` proves them.
--     TableClaim     a bench packed unpacks to itself; accepted bytes pack back to themselves, and are those of
--                    records; 22 is for bytes that no records pack to; whatever bench is packed, its records are what
--                    unpacks, or it is refused, with 22 only where no table holds it, and the bytes stay
use Rattle.std.specs.Prelude.{ℕ, ◌<◌, ◌≤◌, List, ◌≡◌, length, get_or, take}
use Rattle.basic_laws.specs.Each.{Each}
use Rattle.refusals.specs.Refusals.{accepted, not_a_table}
use Rattle.packed_bench.specs.Types.{InTypes}
use Rattle.bench.specs.Bench.{live}
use Rattle.bench.specs.declared.Bench.{Bench}
use Rattle.bench.specs.Records.{bench_of}
use Rattle.packed_bench.specs.Table.{table_bytes, table_of, held, unpacked, pack_refusal, packed_into}
use Rattle.packed_bench.specs.Tabled.{Tabled}

-- the records of a bench: at most 32 with different sound codes, numbers of their types
pub record Records (b : Bench) : Type 0 where
  pub tabled : Tabled b
  pub typed : Each InTypes (live b)

pub record TableClaim : Type 0 where
  pub bench-back : (b : Bench) (t : List ℕ) → Records b → table_bytes ≤ length t → unpacked (packed_into t b) ≡ held b
  pub bytes_back : (t : List ℕ) → (unpacked t).refusal ≡ accepted → packed_into t (unpacked t).bench ≡ t
  pub of-records : (t : List ℕ) → ((i : ℕ) → get_or t i 0 < 256) → (unpacked t).refusal ≡ accepted
      → Records (unpacked t).bench
  pub packs : (b : Bench) (t : List ℕ) → Each InTypes (live b) → pack_refusal t b ≡ accepted
      → unpacked (packed_into t b) ≡ held (bench_of (live b))
  pub refuses : (b : Bench) (t : List ℕ) → (pack_refusal t b ≡ accepted → ⊥) → packed_into t b ≡ t
  pub no_other : (b : Bench) (t : List ℕ) → pack_refusal t b ≡ not_a_table → Tabled b → ⊥
  pub of_none : (t : List ℕ) → (unpacked t).refusal ≡ not_a_table → (b : Bench) → Records b
      → table_of 32 (live b) ≡ take table_bytes t → ⊥
