-- The claims of a bench in a table.
use Rattle.std.proofs.Common.{arith}
use Rattle.bench.specs.Bench.{live}
use Rattle.packed_bench.specs.TableLaws.{live-length, tabled-fits, unpack-pack, pack-unpack, unpacked-tabled}
use Rattle.packed_bench.specs.TableLaws.{unpacked-typed, packs-back, refused-stays, unheld-only, refused_none}
use Rattle.packed_bench.specs.Claims.{TableClaim}

pub table-claim : TableClaim
table-claim = record {
  bench-back = λ b t r long. unpack-pack b t r.tabled r.typed long;
  bytes_back = pack-unpack;
  of-records = λ t bytes ok. record { tabled = unpacked-tabled t ok; typed = unpacked-typed t bytes };
  packs = packs-back;
  refuses = refused-stays;
  no_other = unheld-only;
  of_none = λ t other b r is.
      let few = live-length b r.tabled in
      refused_none t other (live b) (omega (arith, r.tabled.few)) r.typed (tabled-fits b r.tabled) is;
}
