-- A bench made of records that were kept elsewhere: at most 32, with different sound codes.
--     absent code ds         whether no device of ds has the code
--     codes_fit ds            whether each device has a sound code, and one that none after it has
--     bench_of ds             the bench of these devices; every other place is vacant
--     fits_bench ds n         whether the first n of a table may make a bench: at most 32, and their codes fit
--     made_of ds n            their bench, or 22 and the empty bench
use Rattle.std.specs.Prelude.{ℕ, ◌-◌, Bool, true, not, ◌&&◌, List, [], ◌∷◌, ◌++◌, eqb, leb, length, take, replicate}
use Rattle.std.specs.Prelude.{if◌then◌else◌}
use Rattle.basic_laws.specs.Fold.{all}
use Rattle.refusals.specs.Refusals.{accepted, not_a_table}
use Rattle.rom.specs.Code.{sound}
use Rattle.device.specs.declared.Device.{Device}
use Rattle.bench.specs.Bench.{vacant, empty_bench}
use Rattle.bench.specs.declared.Bench.{Bench}
use Rattle.bench.specs.declared.Made.{Made}

abbrev pub absent : ℕ → List Device → Bool
absent code ds = all (λ d. not (eqb d.code code)) ds

unfoldable pub codes_fit : List Device → Bool
codes_fit [] = true
codes_fit (d ∷ ds) = (sound d.code && absent d.code ds) && codes_fit ds

abbrev pub bench_of : List Device → Bench
bench_of ds = record { devices = ds ++ replicate (32 - length ds) vacant; count = length ds }

abbrev pub fits_bench : List Device → ℕ → Bool
fits_bench ds n = leb n 32 && codes_fit (take n ds)

abbrev pub made_of : List Device → ℕ → Made
made_of ds n =
    if fits_bench ds n then record { refusal = accepted; bench = bench_of (take n ds) }
    else record { refusal = not_a_table; bench = empty_bench }
