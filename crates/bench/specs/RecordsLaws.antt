-- How records are judged, device by device, and how a bench is made of them.
--     codes-unsound, codes-twice, codes-onward, codes-end     the codes, one after another
--     over-none, over-more                                    the first records in the places of another table
--     made-many, made-unfit, made-done                        the ends of making a bench
use Rattle.std.specs.Prelude.{ℕ, zero, suc, ◌+◌, ◌<◌, ◌≤◌, ◌≡◌, refl, true, false, List, [], ◌∷◌, ◌++◌, leb, length, get_or, set, take, drop, replicate}
use Rattle.std.proofs.Common.{ap, arith, le-leb, drop_of_length-le, drop-cons, length-take-le}
use Rattle.std.proofs.Math.Bool.{and-false}
use Rattle.std.proofs.Math.Numerals.{add-one}
use Rattle.std.proofs.lemmas.Bool.{lt-leb}
use Rattle.basic_laws.specs.Places.{drop-replicate}
use Rattle.refusals.specs.Refusals.{accepted, not_a_table}
use Rattle.rom.specs.Code.{sound}
use Rattle.device.specs.declared.Device.{Device}
use Rattle.bench.specs.Bench.{vacant, empty_bench}
use Rattle.bench.specs.Records.{absent, codes_fit, made_of}
use Rattle.bench.specs.declared.Made.{Made}

-- ## The codes, device by device

module _ (ds : List Device) (i : ℕ) (z : Device) (h : i < length ds) where
  pub codes-unsound : sound (get_or ds i z).code ≡ false → codes_fit (drop i ds) ≡ false
  unfolding codes_fit
  codes-unsound e = rw (drop-cons ds i z h, e)

  pub codes-twice : sound (get_or ds i z).code ≡ true → absent (get_or ds i z).code (drop (i + 1) ds) ≡ false
      → codes_fit (drop i ds) ≡ false
  unfolding codes_fit
  codes-twice e n = let n' = rw (add-one i) at n in rw (drop-cons ds i z h, e, n')

  pub codes-onward : sound (get_or ds i z).code ≡ true → absent (get_or ds i z).code (drop (i + 1) ds) ≡ true
      → codes_fit (drop i ds) ≡ codes_fit (drop (i + 1) ds)
  unfolding codes_fit
  codes-onward e n = let n' = rw (add-one i) at n in rw (drop-cons ds i z h, e, n', add-one i)

pub codes-end : (ds : List Device) (i : ℕ) → length ds ≤ i → codes_fit (drop i ds) ≡ true
unfolding codes_fit
codes-end ds i h = rw (drop_of_length-le ds h)

-- ## The first of one table in the places of another

over-suc : {A : Type 0} (ds places : List A) (i : ℕ) (z : A) → i < length ds → i < length places
    → set (take i ds ++ drop i places) i (get_or ds i z) ≡ take (suc i) ds ++ drop (suc i) places
over-suc [] places i z h k = absurd (omega arith)
over-suc (d ∷ ds) [] i z h k = absurd (omega arith)
over-suc (d ∷ ds) (p ∷ places) zero z h k = refl
over-suc {A} (d ∷ ds) (p ∷ places) (suc i) z h k =
    ap (λ (l : List A). d ∷ l) (over-suc ds places i z (omega arith) (omega arith))

pub over-more : {A : Type 0} (ds places : List A) (i : ℕ) (z : A) → i < length ds → i < length places
    → set (take i ds ++ drop i places) i (get_or ds i z) ≡ take (i + 1) ds ++ drop (i + 1) places
over-more ds places i z h k = rw (add-one i) (over-suc ds places i z h k)

-- ## The ends of making a bench

abbrev not_made : Made
not_made = record { refusal = not_a_table; bench = empty_bench }

module _ (ds : List Device) (n : ℕ) where
  pub made-many : 32 < n → not_made ≡ made_of ds n
  made-many h = rw (lt-leb n 32 h)

  pub made-unfit : codes_fit (take n ds) ≡ false → not_made ≡ made_of ds n
  made-unfit e = rw (e, and-false (leb n 32))

  pub made-done : length ds ≡ 32 → n ≤ 32 → codes_fit (take n ds) ≡ true
      → record {
        refusal = accepted;
        bench = record {
          devices = take n ds ++ drop n
              (replicate 32 vacant);
          count = n;
        };
      } ≡ made_of ds n
  made-done long h e =
      let size = length-take-le n ds (omega arith) in
      rw (le-leb n 32 h, e, size, drop-replicate n 32 vacant)
