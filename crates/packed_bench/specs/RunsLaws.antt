-- The claim of every run, by the law of one call. What a table needs of a bench, and of the numbers of its records, no
-- call takes from it.
--     whole-invariant    nothing that can happen to a device takes from it that its numbers are of their types
--     kept_step          each call leaves a bench that a table can hold, with numbers of their types
--     runs-claim
use Rattle.std.specs.Prelude.{ℕ, ◌^◌, ◌<◌, true, List, [], ◌∷◌, ◌≡◌, refl, get_or, replicate}
use Rattle.std.proofs.Common.{ap, ◌∙◌, arith, eq-eqb, lit≤}
use Rattle.basic_laws.specs.Complement.{Fits16}
use Rattle.basic_laws.specs.Each.{Each}
use Rattle.basic_laws.specs.EachLaws.{each_snoc}
use Rattle.basic_laws.specs.Same.{same}
use Rattle.refusals.specs.Refusals.{accepted}
use Rattle.family.specs.Layout.{configuration_place}
use Rattle.temperature.proofs.MeasuredLaws.{measured-fits}
use Rattle.temperature.specs.Range.{in_range}
use Rattle.temperature.specs.RangeLaws.{between-size}
use Rattle.temperature.specs.Register.{count_of}
use Rattle.temperature.specs.declared.Reading.TheVariants.{InSixteenths}
use Rattle.temperature.specs.declared.Sixteenths.{Sixteenths}
use Rattle.scratchpad.specs.Stored.{stored_reading}
use Rattle.device.specs.Finish.{conversion_done}
use Rattle.device.proofs.Laws.{hear-code, hear-page, power-up-fresh, joined-fresh, conversion-code, copy-only}
use Rattle.device.specs.Power.{joined}
use Rattle.device.specs.Record.{row_of}
use Rattle.device.specs.Sound.{Sound}
use Rattle.device.proofs.SoundLaws.{joined-sound, reset-sound, hear-sound, power-up-sound, conversion-sound, copy-sound}
use Rattle.device.specs.declared.Device.{Device}
use Rattle.device.specs.declared.Joining.{Joining}
use Rattle.bench.specs.Bench.{live, empty_bench}
use Rattle.bench.specs.Everywhere.{Invariant}
use Rattle.bench.proofs.Everywhere.{heard-each, restarted-each, conversion-each, copy-each, cycle-each}
use Rattle.bench.proofs.Laws.{slot_cases, reset-cases, added-cases}
use Rattle.bench.specs.Records.{codes_fit}
use Rattle.bench.specs.Slot.{line_bit}
use Rattle.bench.specs.declared.Bench.{Bench}
use Rattle.packed_bench.specs.Bytes.{code_from_bytes}
use Rattle.packed_bench.specs.Packed.{fields_of}
use Rattle.packed_bench.specs.Types.{InTypes}
use Rattle.packed_bench.specs.Table.{table_bytes, table_of, devices_in, held, unpacked, packed_into}
use Rattle.packed_bench.specs.TableLaws.{unpack-pack}
use Rattle.packed_bench.specs.Tabled.{Tabled}
use Rattle.packed_bench.specs.ThroughLaws.{accepted-long, slot-keeps, reset-keeps, added-keeps, conversion-keeps}
use Rattle.packed_bench.specs.ThroughLaws.{copy-keeps, cycle-keeps}
use Rattle.packed_bench.specs.declared.table.Unpacked.{Unpacked}
use Rattle.packed_bench.specs.Runs.{TableCall, add, reset, slot, finish_conversion, finish_copy, power_cycle}
use Rattle.packed_bench.specs.Runs.{CodeTyped, bench_left, bench_says, table_left, table_says, bench_after}
use Rattle.packed_bench.specs.Runs.{bench_answers, table_after, table_answers, RunsClaim}

-- ## The numbers of a device

-- a sound device whose numbers are of their types
record Whole (d : Device) : Type 0 where
  pub sound : Sound d
  pub code_fits : d.code < 2 ^ 64
  pub reading-fits : Fits16 (count_of d.page.reading)

range-fits : (z : Sixteenths) → in_range (InSixteenths z) ≡ true → Fits16 z.0
range-fits z h = let most = between-size 879 2000 2000 z.0 (lit≤ tt) (lit≤ tt) h in record { sfits = omega arith }

conversion-fits : (d : Device) (n : Sixteenths) → Fits16 n.0 → Fits16 (count_of (conversion_done d n).page.reading)
unfolding conversion_done stored_reading
conversion-fits d n f = measured-fits (row_of d.code d.pins).unit n (get_or d.scratchpad configuration_place 0) f

whole-invariant : Invariant Whole
whole-invariant = record {
  by-slot = λ d l w. record {
    sound = hear-sound d l w.sound;
    code_fits = rw (hear-code d l) w.code_fits;
    reading-fits = rw (hear-page d l) w.reading-fits;
  };
  by-reset = λ d w. record {
    sound = reset-sound d
        w.sound;
    code_fits = w.code_fits;
    reading-fits = w.reading-fits;
  };
  by-power = λ d w. record {
    sound = power-up-sound d w.sound;
    code_fits = rw (power-up-fresh d).code_is w.code_fits;
    reading-fits = rw (power-up-fresh d).page-empty record { sfits = omega arith };
  };
  by-conversion = λ d n range w. record {
    sound = conversion-sound d n range w.sound;
    code_fits = rw (conversion-code d n) w.code_fits;
    reading-fits = conversion-fits d n (range-fits n range);
  };
  by_copy = λ d s copies w. record {
    sound = copy-sound d s copies w.sound;
    code_fits = rw (copy-only d s) w.code_fits;
    reading-fits = rw (copy-only d s) w.reading-fits;
  };
}

joined-whole : (new : Joining) → new.code < 2 ^ 64 → Whole (joined new)
joined-whole new h = record {
  sound = joined-sound new;
  code_fits = rw (joined-fresh new).code_is h;
  reading-fits = rw (joined-fresh new).page-empty record { sfits = omega arith };
}

whole_typed : (d : Device) → Whole d → InTypes d
whole_typed d w = record {
  code_fits = w.code_fits;
  pad-length = w.sound.pad-sound.eight;
  reading-fits = w.reading-fits;
}

each_typed : (ds : List Device) → Each Whole ds → Each InTypes ds
each_typed [] e = tt
each_typed (d ∷ ds) e = (whole_typed d e.0, each_typed ds e.1)

-- ## One call

record Kept (b : Bench) : Type 0 where
  pub tabled : Tabled b
  pub whole : Each Whole (live b)

kept_step : (c : TableCall) (b : Bench) → CodeTyped c → Kept b → Kept (bench_left c b)
kept_step (add new) b typed k = record {
  tabled = added-keeps new b k.tabled;
  whole = added-cases b new (λ r. Each Whole (live r.bench)) k.tabled.places (λ n r. k.whole)
      (λ after a. rw a.live-is (each_snoc Whole (live b) (joined new) k.whole (joined-whole new typed)));
}
kept_step reset b typed k = record {
  tabled = reset-keeps b k.tabled;
  whole = reset-cases b (λ r. Each Whole (live r.bench)) (λ e. restarted-each Whole whole-invariant b k.whole)
      (λ e. k.whole);
}
kept_step (slot m) b typed k = record {
  tabled = slot-keeps m b k.tabled;
  whole = slot_cases b m (λ r. Each Whole (live r.bench))
      (λ e. heard-each Whole whole-invariant b k.whole (line_bit b m)) (λ e. k.whole);
}
kept_step (finish_conversion code n) b typed k = record {
  tabled = conversion-keeps code n b k.tabled;
  whole = conversion-each Whole whole-invariant b k.whole code n;
}
kept_step (finish_copy code) b typed k = record {
  tabled = copy-keeps code b k.tabled;
  whole = copy-each Whole whole-invariant b k.whole code;
}
kept_step (power_cycle code) b typed k = record {
  tabled = cycle-keeps code b k.tabled;
  whole = cycle-each Whole whole-invariant b k.whole code;
}

module _ (c : TableCall) (t : List ℕ) (b : Bench) (holds : unpacked t ≡ held b) where
  there : (unpacked t).refusal ≡ accepted
  there = ap (λ (u : Unpacked). u.refusal) holds

  left_step : CodeTyped c → Kept b → unpacked (table_left c t) ≡ held (bench_left c b)
  left_step typed k =
      let next = kept_step c b typed k in
      let packs : table_left c t ≡ packed_into t (bench_left c b) =
      rw (eq-eqb (unpacked t).refusal accepted there)
      (ap (λ (u : Unpacked). packed_into t (bench_left c u.bench)) holds) in
      ap unpacked packs ∙ unpack-pack (bench_left c b) t next.tabled (each_typed (live (bench_left c b)) next.whole)
      (accepted-long t there)

says-step : (c : TableCall) (t : List ℕ) (b : Bench) → unpacked t ≡ held b → table_says c t ≡ bench_says c b
says-step (add new) t b holds = rw holds
says-step reset t b holds = rw holds
says-step (slot m) t b holds = rw holds
says-step (finish_conversion code n) t b holds = rw holds
says-step (finish_copy code) t b holds = rw holds
says-step (power_cycle code) t b holds = rw holds

-- ## Every run

run-left : (h : List TableCall) → Each CodeTyped h → (t : List ℕ) (b : Bench) → unpacked t ≡ held b → Kept b
    → unpacked (table_after h t) ≡ held (bench_after h b)
unfolding table_after bench_after
run-left [] typed t b holds k = holds
run-left (c ∷ h) typed t b holds k =
    run-left h typed.1 (table_left c t) (bench_left c b) (left_step c t b holds typed.0 k)
    (kept_step c b typed.0 k)

run-says : (h : List TableCall) → Each CodeTyped h → (t : List ℕ) (b : Bench) → unpacked t ≡ held b → Kept b
    → table_answers h t ≡ bench_answers h b
unfolding table_answers bench_answers
run-says [] typed t b holds k = refl
run-says (c ∷ h) typed t b holds k =
    rw (
      says-step c t b holds,
      run-says h typed.1 (table_left c t) (bench_left c b)
          (left_step c t b holds typed.0 k) (kept_step c b typed.0 k),
    )

pub empty-tabled : Tabled empty_bench
empty-tabled = record { places = refl; few = lit≤ tt; codes-sound = tt; codes-distinct = tt; rest-vacant = refl }

pub zeros-empty : unpacked (replicate table_bytes 0) ≡ held empty_bench
unfolding unpacked devices_in fields_of code_from_bytes table_of same codes_fit
zeros-empty = refl

pub runs-claim : RunsClaim
runs-claim = record {
  zeros = zeros-empty;
  left = λ h typed t holds. run-left h typed t empty_bench holds (record { tabled = empty-tabled; whole = tt });
  says = λ h typed t holds. run-says h typed t empty_bench holds (record { tabled = empty-tabled; whole = tt });
}
