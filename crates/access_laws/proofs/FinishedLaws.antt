-- The fine reading after a finish: the finish stores the count bytes of its count (`after-fine`), and a read answers
-- the scratchpad of the device (`read-answered`), which stands where it stood.
use Rattle.std.specs.Prelude.{ℕ, ◌<◌, true, List, [], ◌∷◌, ◌++◌, ◌≡◌, refl, pos, ◌*ℤ◌, length, get_or}
use Rattle.std.proofs.Common.{sym, ◌∙◌, length-set, get_or-set_same}
use Rattle.std.proofs.Math.Path.{ap, subst}
use Rattle.basic_laws.specs.EachLaws.{each_at, each_snoc}
use Rattle.basic_laws.specs.Fold.{fold}
use Rattle.basic_laws.specs.FoldLaws.{fold-append}
use Rattle.refusals.specs.Refusals.{accepted}
use Rattle.family.specs.declared.Unit.TheVariants.{HalfDegrees as inHalfDegrees}
use Rattle.temperature.specs.Range.{in_range}
use Rattle.temperature.specs.declared.Reading.TheVariants.{InSixteenths}
use Rattle.temperature.specs.declared.Sixteenths.{Sixteenths}
use Rattle.scratchpad.specs.declared.fine.FineDegrees.{FineDegrees}
use Rattle.scratchpad.specs.Stored.{fine_in, scratchpad_after}
use Rattle.scratchpad.proofs.StoredLaws.{after-fine}
use Rattle.device.specs.Finish.{conversion_done}
use Rattle.device.specs.Record.{family_row, row_of}
use Rattle.device.specs.Sound.{Sound}
use Rattle.device.specs.declared.Device.{Device}
use Rattle.bench.specs.Bench.{live, vacant, place_of, free}
use Rattle.bench.specs.Calls.{device_at, conversion_finished}
use Rattle.bench.specs.declared.Bench.{Bench}
use Rattle.bench.specs.declared.Place.TheVariants.{At}
use Rattle.bench.specs.Laws.{OneChanged}
use Rattle.bench.proofs.Laws.{device-live, conversion-cases}
use Rattle.bench.specs.Sound.{BenchSound}
use Rattle.bench.proofs.SoundLaws.{place_is}
use Rattle.master_rules.specs.Access.{read_at}
use Rattle.history_laws.proofs.Corollaries.{bench-is-sound}
use Rattle.history_laws.specs.History.{Call, finish_conversion, Typed, apply, step, start, ledger, after}
use Rattle.access_laws.specs.Bytewise.{Readable, readable-after}
use Rattle.access_laws.proofs.ReadLaws.{read-answered}
use Rattle.access_laws.specs.Shown.{FineIsCount}

-- s sixteenths as a fine reading
abbrev the_count : Sixteenths → FineDegrees
the_count count = record { numerator = count.0 *ℤ pos 4; denominator = 64 }

-- what a finish stores is as it stands in the device
done-code : (d : Device) (count : Sixteenths) → (conversion_done d count).code ≡ d.code
unfolding conversion_done
done-code d count = refl

done-pad : (d : Device) (count : Sixteenths)
    → (conversion_done d count).scratchpad ≡ scratchpad_after (row_of d.code d.pins) count d.scratchpad
unfolding conversion_done
done-pad d count = refl

module _ (b : Bench) (code : ℕ) (count : Sixteenths) (s : BenchSound b) (unit : (family_row code).unit
    ≡ inHalfDegrees) (range : in_range (InSixteenths count) ≡ true)
    (finished : Bench) (o : OneChanged b code (λ d. conversion_done d count) finished) (r : Readable finished)
    (f : free finished ≡ true) where
  device : Device
  device = get_or (live b) o.place vacant

  stands : get_or (live finished) o.place vacant ≡ conversion_done device count
  unfolding device
  stands = rw o.live-is (get_or-set_same (live b) o.place (conversion_done device count) vacant o.within)

  within : o.place < length (live finished)
  within = rw (o.live-is, length-set) o.within

  at : place_of finished code ≡ At o.place
  unfolding device
  at =
      let c : (get_or (live finished) o.place vacant).code ≡ code =
      ap (λ d. d.code) stands ∙ done-code device count ∙ o.code-there in
      subst (λ (k : ℕ). place_of finished k ≡ At o.place) c
      (place_is finished o.place r.sound.codes-distinct within)

  pad : (device_at finished o.place).scratchpad
      ≡ scratchpad_after (row_of code device.pins) count device.scratchpad
  unfolding device
  pad =
      ap (λ d. d.scratchpad) (sym (device-live finished code o.place at) ∙ stands) ∙ done-pad device count
      ∙ ap (λ (k : ℕ). scratchpad_after (row_of k device.pins) count device.scratchpad) o.code-there

  eight : length device.scratchpad ≡ 8
  unfolding device
  eight = (each_at Sound (live b) o.place vacant o.within s.devices-sound).pad-sound.eight

  fine-there : (read_at finished code).fine ≡ the_count count
  unfolding device row_of
  fine-there =
      ap (λ a. a.fine) (read-answered finished r code o.place f at) ∙ ap (fine_in (family_row code)) pad
      ∙ after-fine (row_of code device.pins) count device.scratchpad range eight unit

fine-read : (b : Bench) (code : ℕ) (count : Sixteenths) → BenchSound b → (family_row code).unit ≡ inHalfDegrees
    → (conversion_finished b code count).refusal ≡ accepted
    → Readable (conversion_finished b code count).bench → free (conversion_finished b code count).bench ≡ true
    → (read_at (conversion_finished b code count).bench code).fine ≡ the_count count
fine-read b code count s unit =
    conversion-cases b code (λ c. c.refusal ≡ accepted → Readable c.bench → free c.bench ≡ true
    → (read_at c.bench code).fine ≡ the_count count)
    (λ n refused e r f. absurd (refused e))
    count (λ range finished o e r f. fine-there b code count s unit range finished o r f)

-- the bench after one call more
after_more : (h : List Call) (c : Call) → after (h ++ (c ∷ [])) ≡ apply (after h) c
unfolding ledger fold
after_more h c = ap (λ l. l.bench) (fold-append step start h (c ∷ []))

pub fine-is-count : FineIsCount
fine-is-count h code count t typed unit done f =
    let more = after_more h (finish_conversion code count) in
    let r = rw more at (readable-after (h ++ (finish_conversion code count ∷ []))
    (each_snoc Typed h (finish_conversion code count) t typed)) in
    rw more (fine-read (after h) code count (bench-is-sound h t) unit done r (rw more at f))
