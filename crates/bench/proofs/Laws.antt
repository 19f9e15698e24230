-- What each call leaves of the devices on the wire (the scope, "One slot"): a slot and a reset go to every device
-- alike, adding puts the new one after the others, and a call that names a code changes the device with that code and
-- no other. A refused call changes nothing.
--     slot_cases, reset-cases, added-cases, conversion-cases, copy-cases, cycle-cases
--                                  what holds of a refusal and of what else a call does holds of the call
--     Added b new after            the new device stands after the others, which are as they were
--     OneChanged b code f after    the device with the code, and it alone, has become f of what it was
--     ..-refused                   a refused call changes nothing
--     place_found, place-nowhere   the place of a code is where a device has it; nowhere if none has
use Rattle.std.specs.Prelude.{ℕ, ◌+◌, ◌<◌, ◌≡◌, ◌≢◌, Bool, true, false, not, ◌&&◌, map, eqb, ltb, length, get_or, drop}
use Rattle.std.proofs.Math.Path.{refl}
use Rattle.std.proofs.Common.{ap, ◌∙◌, arith, add-one, eqb-true, ltb-true, ne_eqb, length-set, length-take, take-suc-set, drop-set-lt, get_or-take}
use Rattle.std.proofs.lemmas.Bool.{eqb-false}
use Rattle.std.proofs.Math.Seq.{take-set-lt}
use Rattle.std.specs.Prelude.{if◌then◌else◌}
use Rattle.basic_laws.specs.FirstLaws.{first-cases}
use Rattle.basic_laws.specs.Fold.{all}
use Rattle.basic_laws.specs.FrontLaws.{front-taken, front_length, front-dropped}
use Rattle.basic_laws.specs.Each.{Each}
use Rattle.basic_laws.specs.EachLaws.{each-implies}
use Rattle.refusals.specs.Refusals.{accepted, wire_busy, duplicate, bench_full, not_found, wrong_pins}
use Rattle.family.specs.Families.{pins_wrong}
use Rattle.rom.specs.Code.{code_refusal, sound}
use Rattle.temperature.specs.Range.{in_range}
use Rattle.temperature.specs.declared.Reading.TheVariants.{InSixteenths}
use Rattle.temperature.specs.declared.Sixteenths.{Sixteenths}
use Rattle.device.specs.Finish.{conversion_done, copy_done, not_ended}
use Rattle.device.proofs.Laws.{conversion-ended-cases, copy-ended-cases}
use Rattle.device.specs.Hear.{hear_of}
use Rattle.device.specs.Offer.{offer_of}
use Rattle.device.specs.Power.{reset_of, power_up, joined}
use Rattle.device.specs.declared.Activity.TheVariants.{Copying}
use Rattle.device.specs.declared.Device.{Device}
use Rattle.device.specs.declared.Joining.{Joining}
use Rattle.device.specs.declared.Settings.{Settings}
use Rattle.bench.specs.declared.Bench.{Bench}
use Rattle.bench.specs.declared.Changed.{Changed}
use Rattle.bench.specs.declared.Place.{Place}
use Rattle.bench.specs.declared.Place.TheVariants.{At, Nowhere}
use Rattle.bench.specs.declared.ResetDone.{ResetDone}
use Rattle.bench.specs.declared.Slotted.{Slotted}
use Rattle.device.specs.Record.{family_row, holds_wire}
use Rattle.bench.specs.Bench.{live, vacant, place_of, free}
use Rattle.bench.specs.Slot.{line_bit, heard, slotted, presence_of, restarted, reset_done}
use Rattle.bench.specs.Calls.{changed, refused, with_new, put_last, is_there, added_to, device_at, with_device, put_back}
use Rattle.bench.specs.Calls.{conversion_finished_at, conversion_finished, copy_finished_at, copy_finished}
use Rattle.bench.specs.Calls.{power_cycled_at, power_cycled}
use Rattle.bench.specs.Laws.{Added}
use Rattle.bench.specs.Laws.{OneChanged}

-- ## A slot and a reset

pub line-live : (b : Bench) (m : Bool) → line_bit b m ≡ (m && all offer_of (live b))
unfolding line_bit
line-live b m = refl

pub heard-live : (b : Bench) (l : Bool) → live (heard b l) ≡ map (λ d. hear_of d l) (live b)
unfolding heard
heard-live b l = front-taken (λ d. hear_of d l) b.count b.devices

pub heard-count : (b : Bench) (l : Bool) → (heard b l).count ≡ b.count
unfolding heard
heard-count b l = refl

pub heard-places : (b : Bench) (l : Bool) → length (heard b l).devices ≡ length b.devices
unfolding heard
heard-places b l = front_length (λ d. hear_of d l) b.count b.devices

-- the places behind the devices
pub heard-rest : (b : Bench) (l : Bool) → drop b.count (heard b l).devices ≡ drop b.count b.devices
unfolding heard
heard-rest b l = front-dropped (λ d. hear_of d l) b.count b.devices

pub restarted-live : (b : Bench) → live (restarted b) ≡ map reset_of (live b)
unfolding restarted
restarted-live b = front-taken reset_of b.count b.devices

pub restarted-count : (b : Bench) → (restarted b).count ≡ b.count
unfolding restarted
restarted-count b = refl

pub restarted-places : (b : Bench) → length (restarted b).devices ≡ length b.devices
unfolding restarted
restarted-places b = front_length reset_of b.count b.devices

pub restarted-rest : (b : Bench) → drop b.count (restarted b).devices ≡ drop b.count b.devices
unfolding restarted
restarted-rest b = front-dropped reset_of b.count b.devices

pub free-live : (b : Bench) → free b ≡ all (λ d. not (holds_wire d)) (live b)
unfolding free
free-live b = refl

-- both are refused with 10 exactly where the wire is held, and then nothing changes
pub slot_cases : (b : Bench) (m : Bool) (P : Slotted → Type 0)
    → (free b ≡ true → P (record { refusal = accepted; line = line_bit b m; bench = heard b (line_bit b m) }))
    → (free b ≡ false → P (record { refusal = wire_busy; line = false; bench = b })) → P (slotted b m)
unfolding slotted
slot_cases b m P taken held = by-test (free b) refl
  where
    by-test : (t : Bool) → free b ≡ t
        → P (if t then record { refusal = accepted; line = line_bit b m; bench = heard b (line_bit b m) }
        else record { refusal = wire_busy; line = false; bench = b })
    by-test true e = taken e
    by-test false e = held e

pub reset-cases : (b : Bench) (P : ResetDone → Type 0)
    → (free b ≡ true → P (record { refusal = accepted; presence = presence_of b; bench = restarted b }))
    → (free b ≡ false → P (record { refusal = wire_busy; presence = false; bench = b })) → P (reset_done b)
unfolding reset_done
reset-cases b P taken held = by-test (free b) refl
  where
    by-test : (t : Bool) → free b ≡ t
        → P (if t then record { refusal = accepted; presence = presence_of b; bench = restarted b }
        else record { refusal = wire_busy; presence = false; bench = b })
    by-test true e = taken e
    by-test false e = held e

pub slot-refused : (b : Bench) (m : Bool) → (slotted b m).refusal ≢ accepted → (slotted b m).bench ≡ b
slot-refused b m = slot_cases b m (λ r. r.refusal ≢ accepted → r.bench ≡ b) (λ f n. absurd (n refl)) (λ f n. refl)

pub reset-refused : (b : Bench) → (reset_done b).refusal ≢ accepted → (reset_done b).bench ≡ b
reset-refused b = reset-cases b (λ r. r.refusal ≢ accepted → r.bench ≡ b) (λ f n. absurd (n refl)) (λ f n. refl)

pub slot-accepted : (b : Bench) (m : Bool) → free b ≡ true
    → slotted b m ≡ record { refusal = accepted; line = line_bit b m; bench = heard b (line_bit b m) }
unfolding slotted
slot-accepted b m e = rw e

pub reset-accepted : (b : Bench) → free b ≡ true
    → reset_done b ≡ record { refusal = accepted; presence = presence_of b; bench = restarted b }
unfolding reset_done
reset-accepted b e = rw e

-- ## The place of a code

record Found (b : Bench) (code i : ℕ) : Type 0 where
  pub within : i < length (live b)
  pub code-there : (get_or (live b) i vacant).code ≡ code

found_at : (b : Bench) (code i : ℕ) → place_of b code ≡ At i → Found b code i
unfolding place_of
found_at b code i =
    first-cases (λ d. eqb d.code code) At Nowhere 0 (live b) (λ p. p ≡ At i → Found b code i)
    (λ j within passes same.
    let g : j ≡ i = let h : 0 + j ≡ i = cc in omega arith in
    record { within = omega arith; code-there = eqb-true _ code (rw g at (passes vacant)) })
    (λ none same. let z : ◌≡◌ {A = ℕ} 0 1 = cc in absurd (omega arith))

pub place-live : (b : Bench) (code i : ℕ) → place_of b code ≡ At i → i < length (live b)
place-live b code i e = (found_at b code i e).within

pub place_found : (b : Bench) (code i : ℕ) → place_of b code ≡ At i → (get_or (live b) i vacant).code ≡ code
place_found b code i e = (found_at b code i e).code-there

pub place-nowhere : (b : Bench) (code : ℕ) → place_of b code ≡ Nowhere → Each (λ d. d.code ≢ code) (live b)
unfolding place_of
place-nowhere b code =
    first-cases (λ d. eqb d.code code) At Nowhere 0 (live b) (λ p. p ≡ Nowhere → Each (λ d. d.code ≢ code) (live b))
    (λ j within passes same. let z : ◌≡◌ {A = ℕ} 0 1 = cc in absurd (omega arith))
    (λ none same. each-implies (λ d. eqb-false d.code code) (live b) none)

-- what holds of every refusal and of every adding holds of the call
pub added-cases : (b : Bench) (new : Joining) (P : Changed → Type 0) → length b.devices ≡ 32
    → ((n : ℕ) → n ≢ accepted → P (refused n b))
    → ((after : Bench) → Added b new after → P (changed after)) → P (added_to b new)
unfolding added_to
added-cases b new P long refusal adding = by_code (eqb (code_refusal new.code) accepted) refl
  where
    by-pins : (t : Bool) → pins_wrong (family_row new.code) new.pins ≡ t → b.count < 32 → sound new.code ≡ true
        → place_of b new.code ≡ Nowhere
        → P (if t then refused wrong_pins b else changed (with_new b (joined new)))
    by-pins true r h s n = refusal wrong_pins (λ e. omega arith)
    by-pins false r h s n =
        let k : b.count < length b.devices = omega arith in
        adding (with_new b (joined new)) (record {
          code-sound = s;
          code-new = place-nowhere b new.code n;
          room = h;
          pins-right = r;
          live-is = rw add-one (take-suc-set b.devices b.count (joined new) k);
          count-is = refl;
          places-are = length-set b.devices b.count (joined new);
          rest-is = drop-set-lt (b.count + 1) b.devices b.count (joined new) (omega arith);
        })

    by-room : (t : Bool) → ltb b.count 32 ≡ t → sound new.code ≡ true → place_of b new.code ≡ Nowhere
        → P (if not t then refused bench_full b else if pins_wrong (family_row new.code) new.pins
        then refused wrong_pins b else changed (with_new b (joined new)))
    by-room true r s n = by-pins (pins_wrong (family_row new.code) new.pins) refl (ltb-true b.count 32 r) s n
    by-room false r s n = refusal bench_full (λ e. omega arith)

    by_place : (p : Place) → place_of b new.code ≡ p → sound new.code ≡ true
        → P (if is_there p then refused duplicate b else put_last b new)
    by_place (At i) e s = refusal duplicate (λ e. omega arith)
    by_place Nowhere e s = by-room (ltb b.count 32) refl s e

    by_code : (t : Bool) → sound new.code ≡ t
        → P (if not t then refused (code_refusal new.code) b else if is_there (place_of b new.code)
        then refused duplicate b else put_last b new)
    by_code true s = by_place (place_of b new.code) refl s
    by_code false s = refusal (code_refusal new.code) (eqb-false (code_refusal new.code) accepted s)

pub added-refused : (b : Bench) (new : Joining) → length b.devices ≡ 32 → (added_to b new).refusal ≢ accepted
    → (added_to b new).bench ≡ b
added-refused b new long = added-cases b new (λ c. c.refusal ≢ accepted
    → c.bench ≡ b) long (λ n r e. refl) (λ after a e. absurd (e refl))

-- ## One device

module _ (b : Bench) (code i : ℕ) (e : place_of b code ≡ At i) where
  at_count : i < b.count
  at_count = let h = place-live b code i e in let k = length-take b.count b.devices in omega arith

  pub device-live : get_or (live b) i vacant ≡ device_at b i
  device-live = get_or-take b.count b.devices i vacant at_count

  one-changed : (f : Device → Device) → OneChanged b code f (with_device b i (f (device_at b i)))
  one-changed f = record {
    place = i;
    place_is = e;
    device-is = device-live;
    within = place-live b code i e;
    code-there = place_found b code i e;
    live-is = rw device-live (take-set-lt b.count b.devices i (f (device_at b i)) at_count);
    count-is = refl;
    places-are = length-set b.devices i (f (device_at b i));
    rest-is = drop-set-lt b.count b.devices i (f (device_at b i)) at_count;
  }

module _ (b : Bench) (code : ℕ) (P : Changed → Type 0) (refusal : (n : ℕ) → n ≢ accepted → P (refused n b)) where
  put_refused : (i n : ℕ) → n ≢ accepted → P (put_back b i (not_ended n (device_at b i)))
  put_refused i n h = rw (ne_eqb n accepted h) (refusal n h)

  -- the end of a conversion: only of a device that converts, with a count in range
  pub conversion-cases : (n : Sixteenths) → (in_range (InSixteenths n) ≡ true → (after : Bench)
      → OneChanged b code (λ d. conversion_done d n) after → P (changed after))
      → P (conversion_finished b code n)
  unfolding conversion_finished
  conversion-cases n done = by_place (place_of b code) refl
    where
      by_place : (p : Place) → place_of b code ≡ p → P (conversion_finished_at b n p)
      by_place (At i) e =
          conversion-ended-cases (device_at b i) n (λ x. P (put_back b i x)) (put_refused i)
          (λ range. done range (with_device b i (conversion_done (device_at b i) n))
          (one-changed b code i e (λ d. conversion_done d n)))
      by_place Nowhere e = refusal not_found (λ z. omega arith)

  -- the end of a copy: of the settings that the device holds for it
  pub copy-cases : ((s : Settings) (after : Bench) → (o : OneChanged b code (λ d. copy_done d s) after)
      → (get_or (live b) o.place vacant).activity ≡ Copying s → P (changed after))
      → P (copy_finished b code)
  unfolding copy_finished one-changed
  copy-cases done = by_place (place_of b code) refl
    where
      by_place : (p : Place) → place_of b code ≡ p → P (copy_finished_at b p)
      by_place (At i) e =
          copy-ended-cases (device_at b i) (λ x. P (put_back b i x)) (put_refused i) (λ s f.
          done s (with_device b i (copy_done (device_at b i) s)) (one-changed b code i e (λ d. copy_done d s))
          (ap (λ d. d.activity) (device-live b code i e) ∙ f))
      by_place Nowhere e = refusal not_found (λ z. omega arith)

  pub cycle-cases : ((after : Bench) → OneChanged b code power_up after → P (changed after)) → P (power_cycled b code)
  unfolding power_cycled
  cycle-cases done = by_place (place_of b code) refl
    where
      by_place : (p : Place) → place_of b code ≡ p → P (power_cycled_at b p)
      by_place (At i) e = done (with_device b i (power_up (device_at b i))) (one-changed b code i e power_up)
      by_place Nowhere e = refusal not_found (λ z. omega arith)

module _ (b : Bench) (code : ℕ) where
  pub conversion-refused : (n : Sixteenths) → (conversion_finished b code n).refusal ≢ accepted
      → (conversion_finished b code n).bench ≡ b
  conversion-refused n = conversion-cases b code (λ c. c.refusal ≢ accepted
      → c.bench ≡ b) (λ r z e. refl) n (λ range after o e. absurd (e refl))

  pub copy-refused : (copy_finished b code).refusal ≢ accepted → (copy_finished b code).bench ≡ b
  copy-refused = copy-cases b code (λ c. c.refusal ≢ accepted
      → c.bench ≡ b) (λ r z e. refl) (λ s after o held e. absurd (e refl))

  pub cycle-refused : (power_cycled b code).refusal ≢ accepted → (power_cycled b code).bench ≡ b
  cycle-refused = cycle-cases b code (λ c. c.refusal ≢ accepted
      → c.bench ≡ b) (λ r z e. refl) (λ after o e. absurd (e refl))
