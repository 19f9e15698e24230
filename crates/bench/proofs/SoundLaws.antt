-- The codes after each call, the place of a code, and that every call, refused or not, keeps a bench sound.
use Rattle.std.specs.Prelude.{ℕ, zero, suc, ◌+◌, ◌<◌, ◌≤◌, ◌≡◌, refl, ◌≢◌, Bool, true, List, [], ◌∷◌, ◌++◌, map, eqb, length, get_or}
use Rattle.std.proofs.Common.{ap, ◌∙◌, arith, eq-eqb, ne_eqb, lit≤, length-take}
use Rattle.std.proofs.lemmas.List.{length-map}
use Rattle.std.proofs.Math.Seq.{map-set_same}
use Rattle.basic_laws.specs.First.{first_with}
use Rattle.basic_laws.specs.Each.{Each, Distinct}
use Rattle.basic_laws.specs.EachLaws.{each_snoc, distinct_snoc}
use Rattle.rom.specs.Code.{sound}
use Rattle.temperature.specs.declared.Sixteenths.{Sixteenths}
use Rattle.device.specs.Finish.{conversion_done, copy_done}
use Rattle.device.specs.Hear.{hear_of}
use Rattle.device.proofs.Laws.{hear-code, power-up-fresh, joined-fresh, conversion-code, copy-only}
use Rattle.device.specs.Power.{reset_of, power_up, joined}
use Rattle.device.specs.Sound.{Sound}
use Rattle.device.proofs.SoundLaws.{joined-sound}
use Rattle.device.specs.declared.Device.{Device}
use Rattle.device.specs.declared.Joining.{Joining}
use Rattle.bench.specs.declared.Bench.{Bench}
use Rattle.bench.specs.declared.Place.TheVariants.{At, Nowhere}
use Rattle.bench.specs.Bench.{live, vacant, empty_bench, place_of}
use Rattle.bench.specs.Slot.{line_bit, heard, slotted, restarted, reset_done}
use Rattle.bench.specs.Calls.{added_to, conversion_finished, copy_finished, power_cycled}
use Rattle.bench.proofs.Everywhere.{sound-invariant, heard-each, restarted-each, conversion-each, copy-each}
use Rattle.bench.proofs.Everywhere.{cycle-each}
use Rattle.bench.proofs.Laws.{slot_cases, reset-cases, heard-live, heard-count, heard-places, restarted-live}
use Rattle.bench.specs.Laws.{Added}
use Rattle.bench.specs.Laws.{OneChanged}
use Rattle.bench.proofs.Laws.{restarted-count, restarted-places, added-cases, conversion-cases}
use Rattle.bench.proofs.Laws.{copy-cases, cycle-cases}
use Rattle.bench.specs.Sound.{codes_of, BenchSound}

-- ## Lists

codes-mapped : (f : Device → Device) → ((d : Device) → (f d).code ≡ d.code) → (l : List Device)
    → map (λ d. d.code) (map f l) ≡ map (λ d. d.code) l
codes-mapped f h [] = refl
codes-mapped f h (d ∷ l) = let i = codes-mapped f h l in rw (h d, i)

codes-snoc : (l : List Device) (d : Device)
    → map (λ e. e.code) (l ++ (d ∷ [])) ≡ map (λ e. e.code) l ++ (d.code ∷ [])
codes-snoc [] d = refl
codes-snoc (x ∷ l) d = let i = codes-snoc l d in rw i

pub codes-new : (l : List Device) (code : ℕ) → Each (λ d. d.code ≢ code) l
    → Each (λ c. c ≢ code) (map (λ d. d.code) l)
codes-new [] code e = tt
codes-new (d ∷ l) code e = (e.0, codes-new l code e.1)

-- ## The place of a code, where no two have the same

first-at : (k i : ℕ) (l : List Device) → Distinct (map (λ d. d.code) l) → i < length l
    → first_with (λ d. eqb d.code (get_or l i vacant).code) At Nowhere k l ≡ At (k + i)
unfolding first_with
first-at k i [] d h = absurd (omega arith)
first-at k zero (x ∷ l) d h = let e = eq-eqb x.code x.code refl in let z : k + 0 ≡ k = omega arith in rw (e, z)
first-at k (suc i) (x ∷ l) d h =
    let i' : i < length l = omega arith in
    let n = absent l i x.code i' d.0 in
    let e = ne_eqb x.code (get_or l i vacant).code n in
    let z : suc k + i ≡ k + suc i = omega arith in
    rw (e, ← z) (first-at (suc k) i l d.1 i')
  where
    absent : (l : List Device) (i c : ℕ) → i < length l → Each (λ y. c ≢ y) (map (λ d. d.code) l)
        → c ≢ (get_or l i vacant).code
    absent [] i c h e = absurd (omega arith)
    absent (y ∷ l) zero c h e = e.0
    absent (y ∷ l) (suc i) c h e = absent l i c (omega arith) e.1

pub place_is : (b : Bench) (i : ℕ) → Distinct (codes_of b) → i < length (live b)
    → place_of b (get_or (live b) i vacant).code ≡ At i
unfolding place_of
place_is b i d h = let z : 0 + i ≡ i = omega arith in rw z at (first-at 0 i (live b) d h)

-- ## The codes after each call

pub heard-codes : (b : Bench) (l : Bool) → codes_of (heard b l) ≡ codes_of b
heard-codes b l = rw (heard-live b l) (codes-mapped (λ d. hear_of d l) (λ d. hear-code d l) (live b))

pub restarted-codes : (b : Bench) → codes_of (restarted b) ≡ codes_of b
restarted-codes b = rw (restarted-live b) (codes-mapped reset_of (λ d. refl) (live b))

pub added-codes : (b : Bench) (new : Joining) (after : Bench) → Added b new after
    → codes_of after ≡ codes_of b ++ (new.code ∷ [])
added-codes b new after a = rw a.live-is (codes-snoc (live b) (joined new) ∙ rw (joined-fresh new).code_is)

pub one-changed-codes : (b : Bench) (code : ℕ) (f : Device → Device) → ((d : Device) → (f d).code ≡ d.code)
    → (after : Bench) → OneChanged b code f after
    → codes_of after ≡ codes_of b
one-changed-codes b code f h after o =
    rw o.live-is (map-set_same (λ d. d.code) (live b) o.place (f (get_or (live b) o.place vacant)) vacant (h _))

-- there are as many codes as devices
pub codes-count : (b : Bench) → length b.devices ≡ 32 → b.count ≤ 32 → length (codes_of b) ≡ b.count
codes-count b long few = length-map (live b) (λ d. d.code) ∙ (length-take b.count b.devices ∙ omega arith)

-- ## Every call keeps a bench sound

pub empty-sound : BenchSound empty_bench
empty-sound = record { places = refl; few = lit≤ tt; codes-sound = tt; codes-distinct = tt; devices-sound = tt }

pub heard-sound : (b : Bench) (l : Bool) → BenchSound b → BenchSound (heard b l)
heard-sound b l s = record {
  places = heard-places b l ∙ s.places;
  few = rw (heard-count b l) s.few;
  codes-sound = rw (heard-codes b l) s.codes-sound;
  codes-distinct = rw (heard-codes b l) s.codes-distinct;
  devices-sound = heard-each Sound sound-invariant b s.devices-sound l;
}

pub restarted-sound : (b : Bench) → BenchSound b → BenchSound (restarted b)
restarted-sound b s = record {
  places = restarted-places b ∙ s.places;
  few = rw (restarted-count b) s.few;
  codes-sound = rw (restarted-codes b) s.codes-sound;
  codes-distinct = rw (restarted-codes b) s.codes-distinct;
  devices-sound = restarted-each Sound sound-invariant b s.devices-sound;
}

pub slotted-sound : (b : Bench) (m : Bool) → BenchSound b → BenchSound (slotted b m).bench
slotted-sound b m s = slot_cases b m (λ r. BenchSound r.bench) (λ e. heard-sound b (line_bit b m) s) (λ e. s)

pub reset-done-sound : (b : Bench) → BenchSound b → BenchSound (reset_done b).bench
reset-done-sound b s = reset-cases b (λ r. BenchSound r.bench) (λ e. restarted-sound b s) (λ e. s)

pub added-sound : (b : Bench) (new : Joining) → BenchSound b → BenchSound (added_to b new).bench
added-sound b new s =
    added-cases b new (λ c. BenchSound c.bench) s.places (λ n r. s) (λ after a.
    record {
      places = a.places-are ∙ s.places;
      few = omega (arith, a.room, a.count-is);
      codes-sound = rw (added-codes b new after a)
          (each_snoc (λ c. sound c ≡ true) (codes_of b) new.code s.codes-sound a.code-sound);
      codes-distinct = rw (added-codes b new after a)
          (distinct_snoc (codes_of b) new.code s.codes-distinct (codes-new (live b) new.code a.code-new));
      devices-sound = rw a.live-is (each_snoc Sound (live b) (joined new) s.devices-sound (joined-sound new));
    })

-- a call that changes one device and no code
one-changed-sound : (b : Bench) (code : ℕ) (f : Device → Device) → ((d : Device) → (f d).code ≡ d.code)
    → (after : Bench) → OneChanged b code f after
    → Each Sound (live after) → BenchSound b → BenchSound after
one-changed-sound b code f same after o each s = record {
  places = o.places-are ∙ s.places;
  few = rw o.count-is s.few;
  codes-sound = rw (one-changed-codes b code f same after o) s.codes-sound;
  codes-distinct = rw (one-changed-codes b code f same after o) s.codes-distinct;
  devices-sound = each;
}

pub conversion-finished-sound : (b : Bench) (code : ℕ) (n : Sixteenths) → BenchSound b
    → BenchSound (conversion_finished b code n).bench
conversion-finished-sound b code n s =
    conversion-cases b code (λ c. Each Sound (live c.bench) → BenchSound c.bench) (λ r z e. s) n
    (λ range after o e. one-changed-sound b code (λ d. conversion_done d n) (λ d. conversion-code d n) after o e s)
    (conversion-each Sound sound-invariant b s.devices-sound code n)

pub copy-finished-sound : (b : Bench) (code : ℕ) → BenchSound b → BenchSound (copy_finished b code).bench
copy-finished-sound b code s =
    copy-cases b code (λ c. Each Sound (live c.bench) → BenchSound c.bench) (λ r z e. s)
    (λ latched after o held e. one-changed-sound b code (λ d. copy_done d latched)
    (λ d. ap (λ e. e.code) (copy-only d latched)) after o e s)
    (copy-each Sound sound-invariant b s.devices-sound code)

pub power-cycled-sound : (b : Bench) (code : ℕ) → BenchSound b → BenchSound (power_cycled b code).bench
power-cycled-sound b code s =
    cycle-cases b code (λ c. Each Sound (live c.bench) → BenchSound c.bench) (λ r z e. s)
    (λ after o e. one-changed-sound b code power_up (λ d. (power-up-fresh d).code_is) after o e s)
    (cycle-each Sound sound-invariant b s.devices-sound code)
