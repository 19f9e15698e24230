-- The answers of reads. A bench that calls reach is sound, and its devices hold bytes (`Readable`): so a read at the
-- code of a device shows its scratchpad with a right CRC, not all zeros, a configuration in stored form, a reading in
-- range and counts to believe, which the judgement accepts; and a read at any other code shows ones, which it refuses
-- with 5.
use Rattle.std.specs.Prelude.{ℕ, ◌<◌, Bool, true, false, not, ◌||◌, List, [], ◌∷◌, ◌≢◌, ◌≡◌, refl, eqb, length, get_or, replicate}
use Rattle.std.proofs.lemmas.Bool.{false≢true}
use Rattle.std.proofs.Common.{sym, ap, ◌∙◌, arith, eqb-true, eq-eqb, lt-ltb, lit<, length-take, take_at}
use Rattle.std.specs.Prelude.{if◌then◌else◌}
use Rattle.basic_laws.specs.EachLaws.{each_at}
use Rattle.basic_laws.specs.Fold.{fold, all}
use Rattle.basic_laws.specs.FoldLaws.{all-at}
use Rattle.basic_laws.specs.Bits.{bits_of, bytes_bits}
use Rattle.commands.specs.Commands.{read_scratchpad}
use Rattle.refusals.specs.Refusals.{accepted, wrong_crc, wrong_kind}
use Rattle.family.specs.ConfigurationLaws.{kept-in-form}
use Rattle.family.specs.Families.{properties_of, with_pins}
use Rattle.family.specs.FamiliesLaws.{every-row}
use Rattle.family.specs.declared.Properties.{Properties}
use Rattle.crc.specs.Crc.{crc_bits, crc_of}
use Rattle.rom.specs.Code.{family_of, crc_byte_of, code_refusal, sound}
use Rattle.scratchpad.specs.Judgement.{crc_right, all_zeros, judged}
use Rattle.scratchpad.specs.Stored.{reading_in, fine_in}
use Rattle.scratchpad.proofs.StoredLaws.{raw-range}
use Rattle.device.specs.Offer.{nine_bytes}
use Rattle.device.specs.OfferLaws.{nine-length, nine-byte, nine-crc}
use Rattle.device.specs.Record.{row_of}
use Rattle.device.specs.Sound.{PadSound, Sound}
use Rattle.bench.specs.Bench.{live, vacant, place_of, free}
use Rattle.bench.specs.Calls.{device_at}
use Rattle.bench.specs.Slot.{presence_of, restarted}
use Rattle.bench.specs.declared.Bench.{Bench}
use Rattle.bench.specs.declared.Place.TheVariants.{At}
use Rattle.bench.proofs.Laws.{reset-accepted, place-live, place_found, device-live}
use Rattle.master_rules.specs.Access.{addressed, after_slots, judged_reply, fetched, read_back, admission, read_at}
use Rattle.master_rules.specs.Issued.{issued}
use Rattle.history_laws.specs.History.{after}
use Rattle.access_laws.specs.Unrefused.{read_bits}
use Rattle.access_laws.specs.Laws.{admitted-free, read-unrefused}
use Rattle.access_laws.specs.Shown.{answered_with, shown_at, AbsentRefused, ReadAnswer, ReadPromise}
use Rattle.access_laws.specs.ShownLaws.{code_at, shows-scratchpad, shows-ones}
use Rattle.access_laws.specs.Bytewise.{Bytewise, Readable, readable-after}

-- ## A read that is admitted, where somebody shows presence

read-judged : (b : Bench) (code : ℕ) → admission b code ≡ accepted → presence_of b ≡ true
    → read_at b code ≡ judged_reply (shown_at b code) (after_slots 72 (addressed code read_scratchpad (restarted b)))
    (judged (family_of code) (shown_at b code))
unfolding read_at read_back fetched
read-judged b code h there = rw (h, reset-accepted b (admitted-free b code h), there)

ones-judged : (family : ℕ) → (judged family (replicate 9 255)).refusal ≡ wrong_crc
unfolding judged crc_of crc_bits fold bytes_bits bits_of
ones-judged family = refl

pub absent-refused : AbsentRefused
absent-refused b code fits fit h there nowhere =
    ap (λ r. r.refusal) (read-judged b code h there)
    ∙ ap (λ (nine : List ℕ). (judged_reply nine (after_slots 72 (addressed code read_scratchpad (restarted b)))
    (judged (family_of code) nine)).refusal)
    (shows-ones b code fits fit (admitted-free b code h) nowhere)
    ∙ rw (ones-judged (family_of code))

-- ## The judgement of a scratchpad and its CRC

module _ (row : Properties) (pad : List ℕ) (s : PadSound row pad) where
  nine-at : (k : ℕ) → k < 8 → get_or (nine_bytes pad) k 0 ≡ get_or pad k 0
  nine-at k h = nine-byte pad k s.eight h

  nine-crc-right : crc_right (nine_bytes pad) ≡ true
  nine-crc-right =
      rw (nine-crc pad 8 s.eight refl, take_at pad (crc_of pad ∷ []) 8 s.eight)
      (eq-eqb (crc_of pad) (crc_of pad) refl)

  nine-not-zero : get_or pad 7 0 ≢ 0 → all_zeros (nine_bytes pad) ≡ false
  nine-not-zero n = by-test (all_zeros (nine_bytes pad)) refl
    where
      by-test : (t : Bool) → all_zeros (nine_bytes pad) ≡ t → t ≡ false
      by-test true e =
          let l : 7 < length (nine_bytes pad) = rw (nine-length pad s.eight) (lit< tt) in
          absurd (n (sym (nine-at 7 (lit< tt)) ∙ eqb-true _ 0 (all-at (λ b. eqb b 0) (nine_bytes pad) 0 7 l e)))
      by-test false e = refl

nine-judged : (family pins : ℕ) (pad : List ℕ) → (properties_of family).known ≡ true
    → PadSound (with_pins (properties_of family) pins) pad → get_or pad 7 0 ≢ 0
    → judged family (nine_bytes pad) ≡ record {
      refusal = accepted;
      reading = reading_in (properties_of family) pad;
      fine = fine_in (properties_of family) pad;
    }
unfolding judged
nine-judged family pins pad known s n =
    let row = properties_of family in
    let own = with_pins row pins in
    let at : (k : ℕ) → k < 8 → get_or (nine_bytes pad) k 0 ≡ get_or pad k 0 = nine-at own pad s in
    rw (
      nine-crc-right own pad s,
      nine-not-zero own pad s n,
      known,
      at 0 (lit< tt),
      at 1 (lit< tt),
      at 4 (lit< tt),
      at 6 (lit< tt),
      at 7 (lit< tt),
      kept-in-form row pins (get_or pad 4 0) s.as-kept,
      raw-range row pad s.in-range,
      s.counts-believed,
    )

-- ## A device of a readable bench

sound-known : (code : ℕ) → code_refusal code ≡ accepted → (properties_of (family_of code)).known ≡ true
unfolding code_refusal
sound-known code = by_tests (eqb (crc_byte_of code) (crc_bits 0 (bits_of 56 code))) (properties_of (family_of code)).known
  where
    by_tests : (t u : Bool) → (if not t then wrong_crc else if not u then wrong_kind else accepted) ≡ accepted → u ≡ true
    by_tests true true e = refl
    by_tests true false e = absurd (omega arith)
    by_tests false u e = absurd (omega arith)

-- byte 7 at power-up, of every family that is one of ours
seventh-set : (family : ℕ) → (properties_of family).known ≡ true → get_or (properties_of family).initial 7 0 ≢ 0
unfolding all
seventh-set family known e =
    let test : (not (properties_of family).known || not (eqb (get_or (properties_of family).initial 7 0) 0)) ≡ true
    = every-row (λ row. not row.known || not (eqb (get_or row.initial 7 0) 0)) refl family in
    false≢true (rw (known, e) at test)

module _ (b : Bench) (r : Readable b) (code i : ℕ) (f : free b ≡ true) (at : place_of b code ≡ At i) where
  place-lt : i < length (live b)
  place-lt = place-live b code i at

  pub has : (device_at b i).code ≡ code
  has = rw (device-live b code i at) at (place_found b code i at)

  code-sound : code_refusal code ≡ accepted
  code-sound =
      eqb-true (code_refusal code) accepted
      (rw (place_found b code i at) at (code_at (λ c. sound c ≡ true) (live b) i place-lt r.sound.codes-sound))

  pub admitted : admission b code ≡ accepted
  unfolding admission
  admitted = rw (code-sound, f)

  pub present : presence_of b ≡ true
  present = let l = place-lt in let k = length-take b.count b.devices in lt-ltb 0 b.count (omega arith)

  pub pad-sound : PadSound (with_pins (properties_of (family_of code)) (device_at b i).pins) (device_at b i).scratchpad
  unfolding row_of
  pad-sound =
      let s = rw (device-live b code i at) at (each_at Sound (live b) i vacant place-lt r.sound.devices-sound) in
      rw has at s.pad-sound

  bytewise : Bytewise (device_at b i)
  bytewise = rw (device-live b code i at) at (each_at Bytewise (live b) i vacant place-lt r.bytewise)

  seventh-is : get_or (device_at b i).scratchpad 7 0 ≢ 0
  unfolding row_of
  seventh-is e =
      let k = sound-known code code-sound in
      seventh-set (family_of code) k (sym (rw has at bytewise.stored.seventh) ∙ e)

  shown-is : shown_at b code ≡ nine_bytes (device_at b i).scratchpad
  shown-is =
      shows-scratchpad b code i r.codes-fit r.sound.codes-distinct f at pad-sound.eight
      bytewise.stored.pad-bytes

  read_is : read_at b code ≡ answered_with code (device_at b i).scratchpad
      (after_slots 72 (addressed code read_scratchpad (restarted b)))
  unfolding row_of
  read_is =
      read-judged b code admitted present
      ∙ rw (
        shown-is,
        nine-judged (family_of code) (device_at b i).pins (device_at b i).scratchpad
            (sound-known code code-sound) pad-sound seventh-is,
      )

  bench-is : (read_at b code).bench ≡ (issued (read_bits code ∷ []) b).bench
  bench-is = rw present at (read-unrefused b code admitted).bench-is

  pub read-answered : read_at b code ≡ answered_with code (device_at b i).scratchpad
      (issued (read_bits code ∷ []) b).bench
  read-answered = read_is ∙ ap (answered_with code (device_at b i).scratchpad) (sym (ap (λ a. a.bench) read_is)
      ∙ bench-is)

-- ## The claims

pub read_answer : ReadAnswer
read_answer h t code i f at = read-answered (after h) (readable-after h t) code i f at

pub read-promised : (b : Bench) (code : ℕ) → ReadPromise b code
read-promised b code h t e i f at = read-answered b (rw e at (readable-after h t)) code i f at
