-- What a read at a code shows: 55h, the code and BEh leave the device with the code about to send, and all others quiet
-- (`picked`), so that the read slots show its nine bytes (`sending`); where no device has the code they show ones
-- (`silence`). None of this changes anything but stages: `read_kept`.
use Rattle.std.specs.Prelude.{ℕ, zero, suc, ◌^◌, ◌<◌, Bool, true, false, not, ◌≢◌, ◌≡◌, eqb, length, get_or, replicate}
use mathlib.Core.List.{List, [], ◌∷◌, map}
use Rattle.std.proofs.Common.{inl, inr, ◌∙◌, arith, eqb-true, eq-eqb, ne_eqb, lit<}
use Rattle.std.proofs.Math.Path.{refl, sym, ap}
use Rattle.std.proofs.lemmas.List.{length-replicate}
use Rattle.std.specs.Prelude.{if◌then◌else◌}
use Rattle.basic_laws.specs.Each.{Each, Distinct}
use Rattle.basic_laws.specs.Fold.{fold}
use Rattle.basic_laws.specs.OneAmong.{OneAmong}
use Rattle.basic_laws.specs.OneAmongLaws.{one-implies, one-mapped}
use Rattle.basic_laws.specs.Bytes.{Bytes}
use Rattle.basic_laws.specs.BytesLaws.{bytes-append-bytes}
use Rattle.commands.specs.Commands.{read_scratchpad}
use Rattle.refusals.specs.Refusals.{accepted}
use Rattle.crc.specs.Crc.{crc_of}
use Rattle.crc.specs.Laws.{crc-bytes-lt}
use Rattle.search_laws.specs.Numbers.{Below}
use Rattle.search_laws.specs.Wire.{slots}
use Rattle.device.specs.Hear.{hear_of}
use Rattle.device.specs.Offer.{nine_bytes}
use Rattle.device.specs.OfferLaws.{nine-length}
use Rattle.device.specs.Power.{reset_of}
use Rattle.device.specs.Record.{with_stage}
use Rattle.device.specs.declared.Device.{Device}
use Rattle.device.specs.declared.Stage.TheVariants.{SendScratchpad, Quiet}
use Rattle.bench.specs.Bench.{live, vacant}
use Rattle.bench.specs.Calls.{device_at}
use Rattle.bench.specs.Slot.{presence_of, restarted}
use Rattle.bench.specs.declared.Bench.{Bench}
use Rattle.bench.proofs.Laws.{reset-accepted, restarted-live, place_found, place-live, place-nowhere, device-live}
use Rattle.bench.specs.Sound.{codes_of}
use Rattle.master_rules.specs.Buses.{slot_rule}
use Rattle.master_rules.specs.OnTheBench.{Free}
use Rattle.master_rules.proofs.OnTheBench.{restarted-keeps, free-restarted}
use Rattle.master_rules.specs.Thermometers.{unstaged}
use Rattle.master_rules.specs.Access.{refused_at, addressed, after_slots, read_back, admission, read_at}
use Rattle.access_laws.specs.Unrefused.{address_bits}
use Rattle.access_laws.specs.Course.{Hears, hears-end, Settled, reading, address-heard}
use Rattle.access_laws.specs.Laws.{Ends, heard-runs, heard-live-all, calls-rule, addressed-run, fetched-bench}
use Rattle.access_laws.specs.Laws.{admitted-free}
use Rattle.access_laws.specs.Picked.{picked, read-picks}
use Rattle.access_laws.specs.Reply.{IsQuiet, Sends, reply-shown, sending, silence, Replying, sends, silent}
use Rattle.access_laws.specs.Reply.{slots_kept}
use Rattle.access_laws.specs.Shown.{shown_at, ShowsScratchpad, ShowsOnes, ReadKeeps}

-- ## Lists

replicate-bytes : (n : ℕ) → Bytes (replicate n 255)
replicate-bytes zero k = lit< tt
replicate-bytes (suc n) zero = lit< tt
replicate-bytes (suc n) (suc k) = replicate-bytes n k

pub code_at : (P : ℕ → Type 0) (ds : List Device) (i : ℕ) → i < length ds → Each P (map (λ d. d.code) ds)
    → P (get_or ds i vacant).code
code_at P [] i h e = absurd (omega arith)
code_at P (d ∷ ds) zero h e = e.0
code_at P (d ∷ ds) (suc i) h e = code_at P ds i (omega arith) e.1

-- ## The bench once the read has been sent

module _ (b : Bench) (code : ℕ) (fit : Below 64 (codes_of b)) (fits : code < 2 ^ 64) (f : Free b) where
  asked : Bench
  asked = (slots slot_rule (address_bits code read_scratchpad) (restarted b)).devices

  each-hears : Each (Hears Settled (address_bits code read_scratchpad)) (live (restarted b))
  each-hears = rw (restarted-live b) (go (live b))
    where
      go : (ds : List Device) → Each (Hears Settled (address_bits code read_scratchpad)) (map reset_of ds)
      go [] = tt
      go (d ∷ ds) = (address-heard reading code d, go ds)

  ends : Ends Settled (address_bits code read_scratchpad) (restarted b)
  ends = heard-runs Settled (address_bits code read_scratchpad) (restarted b) each-hears (free-restarted b ∙ f)

  asked_is : addressed code read_scratchpad (restarted b) ≡ asked
  unfolding asked
  asked_is =
      sym (addressed-run code (restarted b) read_scratchpad)
      ∙ ap (λ r. r.devices) (calls-rule (address_bits code read_scratchpad) (restarted b) ends.runs.throughout)

  asked-free : Free asked
  unfolding asked
  asked-free = ends.runs.after-it

  asked-live : live asked ≡ map (picked code) (live b)
  unfolding asked
  asked-live =
      heard-live-all Settled (address_bits code read_scratchpad) (restarted b) each-hears
      ∙ rw (restarted-live b) (each-picked (live b) fit)
    where
      each-picked : (ds : List Device) → Below 64 (map (λ d. d.code) ds)
          → map (λ d. fold hear_of d (address_bits code read_scratchpad)) (map reset_of ds) ≡ map (picked code) ds
      each-picked [] h = refl
      each-picked (d ∷ ds) h =
          let e = hears-end (λ e. e ≡ picked code d) (address_bits code read_scratchpad) (reset_of d)
          (read-picks code d fits h.0) in
          let i = each-picked ds h.1 in rw (e, i)

  -- one device has the code
  shown-by-one : (pad : List ℕ) → length pad ≡ 8 → Bytes pad
      → OneAmong (λ d. (d.code ≡ code) × (d.scratchpad ≡ pad)) (λ d. d.code ≢ code) (live b)
      → shown_at b code ≡ nine_bytes pad
  shown-by-one pad long bytes o =
      rw asked_is
      (reply-shown (nine_bytes pad) (λ k j. OneAmong (Sends pad k j) IsQuiet) (sending pad long) (nine-length pad long)
      nine-bytes asked
      (rw asked-live
      (one-mapped (λ d. (d.code ≡ code) × (d.scratchpad ≡ pad)) (λ d. d.code ≢ code) (Sends pad 0 0) IsQuiet
      (picked code) starts stays (live b) o)) asked-free)
    where
      starts : (d : Device) → (d.code ≡ code) × (d.scratchpad ≡ pad) → Sends pad 0 0 (picked code d)
      starts d h = (rw (eq-eqb d.code code h.0), h.1)

      stays : (d : Device) → d.code ≢ code → IsQuiet (picked code d)
      stays d n = rw (ne_eqb d.code code n)

      nine-bytes : Bytes (nine_bytes pad)
      nine-bytes = bytes-append-bytes pad (crc_of pad ∷ []) bytes last
        where
          last : Bytes (crc_of pad ∷ [])
          last zero = crc-bytes-lt pad
          last (suc k) = lit< tt

  -- nobody has it
  shown-by-none : Each (λ d. d.code ≢ code) (live b) → shown_at b code ≡ replicate 9 255
  shown-by-none n =
      rw asked_is
      (reply-shown (replicate 9 255) (λ k j. Each IsQuiet) silence (length-replicate {A = ℕ} 9 255) (replicate-bytes 9)
      asked (rw asked-live (all_quiet (live b) n)) asked-free)
    where
      all_quiet : (ds : List Device) → Each (λ d. d.code ≢ code) ds → Each IsQuiet (map (picked code) ds)
      all_quiet [] h = tt
      all_quiet (d ∷ ds) h = (rw (ne_eqb d.code code h.0), all_quiet ds h.1)

  -- the read slots change nothing else
  asked-kept : map unstaged (live (after_slots 72 (addressed code read_scratchpad (restarted b)))) ≡ map unstaged (live b)
  asked-kept =
      rw asked_is
      (slots_kept 72 asked (rw asked-live (each-replies (live b))) asked-free ∙ rw asked-live (picked-kept (live b)))
    where
      each-replies : (ds : List Device) → Each Replying (map (picked code) ds)
      each-replies [] = tt
      each-replies (d ∷ ds) = (by-test (eqb d.code code), each-replies ds)
        where
          by-test : (t : Bool) → Replying (with_stage d (if t then SendScratchpad 0 0 else Quiet))
          by-test true = sends 0 0 refl
          by-test false = silent refl

      picked-kept : (ds : List Device) → map unstaged (map (picked code) ds) ≡ map unstaged ds
      picked-kept [] = refl
      picked-kept (d ∷ ds) = let i = picked-kept ds in rw i

-- ## Who has the code

-- a code that none of some devices has is not that of the device at any place
pub differs_at : (code : ℕ) (ds : List Device) (i : ℕ) → i < length ds → Each (λ c. code ≢ c) (map (λ d. d.code) ds)
    → code ≢ (get_or ds i vacant).code
differs_at code [] i h n = absurd (omega arith)
differs_at code (d ∷ ds) zero h n = n.0
differs_at code (d ∷ ds) (suc i) h n = differs_at code ds i (omega arith) n.1

pub others-differ : (code : ℕ) (ds : List Device) → Each (λ c. code ≢ c) (map (λ d. d.code) ds)
    → Each (λ d. d.code ≢ code) ds
others-differ code [] n = tt
others-differ code (d ∷ ds) n = ((λ z. n.0 (sym z)), others-differ code ds n.1)

-- of different codes one is that of place i
one_at : (ds : List Device) (i : ℕ) → i < length ds → Distinct (map (λ d. d.code) ds)
    → OneAmong (λ d. d ≡ get_or ds i vacant) (λ d. d.code ≢ (get_or ds i vacant).code) ds
one_at [] i h k = absurd (omega arith)
one_at (d ∷ ds) zero h k = inl (refl, others-differ d.code ds k.0)
one_at (d ∷ ds) (suc i) h k = let l : i < length ds = omega arith in
    inr (differs_at d.code ds i l k.0, one_at ds i l k.1)

-- ## The claims

pub shows-scratchpad : ShowsScratchpad
shows-scratchpad b code i fit apart f at long bytes =
    shown-by-one b code fit fits f (device_at b i).scratchpad long bytes one
  where
    there : get_or (live b) i vacant ≡ device_at b i
    there = device-live b code i at

    has : (get_or (live b) i vacant).code ≡ code
    has = place_found b code i at

    fits : code < 2 ^ 64
    fits = rw has at (code_at (λ c. c < 2 ^ 64) (live b) i (place-live b code i at) fit)

    one : OneAmong (λ d. (d.code ≡ code) × (d.scratchpad ≡ (device_at b i).scratchpad)) (λ d. d.code ≢ code) (live b)
    one =
        one-implies (λ d e. (ap (λ x. x.code) e ∙ has, ap (λ x. x.scratchpad) (e ∙ there))) (λ d n e. n (e ∙ sym has))
        (live b)
        (one_at (live b) i (place-live b code i at) apart)

pub shows-ones : ShowsOnes
shows-ones b code fits fit f at = shown-by-none b code fit fits f (place-nowhere b code at)

pub read_kept : ReadKeeps
unfolding read_at read_back
read_kept b code fits fit = by-admission (eqb (admission b code) accepted) refl
  where
    by-presence : (p : Bool) → presence_of b ≡ p → admission b code ≡ accepted
        → map unstaged (live (read_back code b).bench) ≡ map unstaged (live b)
    by-presence true e h =
        let f = admitted-free b code h in
        rw (reset-accepted b f, e) (ap (λ c. map unstaged (live c)) (fetched-bench code (restarted b))
        ∙ asked-kept b code fit fits f)
    by-presence false e h = rw (reset-accepted b (admitted-free b code h), e) (restarted-keeps b)

    by-admission : (t : Bool) → eqb (admission b code) accepted ≡ t
        → map unstaged (live (if not t then refused_at (admission b code) b else read_back code b).bench)
        ≡ map unstaged (live b)
    by-admission true e = by-presence (presence_of b) refl (eqb-true (admission b code) accepted e)
    by-admission false e = refl
