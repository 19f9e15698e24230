-- What a read at a code shows (the scope, "The master"), and that no read and no write of a bench that calls reach is
-- refused with 6, 11 or 20.
--     shown_at b code        the nine bytes that the line shows in the 72 read slots of a read at the code
--     answered_with          the answer of an accepted read: the eight bytes of a scratchpad with their CRC, and the
--                           reading in them with the fine one
--     ShowsScratchpad       where a device has the code, they are its scratchpad and the CRC of that
--     ShowsOnes             where no device has it, they are all FFh
--     AbsentRefused         and then the read is refused with 5
--     ReadKeeps             a read, refused or not, changes nothing of any device but its stage
--     ReadAnswer            after every history a read at the code of a device, where none holds the wire, is accepted
--                           and answers that device's own nine bytes and the reading in them, with the fine one, and
--                           the bench is where the slot rule leaves it
--     ReadPromise           so it is on a bench to which any history leads
--     FineIsCount           after every history that ends with an accepted finish of a device in half degrees, the fine
--                           reading that a read at its code answers is the count of that finish
--     NeverDamaged          after every history no read and no write is refused with 6, 11 or 20
-- The nine bytes of a scratchpad are `nine_bytes`, as the device sends them.
use Rattle.std.specs.Prelude.{ℕ, true, List, [], ◌∷◌, ◌++◌, map, ◌≢◌, ◌≡◌, pos, ◌*ℤ◌, length, replicate}
use Rattle.basic_laws.specs.Each.{Each, Distinct}
use Rattle.basic_laws.specs.Bytes.{Bytes}
use Rattle.commands.specs.Commands.{read_scratchpad}
use Rattle.refusals.specs.Refusals.{accepted, wrong_crc, all_zero, out_of_range, wrong_counts}
use Rattle.family.specs.declared.Unit.TheVariants.{HalfDegrees as inHalfDegrees}
use Rattle.temperature.specs.declared.Sixteenths.{Sixteenths}
use Rattle.scratchpad.specs.Stored.{reading_in, fine_in}
use Rattle.search_laws.specs.Numbers.{Below}
use Rattle.device.specs.Offer.{nine_bytes}
use Rattle.device.specs.Record.{family_row}
use Rattle.device.specs.declared.Settings.{Settings}
use Rattle.bench.specs.Bench.{live, place_of, free}
use Rattle.bench.specs.Calls.{device_at, conversion_finished}
use Rattle.bench.specs.Slot.{presence_of, restarted}
use Rattle.bench.specs.declared.Bench.{Bench}
use Rattle.bench.specs.declared.Place.TheVariants.{At, Nowhere}
use Rattle.bench.specs.Sound.{codes_of}
use Rattle.master_rules.specs.Thermometers.{unstaged}
use Rattle.master_rules.specs.declared.Access.{Access}
use Rattle.master_rules.specs.Access.{addressed, bytes_shown, admission, read_at, write_at}
use Rattle.master_rules.specs.Issued.{issued}
use Rattle.history_laws.specs.History.{Call, finish_conversion, Typed, Code64, after}
use Rattle.access_laws.specs.Unrefused.{read_bits}

abbrev pub answered_with : ℕ → List ℕ → Bench → Access
answered_with code pad b = record {
  refusal = accepted;
  pad = nine_bytes pad;
  reading = reading_in (family_row code) pad;
  fine = fine_in (family_row code) pad;
  bench = b;
}

abbrev pub shown_at : Bench → ℕ → List ℕ
shown_at b code = bytes_shown 9 (addressed code read_scratchpad (restarted b))

-- ## On every bench whose codes are 64-bit numbers

-- no device holds the wire, no two codes are the same, and the device at place i, whose scratchpad is eight bytes, has
-- the code
abbrev pub ShowsScratchpad : Type 0
ShowsScratchpad = (b : Bench) (code i : ℕ) → Below 64 (codes_of b) → Distinct (codes_of b) → free b ≡ true
    → place_of b code ≡ At i
    → length (device_at b i).scratchpad ≡ 8 → Bytes (device_at b i).scratchpad
    → shown_at b code ≡ nine_bytes (device_at b i).scratchpad

abbrev pub ShowsOnes : Type 0
ShowsOnes = (b : Bench) (code : ℕ) → Code64 code → Below 64 (codes_of b) → free b ≡ true → place_of b code ≡ Nowhere
    → shown_at b code ≡ replicate 9 0xFF

-- the read is admitted, and somebody shows presence
abbrev pub AbsentRefused : Type 0
AbsentRefused = (b : Bench) (code : ℕ) → Code64 code → Below 64 (codes_of b) → admission b code ≡ accepted
    → presence_of b ≡ true → place_of b code ≡ Nowhere
    → (read_at b code).refusal ≡ wrong_crc

-- whether a device holds the wire or not; `unstaged` is a device without its stage
abbrev pub ReadKeeps : Type 0
ReadKeeps = (b : Bench) (code : ℕ) → Code64 code → Below 64 (codes_of b)
    → map unstaged (live (read_at b code).bench) ≡ map unstaged (live b)

-- ## On every bench that calls reach

-- the device at place i has the code, and no device holds the wire
abbrev pub ReadAnswer : Type 0
ReadAnswer = (h : List Call) → Each Typed h → (code i : ℕ) → free (after h) ≡ true → place_of (after h) code ≡ At i
    → read_at (after h) code ≡ answered_with code (device_at (after h) i).scratchpad
    (issued (read_bits code ∷ []) (after h)).bench

abbrev pub ReadPromise : Bench → ℕ → Type 0
ReadPromise b code = (h : List Call) → Each Typed h → after h ≡ b → (i : ℕ) → free b ≡ true → place_of b code ≡ At i
    → read_at b code ≡ answered_with code (device_at b i).scratchpad (issued (read_bits code ∷ []) b).bench

-- s sixteenths are 4 s over 64 degrees
abbrev pub FineIsCount : Type 0
FineIsCount = (h : List Call) (code : ℕ) (count : Sixteenths) → Each Typed h → Typed (finish_conversion code count)
    → (family_row code).unit ≡ inHalfDegrees
    → (conversion_finished (after h) code count).refusal ≡ accepted
    → let b = after (h ++ (finish_conversion code count ∷ [])) in
    free b ≡ true → (read_at b code).fine ≡ record { numerator = count.0 *ℤ pos 4; denominator = 64 }

-- the refusals of a reply that came through whole and cannot be
abbrev pub damage : List ℕ
damage = all_zero ∷ out_of_range ∷ wrong_counts ∷ []

abbrev pub NeverDamaged : Type 0
NeverDamaged = (h : List Call) → Each Typed h → (code : ℕ) → Code64 code
    → Each (λ n. (read_at (after h) code).refusal ≢ n) damage
    × ((s : Settings) → Each (λ n. (write_at (after h) code s).refusal ≢ n) damage)
