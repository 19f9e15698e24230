-- Reading and writing at a code (the scope, "The master"). Both refuse in the order: the given code (5, 7; nothing
-- sent), 10 (nothing sent), 4 (only the reset sent), then of the reply 5, 6, 7, 11, 20, and for a write 13. From 4 on
-- the bench is as the reset and the slots sent left it.
--     addressed code command b     the bench after 55h, the code and a function command
--     bytes_shown n b               the bytes that the line shows in 8 n read slots; after_slots, the bench after them
--     admission b code             the tests before anything is sent
--     read_at b code                a read at the code
--     settings_sent row code s b    4Eh and the settings s: high limit, low limit and, where the family has one,
--                                  configuration
--     write_at b code s             a write of the settings s, then a read at the code
use Rattle.std.specs.Prelude.{ℕ, zero, suc, Bool, not, ◌&&◌, List, [], ◌∷◌, eqb, pos, get_or, replicate}
use Rattle.std.specs.Prelude.{if◌then◌else◌}
use Rattle.basic_laws.specs.Bits.{number_of}
use Rattle.commands.specs.Commands.{match_rom, read_scratchpad, write_scratchpad}
use Rattle.refusals.specs.Refusals.{accepted, no_presence, wire_busy, mismatch}
use Rattle.family.specs.Families.{properties_of}
use Rattle.family.specs.Configuration.{configuration_as_asked}
use Rattle.family.specs.Layout.{high_limit_place, low_limit_place, configuration_place}
use Rattle.family.specs.declared.Properties.{Properties}
use Rattle.rom.specs.Code.{family_of, code_refusal}
use Rattle.temperature.specs.declared.Reading.TheVariants.{InSixteenths}
use Rattle.scratchpad.specs.Fine.{no_fine}
use Rattle.scratchpad.specs.Judgement.{judged}
use Rattle.scratchpad.specs.declared.Judged.{Judged}
use Rattle.search_laws.specs.Reads.{bits_shown, after_reads}
use Rattle.device.specs.declared.Settings.{Settings}
use Rattle.bench.specs.Bench.{free}
use Rattle.bench.specs.Slot.{reset_done}
use Rattle.bench.specs.declared.Bench.{Bench}
use Rattle.bench.specs.declared.ResetDone.{ResetDone}
use Rattle.master_rules.specs.declared.Access.{Access}
use Rattle.master_rules.specs.Buses.{calls}
use Rattle.master_rules.specs.Wire.{sent}

-- an answer that refuses: nine zero bytes, a zero reading, no fine one, and the bench as it then is
abbrev pub refused_at : ℕ → Bench → Access
refused_at n b = record {
  refusal = n;
  pad = replicate 9 0;
  reading = InSixteenths (record { 0 = pos 0 });
  fine = no_fine;
  bench = b;
}

unfoldable pub addressed : ℕ → ℕ → Bench → Bench
addressed code command b = sent 8 command (sent 64 code (sent 8 match_rom b))

-- one byte of eight read slots, in which the master offers 1: what the line showed, first bit lowest, and the bench
-- after them
abbrev pub byte_shown : Bench → ℕ
byte_shown b = number_of (bits_shown calls 8 b)

abbrev pub after_slots : ℕ → Bench → Bench
after_slots n b = after_reads calls n b

-- n bytes, one after another
unfoldable pub bytes_shown : ℕ → Bench → List ℕ
bytes_shown zero b = []
bytes_shown (suc n) b = byte_shown b ∷ bytes_shown n (after_slots 8 b)

-- a reply, judged for the family of the given code
abbrev pub judged_reply : List ℕ → Bench → Judged → Access
judged_reply pad b j =
    if eqb j.refusal accepted then record {
      refusal = accepted;
      pad = pad;
      reading = j.reading;
      fine = j.fine;
      bench = b;
    }
    else refused_at j.refusal b

-- BEh to the device with the code, and its reply: nine bytes in 72 read slots
unfoldable pub fetched : ℕ → Bench → Access
fetched code b =
    let asked = addressed code read_scratchpad b in
    judged_reply (bytes_shown 9 asked) (after_slots 72 asked) (judged (family_of code) (bytes_shown 9 asked))

-- what follows a reset: refusal 4 where nobody showed presence
abbrev pub on_presence : ResetDone → (Bench → Access) → Access
on_presence r go = if r.presence then go r.bench else refused_at no_presence r.bench

unfoldable pub read_back : ℕ → Bench → Access
read_back code b = on_presence (reset_done b) (fetched code)

unfoldable pub admission : Bench → ℕ → ℕ
admission b code =
    if not (eqb (code_refusal code) accepted) then code_refusal code
    else if free b then accepted
    else wire_busy

unfoldable pub read_at : Bench → ℕ → Access
read_at b code = if not (eqb (admission b code) accepted) then refused_at (admission b code) b else read_back code b

-- ## Writing

-- 4Eh, the limits and, where the family has one, the configuration as given
unfoldable pub settings_sent : Properties → ℕ → Settings → Bench → Bench
settings_sent row code s b =
    let limits = sent 8 s.low (sent 8 s.high (addressed code write_scratchpad b)) in
    if row.configurable then sent 8 s.configuration limits else limits

-- whether the bytes read back are those asked, the configuration in stored form
unfoldable pub as_asked : Properties → Settings → List ℕ → Bool
as_asked row s pad =
    eqb (get_or pad high_limit_place 0) s.high && eqb (get_or pad low_limit_place 0) s.low
    && configuration_as_asked row s.configuration (get_or pad configuration_place 0)

-- 13 where a read that was accepted shows other bytes
abbrev pub compared : Properties → Settings → Access → Access
compared row s r = if eqb r.refusal accepted && not (as_asked row s r.pad) then refused_at mismatch r.bench
    else r

unfoldable pub written_and_read : ℕ → Settings → Bench → Access
written_and_read code s b =
    let row = properties_of (family_of code) in
    compared row s (read_back code (settings_sent row code s b))

unfoldable pub write_at : Bench → ℕ → Settings → Access
write_at b code s =
    if not (eqb (admission b code) accepted) then refused_at (admission b code) b
    else on_presence (reset_done b) (written_and_read code s)
