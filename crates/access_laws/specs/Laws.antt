-- None of the resets and slots of a read or a write at a code is refused once the call has been admitted:
-- `read-unrefused` and `write-unrefused`. Each device hears 55h, the code and the function command calmly (`addressed`)
-- and is then settled, so that whoever did not hold the wire before does not hold it after any slot.
use Rattle.std.specs.Prelude.{ℕ, Bool, not, ◌&&◌, ◌≡◌, eqb}
use Rattle.std.proofs.Math.Bool.{true, false, and-true}
use mathlib.Core.List.{List, [], ◌∷◌, ◌++◌, map}
use Rattle.std.proofs.Math.Path.{refl, sym, ap}
use Rattle.std.proofs.Common.{◌∙◌, arith}
use Rattle.std.proofs.lemmas.Bool.{eqb-false}
use Rattle.std.specs.Prelude.{if◌then◌else◌}
use Rattle.basic_laws.specs.Each.{Each}
use Rattle.basic_laws.specs.EachLaws.{each-implies}
use Rattle.basic_laws.specs.Fold.{fold, all}
use Rattle.basic_laws.specs.Bits.{bits_of}
use Rattle.refusals.specs.Refusals.{accepted, wire_busy, mismatch}
use Rattle.search_laws.specs.Reads.{read_slots}
use Rattle.search_laws.specs.Issued.{slots-append}
use Rattle.search_laws.specs.Wire.{slots}
use Rattle.device.specs.Hear.{hear_of}
use Rattle.device.specs.Offer.{offer_of}
use Rattle.device.specs.Power.{reset_of}
use Rattle.device.specs.declared.Device.{Device}
use Rattle.device.specs.Record.{holds_wire}
use Rattle.bench.specs.Bench.{live, free}
use Rattle.bench.proofs.Laws.{line-live, heard-live, restarted-live, free-live, slot-accepted, reset-accepted}
use Rattle.bench.specs.Slot.{line_bit, heard, presence_of, restarted, reset_done}
use Rattle.bench.specs.declared.Bench.{Bench}
use Rattle.master_rules.specs.Buses.{slot_rule, calls}
use Rattle.master_rules.specs.Course.{Throughout, Runs, runs_append}
use Rattle.master_rules.specs.OnTheBench.{Free}
use Rattle.master_rules.proofs.OnTheBench.{free-restarted}
use Rattle.commands.specs.Commands.{match_rom, read_scratchpad, write_scratchpad}
use Rattle.family.specs.Families.{properties_of}
use Rattle.family.specs.declared.Properties.{Properties}
use Rattle.rom.specs.Code.{family_of, code_bits, code_refusal}
use Rattle.scratchpad.specs.Judgement.{judged}
use Rattle.device.specs.declared.Settings.{Settings}
use Rattle.master_rules.specs.declared.Access.{Access as Answer}
use Rattle.master_rules.specs.Wire.{sent}
use Rattle.master_rules.specs.Access.{refused_at, addressed, after_slots, bytes_shown, fetched, on_presence, read_back}
use Rattle.master_rules.specs.Access.{admission, read_at, settings_sent, as_asked, written_and_read, write_at}
use Rattle.master_rules.specs.Issued.{issued, Granted}
use Rattle.master_rules.proofs.IssuedLaws.{slots-presence, granted-run}
use Rattle.access_laws.specs.Unrefused.{address_bits, read_bits, settings_bits, write_bits, Unrefused, ReadClaim}
use Rattle.access_laws.specs.Unrefused.{WriteClaim}
use Rattle.access_laws.specs.Course.{Calm, Hears, Settled, settled-calm, settled-hears, Access, reading, writing}
use Rattle.access_laws.specs.Course.{address-heard}

-- ## One slot

-- each device hears the bit calmly
free-after : (x : Bool) (b : Bench) → Each (Calm x) (live b) → Free b → Free (heard b x)
unfolding all
free-after x b h f = free-live (heard b x) ∙ rw (heard-live b x) (same (live b) h) ∙ sym (free-live b) ∙ f
  where
    same : (ds : List Device) → Each (Calm x) ds
        → all (λ d. not (holds_wire d)) (map (λ d. hear_of d x) ds) ≡ all (λ d. not (holds_wire d)) ds
    same [] c = refl
    same (d ∷ ds) c = let i = same ds c.1 in rw (c.0, i)

-- ## Runs of slots

-- what is known of the bench after a run
pub record Ends (E : Device → Type 0) (bits : List Bool) (b : Bench) : Type 0 where
  pub runs : Runs slot_rule Free bits b
  pub each : Each E (live (slots slot_rule bits b).devices)

record BitHeard (E : Device → Type 0) (x : Bool) (bits : List Bool) (ds : List Device) : Type 0 where
  pub calm : Each (Calm x) ds
  pub ones : all offer_of ds ≡ true
  pub others : Each (Hears E bits) (map (λ d. hear_of d x) ds)

bit-heard : (E : Device → Type 0) (x : Bool) (bits : List Bool) (ds : List Device) → Each (Hears E (x ∷ bits)) ds
    → BitHeard E x bits ds
unfolding all
bit-heard E x bits [] h = record { calm = tt; ones = refl; others = tt }
bit-heard E x bits (d ∷ ds) h =
    let i = bit-heard E x bits ds h.1 in
    record { calm = (h.0.0, i.calm); ones = rw (h.0.1, i.ones); others = (h.0.2, i.others) }

-- bits that every device hears as the master offers them
pub heard-runs : (E : Device → Type 0) (bits : List Bool) (b : Bench) → Each (Hears E bits) (live b) → Free b
    → Ends E bits b
unfolding slots
heard-runs E [] b h f = record { runs = record { throughout = tt; after-it = f }; each = h }
heard-runs E (x ∷ bits) b h f =
    let t = bit-heard E x bits (live b) h in
    let e : line_bit b x ≡ x = line-live b x ∙ rw t.ones (and-true x) in
    let g : Free (heard b (line_bit b x)) = rw e (free-after x b t.calm f) in
    let l : Each (Hears E bits) (live (heard b (line_bit b x))) = rw (e, heard-live b x) t.others in
    let i = heard-runs E bits (heard b (line_bit b x)) l g in
    record { runs = record { throughout = (f, i.runs.throughout); after-it = i.runs.after-it }; each = i.each }

-- each device then has heard them all
pub heard-live-all : (E : Device → Type 0) (bits : List Bool) (b : Bench) → Each (Hears E bits) (live b)
    → live (slots slot_rule bits b).devices ≡ map (λ d. fold hear_of d bits) (live b)
unfolding slots fold
heard-live-all E [] b h = sym (unchanged (live b))
  where
    unchanged : (ds : List Device) → map (λ d. d) ds ≡ ds
    unchanged [] = refl
    unchanged (d ∷ ds) = let i = unchanged ds in rw i
heard-live-all E (x ∷ bits) b h =
    let t = bit-heard E x bits (live b) h in
    let e : line_bit b x ≡ x = line-live b x ∙ rw t.ones (and-true x) in
    let i = heard-live-all E bits (heard b x) (rw (heard-live b x) t.others) in
    ap (λ (l : Bool). live (slots slot_rule bits (heard b l)).devices) e ∙ i ∙ rw (heard-live b x) (twice (live b))
  where
    twice : (ds : List Device) → map (λ d. fold hear_of d bits) (map (λ d. hear_of d x) ds)
        ≡ map (λ d. fold hear_of (hear_of d x) bits) ds
    twice [] = refl
    twice (d ∷ ds) = let i = twice ds in rw i

-- any bits, whatever the line shows, once every device is settled
settled-runs : (bits : List Bool) (b : Bench) → Each Settled (live b) → Free b → Runs slot_rule Free bits b
unfolding slots
settled-runs [] b h f = record { throughout = tt; after-it = f }
settled-runs (x ∷ bits) b h f =
    let l = line_bit b x in
    let i = settled-runs bits (heard b l) (rw (heard-live b l)
    (each-mapped (λ d. hear_of d l) (settled-hears l) (live b) h))
    (free-after l b (each-implies (settled-calm l) (live b) h) f) in
    record { throughout = (f, i.throughout); after-it = i.after-it }
  where
    each-mapped : (g : Device → Device) → ((d : Device) → Settled d → Settled (g d)) → (ds : List Device)
        → Each Settled ds → Each Settled (map g ds)
    each-mapped g k [] e = tt
    each-mapped g k (d ∷ ds) e = (k d e.0, each-mapped g k ds e.1)

-- 55h, the code and the function command after a reset, and then any bits
address-runs : {command : ℕ} → Access command → (code : ℕ) (bits : List Bool) (b : Bench) → Free b
    → Runs slot_rule Free (address_bits code command ++ bits) (restarted b)
address-runs {command} a code bits b f =
    let r = heard-runs Settled (address_bits code command) (restarted b) (rw (restarted-live b) (each-reset (live b)))
    (free-restarted b ∙ f) in
    let s = settled-runs bits (slots slot_rule (address_bits code command) (restarted b)).devices r.each
    r.runs.after-it in
    runs_append slot_rule Free (address_bits code command) bits (restarted b) r.runs s
  where
    each-reset : (ds : List Device) → Each (Hears Settled (address_bits code command)) (map reset_of ds)
    each-reset [] = tt
    each-reset (d ∷ ds) = (address-heard a code d, each-reset ds)

-- ## Calls that are not refused do what the slot rule does

pub calls-rule : (bits : List Bool) (b : Bench) → Throughout slot_rule Free bits b
    → slots calls bits b ≡ slots slot_rule bits b
unfolding slots
calls-rule [] b t = refl
calls-rule (x ∷ bits) b t =
    let i = calls-rule bits (heard b (line_bit b x)) t.1 in
    rw (slot-accepted b x t.0, i)

-- ## The slots of a read and of a write, as one run

module _ (code : ℕ) (b : Bench) where
  pub addressed-run : (command : ℕ) → (slots calls (address_bits code command) b).devices ≡ addressed code command b
  unfolding addressed
  addressed-run command =
      ap (λ r. r.devices) (slots-append calls (bits_of 8 match_rom) (code_bits code ++ bits_of 8 command) b)
      ∙ ap (λ r. r.devices) (slots-append calls (code_bits code) (bits_of 8 command)
      (slots calls (bits_of 8 match_rom) b).devices)

  then-run : (command : ℕ) (bits : List Bool)
      → (slots calls (address_bits code command ++ bits) b).devices ≡ (slots calls bits (addressed code command b)).devices
  then-run command bits =
      ap (λ r. r.devices) (slots-append calls (address_bits code command) bits b)
      ∙ ap (λ c. (slots calls bits c).devices) (addressed-run command)

  pub settings-run : (row : Properties) (s : Settings)
      → (slots calls (write_bits row code s) b).devices ≡ settings_sent row code s b
  unfolding settings_sent slots
  settings-run row s =
      then-run write_scratchpad (settings_bits row s)
      ∙ ap (λ r. r.devices) (slots-append calls (bits_of 8 s.high) _ (addressed code write_scratchpad b))
      ∙ ap (λ r. r.devices) (slots-append calls (bits_of 8 s.low)
      _ (sent 8 s.high (addressed code write_scratchpad b)))
      ∙ by-test row.configurable
    where
      by-test : (t : Bool)
          → (slots calls (if t then bits_of 8 s.configuration
          else []) (sent 8 s.low (sent 8 s.high (addressed code write_scratchpad b)))).devices
          ≡ (if t then sent 8 s.configuration (sent 8 s.low (sent 8 s.high (addressed code write_scratchpad b)))
          else sent 8 s.low (sent 8 s.high (addressed code write_scratchpad b)))
      by-test true = refl
      by-test false = refl

-- a choice between two answers with the same bench
either : (t : Bool) (x y : Answer) (b : Bench) → x.bench ≡ b → y.bench ≡ b → (if t then x else y).bench ≡ b
either true x y b p q = p
either false x y b p q = q

-- the bench of a read's answer, whatever the judgement
pub fetched-bench : (code : ℕ) (b : Bench) → (fetched code b).bench ≡ after_slots 72 (addressed code read_scratchpad b)
unfolding fetched
fetched-bench code b = let asked = addressed code read_scratchpad b in
    either (eqb (judged (family_of code) (bytes_shown 9 asked)).refusal accepted) _ _ (after_slots 72 asked) refl refl

-- ## The claims

-- a call that is admitted finds the wire free
pub admitted-free : (b : Bench) (code : ℕ) → admission b code ≡ accepted → Free b
unfolding admission
admitted-free b code = by_tests (eqb (code_refusal code) accepted) refl (free b)
  where
    by_tests : (t : Bool) → eqb (code_refusal code) accepted ≡ t → (u : Bool)
        → (if not t then code_refusal code else if u then accepted else wire_busy) ≡ accepted → u ≡ true
    by_tests true e true h = refl
    by_tests true e false h = absurd (omega arith)
    by_tests false e u h = absurd (eqb-false (code_refusal code) accepted e h)

module _ (code : ℕ) (b : Bench) (f : Free b) where
  read-runs : Runs slot_rule Free (read_bits code) (restarted b)
  read-runs = address-runs reading code (read_slots 72) b f

  -- where somebody shows presence
  read-bench : presence_of b ≡ true → (read_back code b).bench ≡ (slots slot_rule (read_bits code) (restarted b)).devices
  unfolding read_back
  read-bench there =
      rw (reset-accepted b f, there)
      (fetched-bench code (restarted b) ∙ sym (then-run code (restarted b) read_scratchpad (read_slots 72))
      ∙ ap (λ r. r.devices) (calls-rule (read_bits code) (restarted b) read-runs.throughout))

  -- where nobody does
  lonely-bench : (go : Bench → Answer) → presence_of b ≡ false → (on_presence (reset_done b) go).bench ≡ restarted b
  lonely-bench go absent = rw (reset-accepted b f, absent)

  reset-granted : Granted ([] ∷ []) b
  unfolding slots
  reset-granted = granted-run [] [] b f (record { throughout = tt; after-it = free-restarted b ∙ f }) (λ g. tt)

  read-granted : Granted (read_bits code ∷ []) b
  read-granted = granted-run (read_bits code) [] b f read-runs (λ g. tt)

pub read-unrefused : ReadClaim
unfolding issued read_at read_back slots
read-unrefused b code h = rw h (by-presence (presence_of b) refl)
  where
    by-presence : (p : Bool) → presence_of b ≡ p
        → Unrefused (if p then read_bits code ∷ [] else [] ∷ []) b (read_back code b)
    by-presence true e = let f = admitted-free b code h in
        record { bench-is = read-bench code b f e; granted = read-granted code b f }
    by-presence false e = let f = admitted-free b code h in
        record { bench-is = lonely-bench code b f (fetched code) e; granted = reset-granted code b f }

pub write-unrefused : WriteClaim
unfolding issued write_at written_and_read slots
write-unrefused b code s h = rw h (by-presence (presence_of b) refl)
  where
    written : Free b → presence_of b ≡ true
        → Unrefused (write_bits (properties_of (family_of code)) code s ∷ read_bits code ∷ []) b
        (on_presence (reset_done b) (written_and_read code s))
    written f there =
        let row = properties_of (family_of code) in
        let r = address-runs writing code (settings_bits row s) b f in
        let c = (slots slot_rule (write_bits row code s) (restarted b)).devices in
        let sent_is : settings_sent row code s (restarted b) ≡ c =
        sym (settings-run code (restarted b) row s)
        ∙ ap (λ q. q.devices) (calls-rule (write_bits row code s) (restarted b) r.throughout) in
        let back = read_back code (settings_sent row code s (restarted b)) in
        let after = (slots slot_rule (read_bits code) (restarted c)).devices in
        let back_is : back.bench ≡ after = ap (λ q. (read_back code q).bench) sent_is
        ∙ read-bench code c r.after-it (slots-presence (write_bits row code s) b ∙ there) in
        record {
          bench-is =
              rw (reset-accepted b f, there)
              (either (eqb back.refusal accepted && not (as_asked row s back.pad))
              (refused_at mismatch back.bench) back after back_is back_is);
          granted = granted-run (write_bits row code s) (read_bits code ∷ []) b f r (λ g. read-granted code c g);
        }

    by-presence : (p : Bool) → presence_of b ≡ p
        → Unrefused (if p then write_bits (properties_of (family_of code)) code s ∷ read_bits code ∷ []
        else [] ∷ []) b (on_presence (reset_done b) (written_and_read code s))
    by-presence true e = written (admitted-free b code h) e
    by-presence false e =
        let f = admitted-free b code h in
        record { bench-is = lonely-bench code b f (written_and_read code s) e; granted = reset-granted code b f }
