-- The two calls where no conversion finishes meanwhile. Each is the run of its events (`read-events`, `change-events`);
-- a read shows the status as it stands (`status-read`), a change stores the byte that it makes of it (`status-changed`)
-- and leaves both flags as they are (`flags-left`); in thermostat mode both are refused with 4 and nothing changes
-- (`read-unheard`, `change-unheard`).
use Prim.Native.Nat.{ℕ}
use Rattle.std.proofs.Math.Bool.{Bool, true, false, and-true}
use Rattle.std.specs.Prelude.{not, ◌&&◌, List, [], ◌∷◌, ◌++◌, ◌≡◌, refl}
use Rattle.std.proofs.Math.Path.{Path, ap, subst⁻¹}
use Rattle.std.proofs.Common.{sym, ◌∙◌, lit<}
use Rattle.std.proofs.Math.ListN.{get_or}
use Rattle.basic_laws.specs.Bits.{bit_at, bits_of, number_of}
use Rattle.basic_laws.specs.BitsLaws.{bits-number}
use Rattle.commands.specs.BytesLaws.{eight-in}
use Rattle.refusals.specs.Refusals.{accepted, no_presence}
use Rattle.search_laws.proofs.DepartureLaws.{bit-of-code}
use Rattle.search_laws.specs.Issued.{slots-append}
use Rattle.search_laws.specs.Wire.{slots}
use Rattle.thermostat.specs.Commands.{write_status}
use Rattle.thermostat.specs.Record.{probe_with_stage}
use Rattle.thermostat.specs.Slot.{runs_after, stage_after, probe_slotted, probe_reset}
use Rattle.thermostat.specs.Status.{status_of, status_written}
use Rattle.thermostat.specs.declared.Flags.{Flags}
use Rattle.thermostat.specs.declared.Kept.{Kept}
use Rattle.thermostat.specs.declared.ProbeStage.{ProbeStage}
use Rattle.thermostat.specs.declared.ProbeStage.TheVariants.{Quiet}
use Rattle.thermostat.specs.declared.Thermostat.{Thermostat}
use Rattle.thermostat.specs.Calls.{alone, byte_sent, status_read, changed_bits, changed_status, status_changed}
use Rattle.thermostat.specs.Race.{after_events, lines_shown, offering, read_events, write_events, status_seen}
use Rattle.thermostat.specs.RaceLaws.{listening}
use Rattle.thermostat.proofs.RaceLaws.{by_parts, reset-unheard, ones-for-flags}
use Rattle.thermostat.specs.declared.rules.Asked.{Asked}
use Rattle.thermostat.specs.declared.rules.Changed.{Changed}
use Rattle.thermostat.specs.declared.rules.StatusRead.{StatusRead}

-- ## In thermostat mode

absent : (p : Thermostat) → p.thermostat ≡ true → (probe_reset p).presence ≡ false
unfolding probe_reset
absent p e = rw e

pub read-unheard : (p : Thermostat) → p.thermostat ≡ true
    → status_read p ≡ record { refusal = no_presence; status = 0; probe = p }
unfolding status_read
read-unheard p e = rw (absent p e, reset-unheard p e)

pub change-unheard : (p : Thermostat) (b : ℕ) (a : Asked) → p.thermostat ≡ true
    → status_changed p b a ≡ record { refusal = no_presence; probe = p }
unfolding status_changed
change-unheard p b a e = rw (absent p e, reset-unheard p e)

-- ## Outside it, where the probe listens

-- the bits of a number, each as a line that the probe alone decides, make the number
eight-shown : (a b c d e f g h : Bool)
    → let n = number_of (a ∷ b ∷ c ∷ d ∷ e ∷ f ∷ g ∷ h ∷ []) in
    number_of ((bit_at n 0 && true) ∷ (bit_at n 1 && true) ∷ (bit_at n 2 && true) ∷ (bit_at n 3 && true) ∷ (bit_at n 4
    && true) ∷ (bit_at n 5 && true) ∷ (bit_at n 6 && true) ∷ (bit_at n 7 && true) ∷ []) ≡ n
eight-shown a b c d e f g h =
    let l = a ∷ b ∷ c ∷ d ∷ e ∷ f ∷ g ∷ h ∷ [] in
    let n = number_of l in
    rw (
      and-true (bit_at n 0),
      and-true (bit_at n 1),
      and-true (bit_at n 2),
      and-true (bit_at n 3),
      and-true (bit_at n 4),
      and-true (bit_at n 5),
      and-true (bit_at n 6),
      and-true (bit_at n 7),
      bit-of-code l 0 (lit< tt),
      bit-of-code l 1 (lit< tt),
      bit-of-code l 2 (lit< tt),
      bit-of-code l 3 (lit< tt),
      bit-of-code l 4 (lit< tt),
      bit-of-code l 5 (lit< tt),
      bit-of-code l 6 (lit< tt),
      bit-of-code l 7 (lit< tt),
    )

module _ (k : Kept) (s : ProbeStage) (t : ℕ) (f : Flags) (o c : Bool) where
  abbrev parts : Thermostat
  parts = listening k s t f o c

  read-parts : status_read parts ≡ record {
    refusal = accepted;
    status = status_of parts;
    probe = probe_with_stage parts Quiet;
  }
  unfolding status_read probe_reset slots bits_of probe_slotted runs_after stage_after status_of
  read-parts =
      ap (λ (n : ℕ). record { refusal = accepted; status = n; probe = probe_with_stage parts Quiet })
      (eight-shown k.oneshot k.polarity k.mode f.low f.high false true (not c))

  -- the byte of the second call, by its bits
  module _ (l m n p q r x y : Bool) where
    abbrev byte_bits : List Bool
    byte_bits = l ∷ m ∷ n ∷ p ∷ q ∷ r ∷ x ∷ y ∷ []

    bits-sent : (slots alone byte_bits (byte_sent write_status (probe_reset parts).probe)).devices
        ≡ probe_with_stage (status_written parts (number_of byte_bits)) Quiet
    unfolding probe_reset slots bits_of probe_slotted runs_after stage_after status_written
    bits-sent = ap (λ (b : ℕ). probe_with_stage (status_written parts b) Quiet) (eight-in l m n p q r x y)

    byte-sent : byte_sent (number_of byte_bits) (byte_sent write_status (probe_reset parts).probe)
        ≡ probe_with_stage (status_written parts (number_of byte_bits)) Quiet
    byte-sent = ap (λ (bits : List Bool). (slots alone bits (byte_sent write_status (probe_reset parts).probe)).devices)
        (bits-number byte_bits) ∙ bits-sent

  change-parts : (b : ℕ) (a : Asked) → status_changed parts b a
      ≡ record { refusal = accepted; probe = probe_with_stage (status_written parts (changed_status b a)) Quiet }
  unfolding status_changed changed_status probe_reset
  change-parts b a =
      let bit : ℕ → Bool = λ i. get_or (changed_bits b a) i false in
      ap (λ (q : Thermostat). record { refusal = accepted; probe = q })
      (byte-sent (bit 0) (bit 1) (bit 2) (bit 3) (bit 4) (bit 5) (bit 6) (bit 7))

pub status-read : (p : Thermostat) → p.thermostat ≡ false
    → status_read p ≡ record { refusal = accepted; status = status_of p; probe = probe_with_stage p Quiet }
status-read p e =
    subst⁻¹ (λ (x : Thermostat). status_read x
    ≡ record { refusal = accepted; status = status_of x; probe = probe_with_stage x Quiet }) (by_parts p e)
    (read-parts p.kept p.stage p.temperature p.flags p.output p.converting)

pub status-changed : (p : Thermostat) (b : ℕ) (a : Asked) → p.thermostat ≡ false
    → status_changed p b a ≡ record {
      refusal = accepted;
      probe = probe_with_stage (status_written p (changed_status b a)) Quiet;
    }
status-changed p b a e =
    subst⁻¹ (λ (x : Thermostat). status_changed x b a
    ≡ record { refusal = accepted; probe = probe_with_stage (status_written x (changed_status b a)) Quiet })
    (by_parts p e)
    (change-parts p.kept p.stage p.temperature p.flags p.output p.converting b a)

-- ## A change leaves both flags as they are

spared : (p : Thermostat) (b : ℕ) (a : Asked) → (status_written p (changed_status b a)).flags ≡ p.flags
unfolding status_written
spared p b a = rw ((ones-for-flags b a).0, (ones-for-flags b a).1, and-true p.flags.high, and-true p.flags.low)

pub flags-left : (p : Thermostat) (b : ℕ) (a : Asked) → (status_changed p b a).probe.flags ≡ p.flags
flags-left p b a = by_mode p.thermostat refl
  where
    by_mode : (t : Bool) → p.thermostat ≡ t → (status_changed p b a).probe.flags ≡ p.flags
    by_mode true e = ap (λ (r : Changed). r.probe.flags) (change-unheard p b a e)
    by_mode false e = ap (λ (r : Changed). r.probe.flags) (status-changed p b a e) ∙ spared p b a

-- ## Each call is the run of its events

offering-after : (bits : List Bool) (p : Thermostat) → after_events (offering bits) p ≡ (slots alone bits p).devices
unfolding after_events slots
offering-after [] p = refl
offering-after (b ∷ bits) p = offering-after bits (probe_slotted p b).probe

events-read : (k : Kept) (s : ProbeStage) (t : ℕ) (f : Flags) (o c : Bool)
    → let p = listening k s t f o c in
    Path StatusRead (record { refusal = accepted; status = status_seen read_events p; probe = after_events read_events p })
    (record { refusal = accepted; status = status_of p; probe = probe_with_stage p Quiet })
unfolding after_events lines_shown bits_of probe_slotted probe_reset runs_after stage_after status_of
events-read k s t f o c =
    ap (λ (n : ℕ). record { refusal = accepted; status = n; probe = probe_with_stage (listening k s t f o c) Quiet })
    (eight-shown k.oneshot k.polarity k.mode f.low f.high false true (not c))

pub read-events : (p : Thermostat) → p.thermostat ≡ false
    → status_read p ≡ record { refusal = accepted; status = status_seen read_events p; probe = after_events read_events p }
read-events p e =
    status-read p e
    ∙ sym (subst⁻¹ (λ (x : Thermostat). Path StatusRead
    (record { refusal = accepted; status = status_seen read_events x; probe = after_events read_events x })
    (record { refusal = accepted; status = status_of x; probe = probe_with_stage x Quiet })) (by_parts p e)
    (events-read p.kept p.stage p.temperature p.flags p.output p.converting))

events-written : (b : ℕ) (p : Thermostat) → after_events (write_events b) p
    ≡ byte_sent b (byte_sent write_status (probe_reset p).probe)
unfolding after_events
events-written b p =
    offering-after (bits_of 8 write_status ++ bits_of 8 b) (probe_reset p).probe
    ∙ ap (λ r. r.devices) (slots-append alone (bits_of 8 write_status) (bits_of 8 b) (probe_reset p).probe)

present : (p : Thermostat) → p.thermostat ≡ false → (probe_reset p).presence ≡ true
unfolding probe_reset
present p e = rw e

pub change-events : (p : Thermostat) (b : ℕ) (a : Asked) → p.thermostat ≡ false
    → status_changed p b a ≡ record { refusal = accepted; probe = after_events (write_events (changed_status b a)) p }
unfolding status_changed
change-events p b a e =
    rw (present p e) (ap (λ (q : Thermostat). record { refusal = accepted; probe = q })
    (sym (events-written (changed_status b a) p)))
