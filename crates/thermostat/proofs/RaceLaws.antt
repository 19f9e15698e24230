-- The race is never lost: `race`. A finish leaves alone where the probe stands in the protocol and what it keeps
-- (`finish-keeps`), so that what the wire makes of these can be followed without the finishes (`sparing`, `kept_after`);
-- and a slot leaves the flags alone unless it is the last of a written status with a 0 for one of them (`spares`).
-- Along the two calls no slot is such a one, whatever stands in the upper bits of the byte read: `spared-reading`,
-- `spared-writing`.
--     still k s              a probe outside thermostat mode that keeps k, at stage s, and has measured nothing
--     spares s m             whether a slot at stage s in which the line shows m leaves the flags alone
--     sparing es k s         whether all slots among the events do, from k and s on; kept_after es k s, what is kept
--                            after them
use Rattle.std.specs.Prelude.{ℕ, Bool, true, false, not, ◌&&◌, ◌≡◌, eqb, get_or}
use Rattle.std.proofs.Math.Bool.{and-true, or-false, or_assoc}
use mathlib.Core.List.{List, [], ◌∷◌, ◌++◌}
use Rattle.std.proofs.Math.Path.{refl, ap, ap₂, subst⁻¹}
use Rattle.std.proofs.Common.{sym, ◌∙◌, lit<}
use Rattle.std.specs.Prelude.{if◌then◌else◌}
use Rattle.basic_laws.specs.ChoiceLaws.{choice-then, choice-else, and_left, and_right}
use Rattle.basic_laws.specs.Bits.{bit_at, bits_of, number_of}
use Rattle.basic_laws.specs.BitsLaws.{bits-number}
use Rattle.commands.specs.Bytes.{shift_in}
use Rattle.commands.specs.BytesLaws.{shifted-cases, eight-in}
use Rattle.refusals.specs.Refusals.{accepted, mismatch, out_of_range}
use Rattle.search_laws.proofs.DepartureLaws.{bit-of-code}
use Rattle.temperature.specs.Range.{whole_in_range}
use Rattle.temperature.specs.declared.WholeDegrees.{WholeDegrees}
use Rattle.thermostat.specs.Commands.{write_status}
use Rattle.thermostat.specs.Finish.{above, below, measured, finished}
use Rattle.thermostat.specs.Record.{probe_with_stage}
use Rattle.thermostat.specs.Slot.{runs_after, stage_after, await_command, stored, heard_command, heard_byte}
use Rattle.thermostat.specs.Slot.{probe_slotted, probe_reset}
use Rattle.thermostat.specs.Status.{status_written}
use Rattle.thermostat.specs.declared.Finished.{Finished}
use Rattle.thermostat.specs.declared.Flags.{Flags}
use Rattle.thermostat.specs.declared.Kept.{Kept}
use Rattle.thermostat.specs.declared.ProbeStage.{ProbeStage}
use Rattle.thermostat.specs.declared.ProbeStage.TheVariants.{AwaitCommand, Take, Send, Quiet}
use Rattle.thermostat.specs.declared.Thermostat.{Thermostat}
use Rattle.thermostat.specs.declared.Writable.{Writable}
use Rattle.thermostat.specs.declared.Writable.TheVariants.{NewHigh, NewLow, NewStatus}
use Rattle.thermostat.specs.Calls.{changed_bits, changed_status}
use Rattle.thermostat.specs.Race.{Event, reset, slot, finish, happens, after_events, masters_own, offering}
use Rattle.thermostat.specs.Race.{read_events, write_events, status_seen, set_at, both_flags, set_in, kept_as_asked}
use Rattle.thermostat.specs.Race.{Raced, RaceClaim}
use Rattle.thermostat.specs.declared.rules.Asked.{Asked}
use Rattle.thermostat.specs.RaceLaws.{listening}

-- ## A probe outside thermostat mode, by its parts

abbrev still : Kept → ProbeStage → Thermostat
still k s = listening k s 0 (record { high = false; low = false }) false false

-- where the one stands and what it keeps is as of the other, and it listens
abbrev Follows : Thermostat → Thermostat → Type 0
Follows p q = (p.stage ≡ q.stage) × (p.kept ≡ q.kept) × (p.thermostat ≡ false)

-- ## A slot

abbrev spares : ProbeStage → Bool → Bool
spares (AwaitCommand s n) m = true
spares (Take NewHigh s n) m = true
spares (Take NewLow s n) m = true
spares (Take NewStatus s n) m = if eqb n 7 then bit_at (shift_in s m) 4 && bit_at (shift_in s m) 3 else true
spares (Send r j) m = true
spares Quiet m = true

module _ (k : Kept) (t : ℕ) (f : Flags) (o c : Bool) where
  abbrev at : ProbeStage → Thermostat
  at s = listening k s t f o c

  stored-follows : (s : ProbeStage) (w : Writable) (b : ℕ)
      → Follows (probe_with_stage (stored (at s) w b) Quiet) (probe_with_stage (stored (still k s) w b) Quiet)
  unfolding status_written
  stored-follows s NewHigh b = (refl, refl, refl)
  stored-follows s NewLow b = (refl, refl, refl)
  stored-follows s NewStatus b = (refl, refl, refl)

  slot_at : (s : ProbeStage) (m : Bool) → Follows (probe_slotted (at s) m).probe (probe_slotted (still k s) m).probe
  unfolding probe_slotted
  slot_at (AwaitCommand s n) m =
      shifted-cases s n m (λ x. Follows (heard_command (at (AwaitCommand s n)) x)
      (heard_command (still k (AwaitCommand s n)) x)) (refl, refl, refl) (λ z. (refl, refl, refl)) (refl, refl, refl)
  slot_at (Take w s n) m =
      shifted-cases s n m (λ x. Follows (heard_byte (at (Take w s n)) w x) (heard_byte (still k (Take w s n)) w x)) (
        refl,
        refl,
        refl,
      ) (λ z. stored-follows (Take w s n) w (shift_in s m)) (refl, refl, refl)
  slot_at (Send r j) m = (refl, refl, refl)
  slot_at Quiet m = (refl, refl, refl)

  status-spared : (s : ProbeStage) (b : ℕ) → (bit_at b 4 && bit_at b 3) ≡ true → (status_written (at s) b).flags ≡ f
  unfolding status_written
  status-spared s b h =
      let high = and_left (bit_at b 4) (bit_at b 3) h in let low = and_right (bit_at b 4) (bit_at b 3) h in
      rw (high, low, and-true f.high, and-true f.low)

  slot-spared : (s : ProbeStage) (m : Bool) → spares s m ≡ true → (probe_slotted (at s) m).probe.flags ≡ f
  unfolding probe_slotted
  slot-spared (AwaitCommand s n) m h = shifted-cases s n m (λ x. (heard_command (at (AwaitCommand s n)) x).flags
      ≡ f) refl (λ z. refl) refl
  slot-spared (Take NewHigh s n) m h = shifted-cases s n m (λ x. (heard_byte (at (Take NewHigh s n)) NewHigh x).flags
      ≡ f) refl (λ z. refl) refl
  slot-spared (Take NewLow s n) m h = shifted-cases s n m (λ x. (heard_byte (at (Take NewLow s n)) NewLow x).flags
      ≡ f) refl (λ z. refl) refl
  slot-spared (Take NewStatus s n) m h =
      shifted-cases s n m (λ x. (heard_byte (at (Take NewStatus s n)) NewStatus x).flags
      ≡ f) refl (λ z. status-spared (Take NewStatus s n) (shift_in s m) (rw z at h)) refl
  slot-spared (Send r j) m h = refl
  slot-spared Quiet m h = refl

-- ## A finish

-- what a finish leaves alone, and the flags that it sets
record Measured (p q : Thermostat) (f : Flags) : Type 0 where
  pub stage : q.stage ≡ p.stage
  pub kept : q.kept ≡ p.kept
  pub mode : q.thermostat ≡ p.thermostat
  pub flags : q.flags ≡ both_flags p.flags f

finish-keeps : (p : Thermostat) (t : WholeDegrees) → Measured p (finished p t).probe (set_at p t)
unfolding finished measured
finish-keeps p t = by_tests p.converting (whole_in_range t)
  where
    ended : Bool → Bool → Finished
    ended x y =
        if not x then record { refusal = mismatch; probe = p }
        else if not y then record { refusal = out_of_range; probe = p }
        else record { refusal = accepted; probe = measured p t }

    none : Measured p p (record { high = false; low = false })
    none = record {
      stage = refl;
      kept = refl;
      mode = refl;
      flags = rw (or-false p.flags.high, or-false p.flags.low);
    }

    by_tests : (x y : Bool)
        → let r = ended x y in
        let taken = eqb r.refusal accepted in
        Measured p r.probe (record {
          high = taken && above t p.kept.high;
          low = taken && below t p.kept.low;
        })
    by_tests false y = none
    by_tests true false = none
    by_tests true true = record { stage = refl; kept = refl; mode = refl; flags = refl }

-- ## The events, followed by what no finish changes

abbrev slot_of : Kept → ProbeStage → Bool → Thermostat
slot_of k s m = (probe_slotted (still k s) m).probe

unfoldable sparing : List Event → Kept → ProbeStage → Bool
sparing [] k s = true
sparing (reset ∷ es) k s = sparing es k await_command
sparing (slot m ∷ es) k s = spares s m && sparing es (slot_of k s m).kept (slot_of k s m).stage
sparing (finish t ∷ es) k s = sparing es k s

unfoldable kept_after : List Event → Kept → ProbeStage → Kept
kept_after [] k s = k
kept_after (reset ∷ es) k s = kept_after es k await_command
kept_after (slot m ∷ es) k s = kept_after es (slot_of k s m).kept (slot_of k s m).stage
kept_after (finish t ∷ es) k s = kept_after es k s

sparing-master : (es : List Event) (k : Kept) (s : ProbeStage) → sparing es k s ≡ sparing (masters_own es) k s
unfolding sparing masters_own
sparing-master [] k s = refl
sparing-master (reset ∷ es) k s = sparing-master es k await_command
sparing-master (slot m ∷ es) k s = ap (λ (b : Bool). spares s m
    && b) (sparing-master es (slot_of k s m).kept (slot_of k s m).stage)
sparing-master (finish t ∷ es) k s = sparing-master es k s

kept-master : (es : List Event) (k : Kept) (s : ProbeStage) → kept_after es k s ≡ kept_after (masters_own es) k s
unfolding kept_after masters_own
kept-master [] k s = refl
kept-master (reset ∷ es) k s = kept-master es k await_command
kept-master (slot m ∷ es) k s = kept-master es (slot_of k s m).kept (slot_of k s m).stage
kept-master (finish t ∷ es) k s = kept-master es k s

both-assoc : (f g h : Flags) → both_flags (both_flags f g) h ≡ both_flags f (both_flags g h)
both-assoc f g h = rw (or_assoc f.high g.high h.high, or_assoc f.low g.low h.low)

both-none : (f : Flags) → f ≡ both_flags f (record { high = false; low = false })
both-none f = rw (or-false f.high, or-false f.low)

-- ## Any probe that listens, by its parts

pub by_parts : (p : Thermostat) → p.thermostat ≡ false
    → p ≡ listening p.kept p.stage p.temperature p.flags p.output p.converting
by_parts p e = ap
    (λ (b : Bool). record {
      kept = p.kept;
      stage = p.stage;
      temperature = p.temperature;
      flags = p.flags;
      output = p.output;
      converting = p.converting;
      thermostat = b;
    }) e

slot-follows : (p : Thermostat) (m : Bool) → p.thermostat ≡ false
    → Follows (probe_slotted p m).probe (slot_of p.kept p.stage m)
slot-follows p m e =
    subst⁻¹ (λ (x : Thermostat). Follows (probe_slotted x m).probe (slot_of p.kept p.stage m)) (by_parts p e)
    (slot_at p.kept p.temperature p.flags p.output p.converting p.stage m)

slot-leaves : (p : Thermostat) (m : Bool) → p.thermostat ≡ false → spares p.stage m ≡ true
    → (probe_slotted p m).probe.flags ≡ p.flags
slot-leaves p m e h =
    subst⁻¹ (λ (x : Thermostat). (probe_slotted x m).probe.flags ≡ p.flags) (by_parts p e)
    (slot-spared p.kept p.temperature p.flags p.output p.converting p.stage m h)

reset-starts : (p : Thermostat) → p.thermostat ≡ false → (probe_reset p).probe ≡ probe_with_stage p await_command
unfolding probe_reset
reset-starts p e = rw e

-- ## A run on a probe that listens

record Ran (es : List Event) (p : Thermostat) : Type 0 where
  pub flags : (after_events es p).flags ≡ both_flags p.flags (set_in es p)
  pub kept : (after_events es p).kept ≡ kept_after es p.kept p.stage
  pub listens : (after_events es p).thermostat ≡ false

runs : (es : List Event) (p : Thermostat) → p.thermostat ≡ false → sparing es p.kept p.stage ≡ true → Ran es p
unfolding after_events set_in sparing kept_after
runs [] p e h = record { flags = both-none p.flags; kept = refl; listens = e }
runs (reset ∷ es) p e h =
    let r = runs es (probe_with_stage p await_command) e h in
    let started = reset-starts p e in
    record {
      flags = subst⁻¹ (λ (x : Thermostat). (after_events es x).flags
          ≡ both_flags p.flags (set_in es x)) started r.flags;
      kept = subst⁻¹ (λ (x : Thermostat). (after_events es x).kept
          ≡ kept_after es p.kept await_command) started r.kept;
      listens = subst⁻¹ (λ (x : Thermostat). (after_events es x).thermostat ≡ false) started r.listens;
    }
runs (slot m ∷ es) p e h =
    let q = (probe_slotted p m).probe in
    let follows = slot-follows p m e in
    let now = and_left (spares p.stage m) (sparing es (slot_of p.kept p.stage m).kept
    (slot_of p.kept p.stage m).stage) h in
    let later = and_right (spares p.stage m)
    (sparing es (slot_of p.kept p.stage m).kept (slot_of p.kept p.stage m).stage) h in
    let r = runs es q follows.2 (ap₂ (λ (k : Kept) (s : ProbeStage). sparing es k s) follows.1 follows.0
    ∙ later) in
    record {
      flags = r.flags ∙ ap (λ (f : Flags). both_flags f (set_in es q)) (slot-leaves p m e now);
      kept = r.kept ∙ ap₂ (λ (k : Kept) (s : ProbeStage). kept_after es k s) follows.1 follows.0;
      listens = r.listens;
    }
runs (finish t ∷ es) p e h =
    let q = (finished p t).probe in
    let m = finish-keeps p t in
    let r = runs es q (m.mode ∙ e) (ap₂ (λ (k : Kept) (s : ProbeStage). sparing es k s) m.kept m.stage ∙ h) in
    record {
      flags = r.flags ∙ ap (λ (f : Flags). both_flags f (set_in es q)) m.flags
          ∙ both-assoc p.flags (set_at p t) (set_in es q);
      kept = r.kept ∙ ap₂ (λ (k : Kept) (s : ProbeStage). kept_after es k s) m.kept m.stage;
      listens = r.listens;
    }

-- ## A run on a probe in thermostat mode, which hears nothing

record Unheard (es : List Event) (p : Thermostat) : Type 0 where
  pub flags : (after_events es p).flags ≡ both_flags p.flags (set_in es p)
  pub kept : (after_events es p).kept ≡ p.kept

pub reset-unheard : (p : Thermostat) → p.thermostat ≡ true → (probe_reset p).probe ≡ p
unfolding probe_reset
reset-unheard p e = rw e

slot-unheard : (p : Thermostat) (m : Bool) → p.thermostat ≡ true → (probe_slotted p m).probe ≡ p
unfolding probe_slotted
slot-unheard p m e = rw e

-- the rest of a run, where its first event is not heard
unheard-first : (es : List Event) (p q : Thermostat) → q ≡ p → Unheard es p
    → ((after_events es q).flags ≡ both_flags p.flags (set_in es q)) × ((after_events es q).kept ≡ p.kept)
unheard-first es p q same r = subst⁻¹ (λ (x : Thermostat). ((after_events es x).flags ≡ both_flags p.flags (set_in es x))
    × ((after_events es x).kept ≡ p.kept)) same (r.flags, r.kept)

runs-unheard : (es : List Event) (p : Thermostat) → p.thermostat ≡ true → Unheard es p
unfolding after_events set_in
runs-unheard [] p e = record { flags = both-none p.flags; kept = refl }
runs-unheard (reset ∷ es) p e =
    let r = unheard-first es p (probe_reset p).probe (reset-unheard p e) (runs-unheard es p e) in
    record { flags = r.0; kept = r.1 }
runs-unheard (slot m ∷ es) p e =
    let r = unheard-first es p (probe_slotted p m).probe (slot-unheard p m e) (runs-unheard es p e) in
    record { flags = r.0; kept = r.1 }
runs-unheard (finish t ∷ es) p e =
    let q = (finished p t).probe in
    let m = finish-keeps p t in
    let r = runs-unheard es q (m.mode ∙ e) in
    record {
      flags = r.flags ∙ ap (λ (f : Flags). both_flags f (set_in es q)) m.flags
          ∙ both-assoc p.flags (set_at p t) (set_in es q);
      kept = r.kept ∙ m.kept;
    }

-- ## The two calls spare the flags

spared-reading : (k : Kept) (s : ProbeStage) → sparing read_events k s ≡ true
unfolding sparing bits_of probe_slotted runs_after stage_after
spared-reading k s = refl

kept-reading : (k : Kept) (s : ProbeStage) → kept_after read_events k s ≡ k
unfolding kept_after bits_of probe_slotted runs_after stage_after
kept-reading k s = refl

-- the second call, by the eight bits of its byte
module _ (l m n o p q r t : Bool) where
  abbrev byte_bits : List Bool
  byte_bits = l ∷ m ∷ n ∷ o ∷ p ∷ q ∷ r ∷ t ∷ []

  abbrev written : List Event
  written = reset ∷ offering (bits_of 8 write_status ++ byte_bits)

  sparing-written : (k : Kept) (s : ProbeStage)
      → sparing written k s ≡ (bit_at (number_of byte_bits) 4 && bit_at (number_of byte_bits) 3 && true)
  unfolding sparing bits_of probe_slotted runs_after stage_after
  sparing-written k s = ap (λ (b : ℕ). bit_at b 4 && bit_at b 3 && true) (eight-in l m n o p q r t)

  kept-written : (k : Kept) (s : ProbeStage) → kept_after written k s
      ≡ record {
        high = k.high;
        low = k.low;
        mode = bit_at (number_of byte_bits) 2;
        polarity = bit_at (number_of byte_bits) 1;
        oneshot = bit_at (number_of byte_bits) 0;
      }
  unfolding kept_after bits_of probe_slotted runs_after stage_after status_written
  kept-written k s =
      ap (λ (b : ℕ). record {
        high = k.high;
        low = k.low;
        mode = bit_at b 2;
        polarity = bit_at b 1;
        oneshot = bit_at b 0;
      }) (eight-in l m n o p q r t)

module _ (b : ℕ) (a : Asked) where
  -- the byte of the second call has a 1 for both flags, and the bits that are asked
  pub ones-for-flags : (bit_at (changed_status b a) 4 ≡ true) × (bit_at (changed_status b a) 3 ≡ true)
  unfolding changed_status
  ones-for-flags = (bit-of-code (changed_bits b a) 4 (lit< tt), bit-of-code (changed_bits b a) 3 (lit< tt))

  bits-asked : (bit_at (changed_status b a) 2 ≡ a.mode) × (bit_at (changed_status b a) 1 ≡ a.polarity)
      × (bit_at (changed_status b a) 0 ≡ a.oneshot)
  unfolding changed_status
  bits-asked = (
    bit-of-code (changed_bits b a) 2 (lit< tt),
    bit-of-code (changed_bits b a) 1 (lit< tt),
    bit-of-code (changed_bits b a) 0 (lit< tt),
  )

  abbrev bit : ℕ → Bool
  bit i = get_or (changed_bits b a) i false

  by_bits : write_events (changed_status b a) ≡ written (bit 0) (bit 1) (bit 2) (bit 3) (bit 4) (bit 5) (bit 6) (bit 7)
  unfolding changed_status
  by_bits = ap (λ (bits : List Bool). reset ∷ offering (bits_of 8 write_status ++ bits)) (bits-number (changed_bits b a))

  spared-writing : (k : Kept) (s : ProbeStage) → sparing (write_events (changed_status b a)) k s ≡ true
  unfolding changed_status
  spared-writing k s =
      ap (λ (es : List Event). sparing es k s) by_bits
      ∙ sparing-written (bit 0) (bit 1) (bit 2) (bit 3) (bit 4) (bit 5) (bit 6) (bit 7) k s
      ∙ ap₂ (λ (x y : Bool). x && y && true) ones-for-flags.0 ones-for-flags.1

  kept-writing : (k : Kept) (s : ProbeStage) → kept_after (write_events (changed_status b a)) k s ≡ kept_as_asked k a
  unfolding changed_status
  kept-writing k s =
      ap (λ (es : List Event). kept_after es k s) by_bits
      ∙ kept-written (bit 0) (bit 1) (bit 2) (bit 3) (bit 4) (bit 5) (bit 6) (bit 7) k s
      ∙ rw (bits-asked.0, bits-asked.1, bits-asked.2)

-- ## Runs one after another

after-append : (xs ys : List Event) (p : Thermostat) → after_events (xs ++ ys) p ≡ after_events ys (after_events xs p)
unfolding after_events
after-append [] ys p = refl
after-append (x ∷ xs) ys p = after-append xs ys (happens p x)

none_both : (f : Flags) → both_flags (record { high = false; low = false }) f ≡ f
none_both f = refl

set-append : (xs ys : List Event) (p : Thermostat)
    → set_in (xs ++ ys) p ≡ both_flags (set_in xs p) (set_in ys (after_events xs p))
unfolding after_events set_in
set-append [] ys p = sym (none_both (set_in ys p))
set-append (reset ∷ xs) ys p = set-append xs ys (probe_reset p).probe
set-append (slot m ∷ xs) ys p = set-append xs ys (probe_slotted p m).probe
set-append (finish t ∷ xs) ys p =
    let q = (finished p t).probe in
    ap (λ (f : Flags). both_flags (set_at p t) f) (set-append xs ys q)
    ∙ sym (both-assoc (set_at p t) (set_in xs q) (set_in ys (after_events xs q)))

-- ## The claim

module _ (p : Thermostat) (a : Asked) (reading writing : List Event) (r : masters_own reading
    ≡ read_events) (w : masters_own writing ≡ write_events (changed_status (status_seen reading p) a)) where
  raced-unheard : p.thermostat ≡ true → Raced p a (reading ++ writing)
  raced-unheard e =
      let all = runs-unheard (reading ++ writing) p e in
      record {
        flags = all.flags;
        asked = all.kept
            ∙ choice-then p.thermostat p.kept (kept_as_asked p.kept a) e;
      }

  raced-heard : p.thermostat ≡ false → Raced p a (reading ++ writing)
  raced-heard e =
      let q = after_events reading p in
      let first = runs reading p e (sparing-master reading p.kept p.stage
      ∙ ap (λ (es : List Event). sparing es p.kept p.stage) r ∙ spared-reading p.kept p.stage) in
      let second = runs writing q first.listens (sparing-master writing q.kept q.stage
      ∙ ap (λ (es : List Event). sparing es q.kept q.stage) w
      ∙ spared-writing (status_seen reading p) a q.kept q.stage) in
      let once : q.kept ≡ p.kept = first.kept ∙ kept-master reading p.kept p.stage
      ∙ ap (λ (es : List Event). kept_after es p.kept p.stage) r ∙ kept-reading p.kept p.stage in
      let twice : (after_events writing q).kept ≡ kept_as_asked q.kept a
      = second.kept ∙ kept-master writing q.kept q.stage
      ∙ ap (λ (es : List Event). kept_after es q.kept q.stage) w
      ∙ kept-writing (status_seen reading p) a q.kept q.stage in
      record {
        flags = ap (λ (x : Thermostat). x.flags) (after-append reading writing p) ∙ second.flags
            ∙ ap (λ (f : Flags). both_flags f (set_in writing q)) first.flags
            ∙ both-assoc p.flags (set_in reading p) (set_in writing q)
            ∙ ap (λ (f : Flags). both_flags p.flags f) (sym (set-append reading writing p));
        asked = ap (λ (x : Thermostat). x.kept) (after-append reading writing p) ∙ twice
            ∙ ap (λ (k : Kept). kept_as_asked k a) once
            ∙ choice-else p.thermostat p.kept (kept_as_asked p.kept a) e;
      }

pub race : RaceClaim
race p a reading writing r w = by_mode p.thermostat refl
  where
    by_mode : (t : Bool) → p.thermostat ≡ t → Raced p a (reading ++ writing)
    by_mode true e = raced-unheard p a reading writing r w e
    by_mode false e = raced-heard p a reading writing r w e
