-- What holds of every device that joins, which it does with pins that it can have, and what nothing that can happen to
-- a device takes from it, holds of each device of the bench after every history: `lasts_after`.
use Rattle.std.specs.Prelude.{Bool, false, ◌≡◌}
use mathlib.Core.List.{List, [], ◌∷◌}
use Rattle.basic_laws.specs.Each.{Each}
use Rattle.basic_laws.specs.EachLaws.{each_snoc}
use Rattle.basic_laws.specs.Fold.{fold}
use Rattle.commands.specs.Commands.{search_rom, alarm_search}
use Rattle.family.specs.Families.{pins_wrong}
use Rattle.device.specs.Power.{joined}
use Rattle.device.specs.Record.{family_row}
use Rattle.device.specs.declared.Device.{Device}
use Rattle.device.specs.declared.Joining.{Joining}
use Rattle.bench.specs.Bench.{live}
use Rattle.bench.specs.Slot.{line_bit, slotted, reset_done}
use Rattle.bench.specs.declared.Bench.{Bench}
use Rattle.bench.specs.Everywhere.{Invariant}
use Rattle.bench.proofs.Everywhere.{heard-each, restarted-each, conversion-each, copy-each, cycle-each}
use Rattle.bench.proofs.Laws.{slot_cases, reset-cases, added-cases}
use Rattle.bench.specs.Sound.{BenchSound}
use Rattle.bench.proofs.SoundLaws.{empty-sound, slotted-sound, reset-done-sound, added-sound, conversion-finished-sound}
use Rattle.bench.proofs.SoundLaws.{copy-finished-sound, power-cycled-sound}
use Rattle.history_laws.specs.History.{Call, add, reset, slot, finish_conversion, finish_copy, power_cycle, search}
use Rattle.history_laws.specs.History.{search_alarms, read, write, read_pins, Typed, apply, Ledger, step, start, ledger}
use Rattle.history_laws.specs.History.{after}
use Rattle.history_laws.specs.Kept.{read_keeps, write_keeps, outcome-keeps, pins-keep}

module _ (P : Device → Type 0) (I : Invariant P) (joins : (new : Joining) → Typed (add new)
    → pins_wrong (family_row new.code) new.pins ≡ false → P (joined new)) where
  record Lasts (b : Bench) : Type 0 where
    pub sound : BenchSound b
    pub each : Each P (live b)

  by-slot : (m : Bool) (b : Bench) → Lasts b → Lasts (slotted b m).bench
  by-slot m b r = record {
    sound = slotted-sound b m r.sound;
    each = slot_cases b m (λ s. Each P (live s.bench)) (λ f. heard-each P I b r.each (line_bit b m))
        (λ f. r.each);
  }

  by-reset : (b : Bench) → Lasts b → Lasts (reset_done b).bench
  by-reset b r = record {
    sound = reset-done-sound b r.sound;
    each = reset-cases b (λ s. Each P (live s.bench)) (λ f. restarted-each P I b r.each) (λ f. r.each);
  }

  by_call : (b : Bench) (c : Call) → Typed c → Lasts b → Lasts (apply b c)
  by_call b (add new) t r = record {
    sound = added-sound b new r.sound;
    each =
        added-cases b new (λ c. Each P (live c.bench)) r.sound.places (λ n z. r.each) (λ after a.
        rw a.live-is (each_snoc P (live b) (joined new) r.each (joins new t a.pins-right)));
  }
  by_call b reset t r = by-reset b r
  by_call b (slot m) t r = by-slot m b r
  by_call b (finish_conversion code n) t r = record {
    sound = conversion-finished-sound b code n r.sound;
    each = conversion-each P I b r.each code n;
  }
  by_call b (finish_copy code) t r = record {
    sound = copy-finished-sound b code r.sound;
    each = copy-each P I b r.each code;
  }
  by_call b (power_cycle code) t r = record {
    sound = power-cycled-sound b code r.sound;
    each = cycle-each P I b r.each code;
  }
  by_call b (search places room) t r = outcome-keeps Lasts by-slot by-reset search_rom b places room r
  by_call b (search_alarms places room) t r = outcome-keeps Lasts by-slot by-reset alarm_search b places room r
  by_call b (read code) t r = read_keeps Lasts by-slot by-reset code b r
  by_call b (write code s) t r = write_keeps Lasts by-slot by-reset code s b r
  by_call b (read_pins places) t r = pins-keep Lasts by-slot by-reset b places r

  lasts-from : (h : List Call) (l : Ledger) → Each Typed h → Lasts l.bench → Lasts (fold step l h).bench
  unfolding fold
  lasts-from [] l t r = r
  lasts-from (c ∷ h) l t r = lasts-from h (step l c) t.1 (by_call l.bench c t.0 r)

  pub lasts_after : (h : List Call) → Each Typed h → Each P (live (after h))
  unfolding ledger
  lasts_after h t = (lasts-from h start t (record { sound = empty-sound; each = tt })).each
