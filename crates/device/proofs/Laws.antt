-- What can change what in a device (the scope, "One slot"). A slot never touches code, power, EEPROM, alarm flag or
-- page; power, the end of a conversion and the end of a copy each change what they are for.
--     hear-..                   what a slot keeps at every stage
--     only_moves s               whether a slot in stage s moves nothing but the stage: law `hear-only-stage`
--     AtLastBit d               the next slot of d ends a function command: the only one that can make it busy, law
--                               `hear-starts`
--     quiet-..                  a quiet device stays as it is and leaves the line alone
--     Fresh code power d        d as power finds it: laws `power-up-fresh` and `joined-fresh`
--     conversion-.., copy-..    what these keep, and what the attempt to end them comes to
use Rattle.std.specs.Prelude.{ℕ, ◌≡◌, refl, ◌≢◌, Bool, true, false, List}
use Rattle.std.proofs.Common.{sym, ◌∙◌, arith}
use Rattle.std.proofs.lemmas.Bool.{false≢true}
use Rattle.std.specs.Prelude.{if◌then◌else◌}
use Rattle.refusals.specs.Refusals.{accepted, out_of_range, mismatch}
use Rattle.temperature.specs.Range.{in_range}
use Rattle.temperature.specs.declared.Reading.TheVariants.{InSixteenths}
use Rattle.commands.specs.BytesLaws.{shifted-cases}
use Rattle.temperature.specs.declared.Sixteenths.{Sixteenths}
use Rattle.device.specs.declared.Activity.{Activity}
use Rattle.device.specs.declared.Activity.TheVariants.{Idle, Converting, Copying}
use Rattle.device.specs.declared.Device.{Device}
use Rattle.device.specs.declared.Ended.{Ended}
use Rattle.device.specs.declared.Joining.{Joining}
use Rattle.device.specs.declared.Settings.{Settings}
use Rattle.device.specs.declared.Stage.{Stage}
use Rattle.device.specs.declared.Stage.TheVariants.{AwaitRom, SendRom, Match, Search, AwaitFunction}
use Rattle.device.specs.declared.Stage.TheVariants.{TakeSettings, SendScratchpad, SendStatus, SendPower, Quiet}
use Rattle.device.specs.Record.{with_stage, with_activity, with_scratchpad, with_eeprom, busy}
use Rattle.device.specs.Offer.{offer_of}
use Rattle.device.specs.Hear.{hear_rom, hear_at, hear_of}
use Rattle.device.specs.Power.{power_up, joined}
use Rattle.device.specs.Finish.{conversion_done, copy_done, ended, not_ended, conversion_ended_in, conversion_ended}
use Rattle.device.specs.Finish.{copy_ended_in, copy_ended}
use Rattle.device.proofs.Outcomes.{hear-outcome}
use Rattle.device.specs.Laws.{AtLastBit, Fresh, only_moves}

-- ## A slot

-- whatever depends on neither stage, activity nor scratchpad
hear-keeps : {A : Type 0} (f : Device → A) → ((d : Device) (s : Stage) → f (with_stage d s) ≡ f d)
    → ((d : Device) (a : Activity) → f (with_activity d a) ≡ f d)
    → ((d : Device) (p : List ℕ) → f (with_scratchpad d p) ≡ f d) → (d : Device) (l : Bool) → f (hear_of d l) ≡ f d
hear-keeps f by-stage by-activity by-scratchpad d l = hear-outcome d l (λ e. f e ≡ f d)
    (record {
      moved = λ s. by-stage d s;
      converts = λ s e i. by-stage _ _ ∙ by-activity d _;
      copies = λ s e i. by-stage _ _ ∙ by-activity d _;
      recalls = λ s e i. by-stage _ _ ∙ by-scratchpad d _;
      setting-stored = λ k s e h n. by-stage _ _ ∙ by-scratchpad d _;
    })

pub hear-code : (d : Device) (l : Bool) → (hear_of d l).code ≡ d.code
hear-code = hear-keeps (λ d. d.code) (λ d s. refl) (λ d a. refl) (λ d p. refl)

pub hear-power : (d : Device) (l : Bool) → (hear_of d l).power ≡ d.power
hear-power = hear-keeps (λ d. d.power) (λ d s. refl) (λ d a. refl) (λ d p. refl)

pub hear-eeprom : (d : Device) (l : Bool) → (hear_of d l).eeprom ≡ d.eeprom
hear-eeprom = hear-keeps (λ d. d.eeprom) (λ d s. refl) (λ d a. refl) (λ d p. refl)

pub hear-alarm : (d : Device) (l : Bool) → (hear_of d l).alarm ≡ d.alarm
hear-alarm = hear-keeps (λ d. d.alarm) (λ d s. refl) (λ d a. refl) (λ d p. refl)

pub hear-page : (d : Device) (l : Bool) → (hear_of d l).page ≡ d.page
hear-page = hear-keeps (λ d. d.page) (λ d s. refl) (λ d a. refl) (λ d p. refl)

-- A busy device goes on with what it does; only the end of that, or power, stops it.
pub hear-busy : (d : Device) (l : Bool) → busy d ≡ true → (hear_of d l).activity ≡ d.activity
hear-busy d l h = hear-outcome d l (λ e. e.activity ≡ d.activity)
    (record {
      moved = λ s. refl;
      converts = λ s e i. absurd (false≢true (sym i ∙ h));
      copies = λ s e i. absurd (false≢true (sym i ∙ h));
      recalls = λ s e i. refl;
      setting-stored = λ k s e i n. refl;
    })

pub hear-starts : (d : Device) (l : Bool) → busy d ≡ false → busy (hear_of d l) ≡ true → AtLastBit d
hear-starts d l h = hear-outcome d l (λ e. busy e ≡ true → AtLastBit d)
    (record {
      moved = λ s b. absurd (false≢true (sym h ∙ b));
      converts = λ s e i b. record { shift = s; stage_is = e };
      copies = λ s e i b. record { shift = s; stage_is = e };
      recalls = λ s e i b. record { shift = s; stage_is = e };
      setting-stored = λ k s e i n b. absurd (false≢true (sym h ∙ b));
    })

pub hear-only-stage : (d : Device) (l : Bool) → only_moves d.stage ≡ true
    → hear_of d l ≡ with_stage d (hear_of d l).stage
unfolding hear_of
hear-only-stage d l h = at_stage d.stage h
  where
    at_stage : (s : Stage) → only_moves s ≡ true → hear_at d l s ≡ with_stage d (hear_at d l s).stage
    at_stage (AwaitRom s n) e = shifted-cases s n l (λ x. hear_rom d x
        ≡ with_stage d (hear_rom d x).stage) refl (λ f. refl) refl
    at_stage (SendRom i) e = refl
    at_stage (Match i) e = refl
    at_stage (Search i p) e = refl
    at_stage (AwaitFunction s n) e = absurd (false≢true e)
    at_stage (TakeSettings k s n) e = absurd (false≢true e)
    at_stage (SendScratchpad k j) e = refl
    at_stage SendStatus e = refl
    at_stage SendPower e = refl
    at_stage Quiet e = refl

-- ## A quiet device

pub quiet-stays : (d : Device) (l : Bool) → d.stage ≡ Quiet → hear_of d l ≡ d
unfolding hear_of
quiet-stays d l h = rw h

pub quiet-offers : (d : Device) → d.stage ≡ Quiet → offer_of d ≡ true
quiet-offers d h = rw h

pub power-up-fresh : (d : Device) → Fresh d.code d.power (power_up d)
unfolding power_up
power-up-fresh d = record {
  code_is = refl;
  power-is = refl;
  quiet = refl;
  idle = refl;
  flag-clear = refl;
  page-empty = refl;
}

pub power-up-eeprom : (d : Device) → (power_up d).eeprom ≡ d.eeprom
unfolding power_up
power-up-eeprom d = refl

pub joined-fresh : (new : Joining) → Fresh new.code new.power (joined new)
unfolding joined
joined-fresh new = record {
  code_is = refl;
  power-is = refl;
  quiet = refl;
  idle = refl;
  flag-clear = refl;
  page-empty = refl;
}

-- ## The end of a conversion

pub conversion-code : (d : Device) (count : Sixteenths) → (conversion_done d count).code ≡ d.code
unfolding conversion_done
conversion-code d count = refl

-- ## The end of a copy: the settings are in EEPROM, the device is idle, and nothing else changes

pub copy-only : (d : Device) (s : Settings) → copy_done d s ≡ with_eeprom (with_activity d Idle) s
unfolding copy_done
copy-only d s = refl

-- ## An attempt to end them: what holds of every refusal and of the end holds of the attempt

pub conversion-ended-cases : (d : Device) (count : Sixteenths) (P : Ended → Type 0)
    → ((n : ℕ) → n ≢ accepted → P (not_ended n d))
    → (in_range (InSixteenths count) ≡ true → P (ended (conversion_done d count))) → P (conversion_ended d count)
unfolding conversion_ended
conversion-ended-cases d count P refusal done = in-activity d.activity
  where
    by-range : (t : Bool) → in_range (InSixteenths count) ≡ t
        → P (if t then ended (conversion_done d count) else not_ended out_of_range d)
    by-range true r = done r
    by-range false r = refusal out_of_range (λ z. omega arith)

    in-activity : (a : Activity) → P (conversion_ended_in d count a)
    in-activity Idle = refusal mismatch (λ z. omega arith)
    in-activity Converting = by-range (in_range (InSixteenths count)) refl
    in-activity (Copying s) = refusal mismatch (λ z. omega arith)

pub copy-ended-cases : (d : Device) (P : Ended → Type 0) → ((n : ℕ) → n ≢ accepted → P (not_ended n d))
    → ((s : Settings) → d.activity ≡ Copying s → P (ended (copy_done d s))) → P (copy_ended d)
unfolding copy_ended
copy-ended-cases d P refusal done = in-activity d.activity refl
  where
    in-activity : (a : Activity) → d.activity ≡ a → P (copy_ended_in d a)
    in-activity Idle e = refusal mismatch (λ z. omega arith)
    in-activity Converting e = refusal mismatch (λ z. omega arith)
    in-activity (Copying s) e = done s e
