-- What a device becomes when the line has shown a bit (the scope, "One slot"). It takes the line's bit, whatever the
-- master offered; a stage that only sends does not look at it. A place that no sequence of slots reaches goes quiet.
--     after_bit at i              the stage after bit i of the code: at the next one, or after the last awaiting a
--                                function command
--     rom_command alarm c         the stage after ROM command c; a device without the alarm flag is quiet at an alarm
--                                search
--     copying d, recalled d      the device after 48h and after B8h, but for its stage
--     function_command d c        the device after function command c
--     store_setting d k b         the device with byte b stored as its setting k, and what follows
--     hear_rom, hear_function, hear_settings d taken
--                                the device that awaits a ROM command, a function command or a byte of 4Eh, by what
--                                it holds of the byte
--     hear_of d l                 the device after a slot in which the line showed l
use Rattle.std.specs.Prelude.{ℕ, ◌+◌, Bool, not, ◌&&◌, ltb, eqb, set}
use Rattle.std.specs.Bool.{beq}
use Rattle.std.specs.Prelude.{if◌then◌else◌}
use Rattle.basic_laws.specs.Bits.{bit_at}
use Rattle.commands.specs.Bytes.{shifted}
use Rattle.commands.specs.Commands.{read_rom, match_rom, skip_rom, search_rom, alarm_search, convert, write_scratchpad}
use Rattle.commands.specs.Commands.{read_scratchpad, copy_scratchpad, recall_eeprom, read_power}
use Rattle.family.specs.Layout.{high_limit_place}
use Rattle.commands.specs.declared.Shifted.{Shifted}
use Rattle.commands.specs.declared.Shifted.TheVariants.{Partial, Whole, Beyond}
use Rattle.device.specs.declared.Activity.TheVariants.{Converting, Copying}
use Rattle.device.specs.declared.Device.{Device}
use Rattle.device.specs.declared.Phase.{Phase}
use Rattle.device.specs.declared.Phase.TheVariants.{SendBit, SendComplement, TakeBit}
use Rattle.device.specs.declared.Stage.{Stage}
use Rattle.device.specs.declared.Stage.TheVariants.{AwaitRom, SendRom, Match, Search, AwaitFunction}
use Rattle.device.specs.declared.Stage.TheVariants.{TakeSettings, SendScratchpad, SendStatus, SendPower, Quiet}
use Rattle.device.specs.Record.{with_stage, with_activity, with_scratchpad, row_of, busy}
use Rattle.device.specs.Settings.{settings_in, with_settings, settings_count, setting_byte}

-- ## Bits of the code and of the scratchpad

abbrev pub await_rom : Stage
await_rom = AwaitRom 0 0

abbrev pub await_function : Stage
await_function = AwaitFunction 0 0

abbrev pub after_bit : (ℕ → Stage) → ℕ → Stage
after_bit at i = if ltb i 63 then at (i + 1) else if eqb i 63 then await_function else Quiet

-- 33h: all devices send together, and nobody backs off
abbrev pub after_send_rom : ℕ → Stage
after_send_rom i = after_bit SendRom i

-- 55h: quiet at the first bit that differs
abbrev pub after_match : ℕ → ℕ → Bool → Stage
after_match code i l = if beq (bit_at code i) l then after_bit Match i else Quiet

-- F0h and ECh: the bit, its complement, then quiet if the bit taken differs
abbrev pub after_search : ℕ → ℕ → Phase → Bool → Stage
after_search code i SendBit l = Search i SendComplement
after_search code i SendComplement l = Search i TakeBit
after_search code i TakeBit l = if beq (bit_at code i) l then after_bit (λ j. Search j SendBit) i else Quiet

-- BEh: nine bytes of eight bits, then quiet
abbrev pub after_scratchpad : ℕ → ℕ → Stage
after_scratchpad k j =
    if not (ltb k 9 && ltb j 8) then Quiet
    else if ltb j 7 then SendScratchpad k (j + 1)
    else if ltb k 8 then SendScratchpad (k + 1) 0
    else Quiet

-- ## ROM commands

abbrev pub rom_command : Bool → ℕ → Stage
rom_command alarm c =
    if eqb c read_rom then SendRom 0
    else if eqb c match_rom then Match 0
    else if eqb c skip_rom then await_function
    else if eqb c search_rom then Search 0 SendBit
    else if eqb c alarm_search then (if alarm then Search 0 SendBit else Quiet)
    else Quiet

-- a command is acted on at its eighth bit
abbrev pub hear_rom : Device → Shifted → Device
hear_rom d (Partial s n) = with_stage d (AwaitRom s n)
hear_rom d (Whole c) = with_stage d (rom_command d.alarm c)
hear_rom d Beyond = with_stage d Quiet

-- ## Function commands

-- 48h: the settings as they stand are on their way to EEPROM
abbrev pub copying : Device → Device
copying d = with_activity d (Copying (settings_in (row_of d.code d.pins) d.scratchpad))

-- B8h: the settings of EEPROM are back in the scratchpad
abbrev pub recalled : Device → Device
recalled d = with_scratchpad d (with_settings (row_of d.code d.pins) d.scratchpad d.eeprom)

-- a device that is not busy obeys them all
unfoldable pub idle_command : Device → ℕ → Device
idle_command d c =
    if eqb c convert then with_stage (with_activity d Converting) SendStatus
    else if eqb c write_scratchpad then with_stage d (TakeSettings 0 0 0)
    else if eqb c copy_scratchpad then with_stage (copying d) SendStatus
    else if eqb c recall_eeprom then with_stage (recalled d) Quiet
    else with_stage d Quiet

-- a busy one obeys BEh and B4h, and is quiet at the rest
unfoldable pub function_command : Device → ℕ → Device
function_command d c =
    if eqb c read_scratchpad then with_stage d (SendScratchpad 0 0)
    else if eqb c read_power then with_stage d SendPower
    else if busy d then with_stage d Quiet
    else idle_command d c

abbrev pub hear_function : Device → Shifted → Device
hear_function d (Partial s n) = with_stage d (AwaitFunction s n)
hear_function d (Whole c) = function_command d c
hear_function d Beyond = with_stage d Quiet

-- ## 4Eh: high limit, low limit and, where the family has one, configuration

-- a whole byte is stored as its last bit arrives; after the last byte the device is quiet
unfoldable pub store_setting : Device → ℕ → ℕ → Device
store_setting d k b =
    if ltb k (settings_count (row_of d.code d.pins))
    then with_stage (with_scratchpad d (set d.scratchpad (high_limit_place + k)
    (setting_byte (row_of d.code d.pins) k b)))
    (if ltb (k + 1) (settings_count (row_of d.code d.pins)) then TakeSettings (k + 1) 0 0 else Quiet)
    else with_stage d Quiet

abbrev pub hear_settings : Device → ℕ → Shifted → Device
hear_settings d k (Partial s n) = with_stage d (TakeSettings k s n)
hear_settings d k (Whole b) = store_setting d k b
hear_settings d k Beyond = with_stage d Quiet

-- ## The slot rule

abbrev pub hear_at : Device → Bool → Stage → Device
hear_at d l (AwaitRom s n) = hear_rom d (shifted s n l)
hear_at d l (SendRom i) = with_stage d (after_send_rom i)
hear_at d l (Match i) = with_stage d (after_match d.code i l)
hear_at d l (Search i p) = with_stage d (after_search d.code i p l)
hear_at d l (AwaitFunction s n) = hear_function d (shifted s n l)
hear_at d l (TakeSettings k s n) = hear_settings d k (shifted s n l)
hear_at d l (SendScratchpad k j) = with_stage d (after_scratchpad k j)
hear_at d l SendStatus = d
hear_at d l SendPower = d
hear_at d l Quiet = d

unfoldable pub hear_of : Device → Bool → Device
hear_of d l = hear_at d l d.stage
