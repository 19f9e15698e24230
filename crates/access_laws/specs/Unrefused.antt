-- The resets and slots of a read and of a write at a code (the scope, "The master"), and the claim that none of them is
-- refused once the call has been admitted.
--     read_bits code              the master's bits of a read: 55h, the code, BEh, and 72 read slots
--     write_bits row code s       those of a write before its read-back: 55h, the code, 4Eh, and the settings
--     read_passes, write_passes    each reset with the bits after it; with nobody on the wire the reset alone
--     Unrefused passes b a       the answer's bench is where these resets and slots leave it, by the slot rule, and
--                                none of them is refused
use Rattle.std.specs.Prelude.{ℕ, Bool, List, [], ◌∷◌, ◌++◌, ◌≡◌}
use Rattle.std.specs.Prelude.{if◌then◌else◌}
use Rattle.basic_laws.specs.Bits.{bits_of}
use Rattle.commands.specs.Commands.{match_rom, read_scratchpad, write_scratchpad}
use Rattle.refusals.specs.Refusals.{accepted}
use Rattle.family.specs.Families.{properties_of}
use Rattle.family.specs.declared.Properties.{Properties}
use Rattle.rom.specs.Code.{family_of, code_bits}
use Rattle.device.specs.declared.Settings.{Settings}
use Rattle.bench.specs.Slot.{presence_of}
use Rattle.bench.specs.declared.Bench.{Bench}
use Rattle.search_laws.specs.Reads.{read_slots}
use Rattle.master_rules.specs.declared.Access.{Access}
use Rattle.master_rules.specs.Access.{admission, read_at, write_at}
use Rattle.master_rules.specs.Issued.{issued, Granted}

-- 55h, the code, and a function command
abbrev pub address_bits : ℕ → ℕ → List Bool
address_bits code command = bits_of 8 match_rom ++ (code_bits code ++ bits_of 8 command)

abbrev pub read_bits : ℕ → List Bool
read_bits code = address_bits code read_scratchpad ++ read_slots 72

-- high limit, low limit and, where the family has one, configuration
abbrev pub settings_bits : Properties → Settings → List Bool
settings_bits row s = bits_of 8 s.high ++ (bits_of 8 s.low
    ++ (if row.configurable then bits_of 8 s.configuration else []))

abbrev pub write_bits : Properties → ℕ → Settings → List Bool
write_bits row code s = address_bits code write_scratchpad ++ settings_bits row s

abbrev pub read_passes : Bench → ℕ → List (List Bool)
read_passes b code = if presence_of b then read_bits code ∷ [] else [] ∷ []

abbrev pub write_passes : Bench → ℕ → Settings → List (List Bool)
write_passes b code s = if presence_of b then write_bits (properties_of (family_of code)) code s ∷ read_bits code ∷ []
    else [] ∷ []

pub record Unrefused (passes : List (List Bool)) (b : Bench) (a : Access) : Type 0 where
  pub bench-is : a.bench ≡ (issued passes b).bench
  pub granted : Granted passes b

-- for every bench and every code that the tests before the reset admit
abbrev pub ReadClaim : Type 0
ReadClaim = (b : Bench) (code : ℕ) → admission b code ≡ accepted → Unrefused (read_passes b code) b (read_at b code)

abbrev pub WriteClaim : Type 0
WriteClaim = (b : Bench) (code : ℕ) (s : Settings) → admission b code ≡ accepted
    → Unrefused (write_passes b code s) b (write_at b code s)
