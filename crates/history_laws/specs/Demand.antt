-- Demand 3, "a search misses nobody", as one statement about every history: what search and alarm search come to on the
-- bench that any sequence of calls leaves, where no line-powered device is busy, the list has at least 32 places and
-- the recording at least 1,824 bytes.
--     alarms h               the added codes whose page has the verdict, the scope's k devices
--     pass_of command code    the master's bits in a pass that lists a code: the command, then 1, 1 and the bit for each
--                            bit of the code
--     Makes passes b o       the search makes just these resets and slots: its frames and its bench are theirs, and
--                            none is refused
--     Told o c p s y         the numbers that the caller gets: codes, passes, slots, bytes
--     Lonely b o             with no device: one reset without presence, nothing listed, no pass, no slot
--     Unanswered c b o       with devices but nobody to list: one pass of the command and two reads, nothing listed
--     Listing c codes b o    the codes, each once and no other, ordered by the lowest bit in which two differ, 0 first;
--                            one pass for each
--     Comes c n k b o        whichever of the three applies: n the codes on the bench, k those to list
--     Demand3 h p r          the statement, for a history h, a list of p places and a recording of r bytes
use Rattle.std.specs.Prelude.{ℕ, ◌*◌, ◌≤◌, Bool, true, ◌≡◌, length}
use mathlib.Core.List.{List, [], ◌∷◌, ◌++◌, map, Permᴰ}
use Rattle.basic_laws.specs.Each.{Each, Pairs, those}
use Rattle.basic_laws.specs.Bits.{bits_of}
use Rattle.commands.specs.Commands.{search_rom, alarm_search}
use Rattle.refusals.specs.Refusals.{accepted}
use Rattle.search_laws.specs.Numbers.{Sooner}
use Rattle.search_laws.specs.Wire.{pass_offers}
use Rattle.rom.specs.Code.{code_bits}
use Rattle.device.specs.declared.Settings.{Settings}
use Rattle.bench.specs.Bench.{live, free}
use Rattle.bench.specs.declared.Bench.{Bench}
use Rattle.master_rules.specs.Search.{fewest_places, fewest_bytes, Outcome, search_outcome, answer_of}
use Rattle.history_laws.specs.History.{Call, Typed, after, added, page, alarmed}
use Rattle.master_rules.specs.Issued.{issued, Granted}

abbrev pub alarms : List Call → List ℕ
alarms h = those (λ code. alarmed (page h code)) (added h)

-- a search makes just these resets and slots
pub record Makes (passes : List (List Bool)) (b : Bench) (o : Outcome) : Type 0 where
  pub frames-are : o.frames ≡ (issued passes b).frames
  pub bench-is : o.bench ≡ (issued passes b).bench
  pub granted : Granted passes b

abbrev pub pass_of : ℕ → ℕ → List Bool
pass_of command code = pass_offers (bits_of 8 command) (code_bits code)

-- the two reads that nobody answers
abbrev pub unheard : ℕ → List Bool
unheard command = bits_of 8 command ++ true ∷ true ∷ []

-- ## The three ways a search can end

-- the slots of a pass that lists a code, and the bytes of its line; those of a pass that nobody answers; the bytes of a
-- reset without presence
abbrev pub slots_per_code : ℕ
slots_per_code = 200

abbrev pub bytes_per_code : ℕ
bytes_per_code = 57

abbrev pub unheard_slots : ℕ
unheard_slots = 10

abbrev pub unheard_bytes : ℕ
unheard_bytes = 11

abbrev pub absence_bytes : ℕ
absence_bytes = 7

pub record Told (o : Outcome) (codes passes slots bytes : ℕ) : Type 0 where
  pub refusal_is : (answer_of o).refusal ≡ accepted
  pub codes-are : (answer_of o).codes ≡ codes
  pub passes-are : (answer_of o).passes ≡ passes
  pub slots-are : (answer_of o).slots ≡ slots
  pub bytes-are : (answer_of o).bytes ≡ bytes

pub record Lonely (b : Bench) (o : Outcome) : Type 0 where
  pub told : Told o 0 0 0 absence_bytes
  pub listed-is : o.listed ≡ []
  pub makes : Makes ([] ∷ []) b o

pub record Unanswered (command : ℕ) (b : Bench) (o : Outcome) : Type 0 where
  pub told : Told o 0 1 unheard_slots unheard_bytes
  pub listed-is : o.listed ≡ []
  pub makes : Makes (unheard command ∷ []) b o

pub record Listing (command : ℕ) (codes : List ℕ) (b : Bench) (o : Outcome) : Type 0 where
  pub told : Told o (length codes) (length codes) (slots_per_code * length codes) (bytes_per_code * length codes)
  pub all_listed : Permᴰ codes o.listed
  pub in_order : Pairs Sooner o.listed
  pub makes : Makes (map (pass_of command) o.listed) b o

abbrev pub Comes : ℕ → List ℕ → List ℕ → Bench → Outcome → Type 0
Comes command [] codes b o = Lonely b o
Comes command (n ∷ ns) [] b o = Unanswered command b o
Comes command (n ∷ ns) (k ∷ ks) b o = Listing command (k ∷ ks) b o

-- ## The claim

-- a device's stored bytes
pub record Stored : Type 0 where
  pub scratchpad : List ℕ
  pub eeprom : Settings

abbrev pub stored_of : Bench → List Stored
stored_of b = map (λ d. record { scratchpad = d.scratchpad; eeprom = d.eeprom }) (live b)

pub record SearchClaim (command : ℕ) (everybody codes : List ℕ) (b : Bench) (o : Outcome) : Type 0 where
  pub comes : Comes command everybody codes b o
  pub stored-kept : stored_of o.bench ≡ stored_of b

pub record Demand3 (h : List Call) (places room : ℕ) : Type 0 where
  pub search : SearchClaim search_rom (added h) (added h) (after h) (search_outcome search_rom (after h) places room)
  pub alarm-search : SearchClaim alarm_search (added h) (alarms h) (after h)
      (search_outcome alarm_search (after h) places room)

-- the claim, for every history
abbrev pub Claim : Type 0
Claim =
    (h : List Call) → Each Typed h → free (after h) ≡ true → (places room : ℕ) → fewest_places ≤ places
    → fewest_bytes ≤ room → Demand3 h places room

-- the same as what a call promises: of every history that leads to the bench given
abbrev pub SearchPromise : Bench → ℕ → ℕ → Type 0
SearchPromise b places room =
    (h : List Call) → Each Typed h → after h ≡ b → free b ≡ true → fewest_places ≤ places → fewest_bytes ≤ room
    → SearchClaim search_rom (added h) (added h) b (search_outcome search_rom b places room)

abbrev pub AlarmPromise : Bench → ℕ → ℕ → Type 0
AlarmPromise b places room =
    (h : List Call) → Each Typed h → after h ≡ b → free b ≡ true → fewest_places ≤ places → fewest_bytes ≤ room
    → SearchClaim alarm_search (added h) (alarms h) b (search_outcome alarm_search b places room)
