-- What a frame is named (the scope, "Frames"): EMPTY, SEARCH, ALARM, NOBODY, PAD or OTHER, with the code and the
-- reading it shows, raw and without its undefined bits, or the refusal 14, 5, 6, 7, 11 or 20, the first of these that
-- anything in the frame gives. EMPTY, NOBODY and OTHER give no refusal.
--     name_number n           the number of a name, 1 to 6 in the scope's order
--     named f                what a frame is named
--     frame_number f          the number of a frame's name; that of OTHER on a refusal
--     line_named l            what a line is named: the refusal with which it is read, or the name of its frame
use Rattle.std.specs.Prelude.{ℕ, ◌+◌, ◌*◌, Bool, true, false, not, ◌&&◌, ◌||◌, List, [], ◌∷◌, eqb, pos, take, drop, get_or}
use Rattle.std.specs.Prelude.{if◌then◌else◌}
use Rattle.basic_laws.specs.Bits.{number_of, bytes_bits}
use Rattle.refusals.specs.Refusals.{accepted, wrong_crc, bad_triple}
use Rattle.commands.specs.Commands.{match_rom, search_rom, alarm_search, read_scratchpad}
use Rattle.family.specs.Layout.{reading_low_place, reading_high_place}
use Rattle.rom.specs.Code.{family_of, code_refusal}
use Rattle.temperature.specs.declared.Reading.{Reading}
use Rattle.temperature.specs.declared.Reading.TheVariants.{InSixteenths}
use Rattle.scratchpad.specs.Judgement.{judged}
use Rattle.scratchpad.specs.declared.Judged.{Judged}
use Rattle.frame.specs.declared.Frame.{Frame}
use Rattle.frame.specs.Frames.{slot_bit}
use Rattle.text.specs.Lines.{Line}
use Rattle.frame.specs.ReadLine.{LineContent, carries, no_frame, read_line}
use Rattle.frame.specs.declared.frame_lines.LineRead.{LineRead}
use Rattle.naming.specs.declared.Name.{Name}
use Rattle.naming.specs.declared.Name.TheVariants.{Empty, Search, Alarm, Nobody, Pad, Other}
use Rattle.naming.specs.declared.Named.{Named}
use Rattle.naming.specs.declared.PassRead.{PassRead}

abbrev pub name_number : Name → ℕ
name_number Empty = 1
name_number Search = 2
name_number Alarm = 3
name_number Nobody = 4
name_number Pad = 5
name_number Other = 6

-- the reading where none was read
abbrev pub no_reading : Reading
no_reading = InSixteenths (record { 0 = pos 0 })

-- a name with no code and no reading
abbrev pub plain : Name → Named
plain n = record { refusal = accepted; name = n; code = 0; raw = 0; reading = no_reading }

-- a refusal: every other number is zero, and the name is Other
abbrev pub refused_name : ℕ → Named
refused_name n = record { refusal = n; name = Other; code = 0; raw = 0; reading = no_reading }

-- byte k of a frame: slots 8k to 8k + 7, the first in bit 0
abbrev pub byte_of : Frame → ℕ → ℕ
byte_of f k = get_or f.bits k 0

-- whether it has n slots and the first eight send this command
abbrev pub sends : Frame → ℕ → ℕ → Bool
sends f n command = eqb f.count n && eqb (byte_of f 0) command

-- ## A search pass: the command, then for each bit of the code a triple of slots

-- whether a triple is 0, 0 and either bit, or 0, 1, 0, or 1, 0, 1
abbrev pub triple_allowed : Bool → Bool → Bool → Bool
triple_allowed false false taken = true
triple_allowed false true taken = not taken
triple_allowed true false taken = taken
triple_allowed true true taken = false

-- whether every triple of some slots is allowed; slots after the last whole triple are passed over
unfoldable pub triples_allowed : List Bool → Bool
triples_allowed (a ∷ b ∷ c ∷ ss) = triple_allowed a b c && triples_allowed ss
triples_allowed (a ∷ b ∷ []) = true
triples_allowed (a ∷ []) = true
triples_allowed [] = true

-- the third bit of each triple
unfoldable pub thirds : List Bool → List Bool
thirds (a ∷ b ∷ c ∷ ss) = c ∷ thirds ss
thirds (a ∷ b ∷ []) = []
thirds (a ∷ []) = []
thirds [] = []

-- the 192 slots behind the command
abbrev pub pass_slots : List ℕ → List Bool
pass_slots bytes = drop 8 (take 200 (bytes_bits bytes))

-- what the triples say: whether all are allowed, and then the code of their third bits
abbrev pub pass_read : List Bool → PassRead
pass_read ss = if triples_allowed ss then record { allowed = true; code = number_of (thirds ss) }
    else record { allowed = false; code = 0 }

-- a name with a code, which must be sound
abbrev pub coded : Name → ℕ → Named
coded n c = if eqb (code_refusal c) accepted
    then record { refusal = accepted; name = n; code = c; raw = 0; reading = no_reading }
    else refused_name (code_refusal c)

-- all triples are looked at before the code
abbrev pub named_pass : Name → PassRead → Named
named_pass n p = if p.allowed then coded n p.code else refused_name bad_triple

-- ## A search that nobody answers: the command, then 1, 1

-- whether a command asks for a search
unfoldable pub searches : ℕ → Bool
searches command = eqb command search_rom || eqb command alarm_search

abbrev pub is_nobody : Frame → Bool
is_nobody f = eqb f.count 10 && searches (byte_of f 0) && slot_bit f 8 && slot_bit f 9

-- ## A scratchpad read at a code: 55h, the code, BEh, nine bytes

abbrev pub is_pad : Frame → Bool
is_pad f = sends f 152 match_rom && eqb (byte_of f 9) read_scratchpad

-- the number that bytes hold, low byte first
unfoldable pub low_first : List ℕ → ℕ
low_first [] = 0
low_first (b ∷ bs) = b + 256 * low_first bs

abbrev pub code_matched : List ℕ → ℕ
code_matched bytes = low_first (take 8 (drop 1 bytes))

abbrev pub pad_in : List ℕ → List ℕ
pad_in bytes = take 9 (drop 10 bytes)

-- bytes 1 and 0 of the scratchpad, as they stand
abbrev pub raw_of : List ℕ → ℕ
raw_of pad = get_or pad reading_low_place 0 + 256 * get_or pad reading_high_place 0

-- the scratchpad's own judgement
abbrev pub believed : ℕ → List ℕ → Judged → Named
believed c pad j = if eqb j.refusal accepted
    then record { refusal = accepted; name = Pad; code = c; raw = raw_of pad; reading = j.reading }
    else refused_name j.refusal

-- 5 for the code's CRC or the scratchpad's, then 6, 7, 11 and 20, an unknown family of the code among the 7
abbrev pub named_pad : ℕ → List ℕ → Named
named_pad c pad = if eqb (code_refusal c) wrong_crc then refused_name wrong_crc else believed c pad (judged (family_of c) pad)

-- ## Any frame

unfoldable pub named : Frame → Named
named f =
    if not f.presence then plain Empty
    else if sends f 200 search_rom then named_pass Search (pass_read (pass_slots f.bits))
    else if sends f 200 alarm_search then named_pass Alarm (pass_read (pass_slots f.bits))
    else if is_nobody f then plain Nobody
    else if is_pad f then named_pad (code_matched f.bits) (pad_in f.bits)
    else plain Other

abbrev pub frame_number : Frame → ℕ
frame_number f = name_number (named f).name

-- what a line is named: the refusal with which it is read, or the name of its frame
abbrev pub read_named : LineContent → Named
read_named (carries f) = named f
read_named (no_frame n) = refused_name n

abbrev pub line_named : Line → Named
line_named l = read_named (read_line l)

-- the name of a reader's answer
abbrev pub name_of_read : LineRead → Named
name_of_read r = if eqb r.refusal accepted then named r.frame else refused_name r.refusal
