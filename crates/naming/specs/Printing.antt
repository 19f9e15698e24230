-- What is printed for one line of a recording (the scope, "Frames"): the name; for SEARCH, ALARM and PAD a space and
-- the sixteen digits of the code, high byte first; for PAD also a space and the four digits of the raw reading, byte 1
-- first; or REFUSED, a space and the number. A line feed ends it.
--     word n                 the scope's word for a name
--     detail n code raw      what stands behind the word
--     refused_text n          REFUSED and the number
--     described n            the text of a name or a refusal
--     printed_name n          the same as a line
--     printed_line l          what is printed for a line
use Rattle.std.specs.Prelude.{ℕ, List, [], ◌∷◌, ◌++◌, eqb, length, replicate}
use Rattle.std.specs.Prelude.{if◌then◌else◌}
use Rattle.basic_laws.specs.Laid.{laid}
use Rattle.refusals.specs.Refusals.{accepted}
use Rattle.text.specs.Digits.{hex_digits, code_digits}
use Rattle.text.specs.Decimal.{decimal}
use Rattle.text.specs.Lines.{Line, line_feed, space}
use Rattle.naming.specs.Naming.{line_named}
use Rattle.naming.specs.declared.Name.{Name}
use Rattle.naming.specs.declared.Name.TheVariants.{Empty, Search, Alarm, Nobody, Pad, Other}
use Rattle.naming.specs.declared.Named.{Named}
use Rattle.naming.specs.declared.printing.Text.{Text}

abbrev pub word : Name → List ℕ
word Empty = 0x45 ∷ 0x4D ∷ 0x50 ∷ 0x54 ∷ 0x59 ∷ []  -- EMPTY
word Search = 0x53 ∷ 0x45 ∷ 0x41 ∷ 0x52 ∷ 0x43 ∷ 0x48 ∷ []  -- SEARCH
word Alarm = 0x41 ∷ 0x4C ∷ 0x41 ∷ 0x52 ∷ 0x4D ∷ []  -- ALARM
word Nobody = 0x4E ∷ 0x4F ∷ 0x42 ∷ 0x4F ∷ 0x44 ∷ 0x59 ∷ []  -- NOBODY
word Pad = 0x50 ∷ 0x41 ∷ 0x44 ∷ []  -- PAD
word Other = 0x4F ∷ 0x54 ∷ 0x48 ∷ 0x45 ∷ 0x52 ∷ []  -- OTHER

-- REFUSED and a space
abbrev pub refused_word : List ℕ
refused_word = 0x52 ∷ 0x45 ∷ 0x46 ∷ 0x55 ∷ 0x53 ∷ 0x45 ∷ 0x44 ∷ 0x20 ∷ []

-- what stands behind the word: the code of a pass, the code and the reading of a scratchpad, nothing for the others
abbrev pub detail : Name → ℕ → ℕ → List ℕ
detail Empty code raw = []
detail Search code raw = space ∷ code_digits code
detail Alarm code raw = space ∷ code_digits code
detail Nobody code raw = []
detail Pad code raw = (space ∷ code_digits code) ++ (space ∷ hex_digits 4 raw)
detail Other code raw = []

-- REFUSED and the number, which has as many digits as it needs
abbrev pub refused_text : ℕ → List ℕ
refused_text n = refused_word ++ decimal n

abbrev pub described : Named → List ℕ
described n = if eqb n.refusal accepted then word n.name ++ detail n.name n.code n.raw
    else refused_text n.refusal

unfoldable pub printed_name : Named → List ℕ
printed_name n = described n ++ (line_feed ∷ [])

abbrev pub printed_line : Line → List ℕ
printed_line l = printed_name (line_named l)

-- ## As the code holds it

-- 32 zeros
abbrev pub blank_text : List ℕ
blank_text = replicate 32 0

-- the printed line in the front of 32 bytes
abbrev pub printed_text : Named → Text
printed_text n = record { bytes = laid blank_text 0 (printed_name n); count = length (printed_name n) }
