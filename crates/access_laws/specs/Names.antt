-- What the recording of a search is named when it is read back (the scope, "The master" and "Frames"): after every
-- history, line by line, the bytes that a search has written are named SEARCH with the codes listed, in their order,
-- those of an alarm search ALARM with theirs; NOBODY where nobody is listed though there are devices, and EMPTY where
-- there is no device.
--     names_of name n k             the names: n the codes on the bench, k those listed
--     recorded recording o         the bytes of the recording that the search has written: as many as it tells
--     NamesClaim                   the claim, for every history, with the premises of demand 3
--     FramesClaim                  that the bytes that a search has written, refused or not, are read back as its
--                                  frames, after every history
use Rattle.std.specs.Prelude.{ℕ, ◌≤◌, true, List, [], ◌∷◌, map, ◌≡◌, length, take}
use Rattle.basic_laws.specs.Each.{Each}
use Rattle.commands.specs.Commands.{search_rom, alarm_search}
use Rattle.text.specs.Lines.{lines_of}
use Rattle.frame.specs.ReadLine.{carries}
use Rattle.frame.specs.Recording.{read_all}
use Rattle.naming.specs.declared.Name.{Name}
use Rattle.naming.specs.declared.Name.TheVariants.{Empty, Search, Alarm, Nobody}
use Rattle.naming.specs.declared.Named.{Named}
use Rattle.naming.specs.Naming.{plain, line_named}
use Rattle.naming.specs.Passes.{lists_code}
use Rattle.bench.specs.Bench.{free}
use Rattle.master_rules.specs.Search.{fewest_places, fewest_bytes, Outcome, search_outcome, answer_of, recording_after}
use Rattle.history_laws.specs.History.{Call, Typed, after, added}

abbrev pub names_of : Name → List ℕ → List ℕ → List Named
names_of name [] listed = plain Empty ∷ []
names_of name (n ∷ ns) [] = plain Nobody ∷ []
names_of name (n ∷ ns) (k ∷ ks) = map (lists_code name) (k ∷ ks)

abbrev pub recorded : List ℕ → Outcome → List ℕ
recorded recording o = take (answer_of o).bytes (recording_after recording o)

-- the lines of what a search by this command has recorded are named so
abbrev pub NamedAs : ℕ → Name → List Call → ℕ → List ℕ → Type 0
NamedAs command name h places recording =
    let o = search_outcome command (after h) places (length recording) in
    map line_named (lines_of (recorded recording o)) ≡ names_of name (added h) o.listed

pub record RecordingNamed (h : List Call) (places : ℕ) (recording : List ℕ) : Type 0 where
  pub search : NamedAs search_rom Search h places recording
  pub alarm-search : NamedAs alarm_search Alarm h places recording

abbrev pub NamesClaim : Type 0
NamesClaim =
    (h : List Call) → Each Typed h → free (after h) ≡ true → (places : ℕ) (recording : List ℕ) → fewest_places ≤ places
    → fewest_bytes ≤ length recording
    → RecordingNamed h places recording

-- what a search by this command has recorded is read back as its frames
abbrev pub ReadAs : ℕ → List Call → ℕ → List ℕ → Type 0
ReadAs command h places recording =
    let o = search_outcome command (after h) places (length recording) in
    read_all (recorded recording o) ≡ map carries o.frames

pub record RecordingRead (h : List Call) (places : ℕ) (recording : List ℕ) : Type 0 where
  pub search : ReadAs search_rom h places recording
  pub alarm-search : ReadAs alarm_search h places recording

abbrev pub FramesClaim : Type 0
FramesClaim = (h : List Call) → Each Typed h → (places : ℕ) (recording : List ℕ) → RecordingRead h places recording
