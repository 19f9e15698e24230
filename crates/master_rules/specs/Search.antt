-- Search and alarm search (the scope, "The master"): what they list, the frames of their resets and slots, and the
-- bench where the last slot leaves it.
--     frame_shown presence lines            the frame of a reset and the slots after it; frame_of lines, the same with
--                                          presence
--     Outcome                              what a search comes to: the refusal, the codes listed, the frames, and the
--                                          bench
--     search_outcome command b p r          the search by this command on bench b, with a list of p places and a
--                                          recording of r bytes
--     passes_in, slots_in                    the passes are the frames with presence, the slots those of all frames
--     answer_of, list_after, recording_after  what the caller gets: the numbers, the list and the recording
-- The passes are those of the search by slots: at a conflict the first takes 0, each later one departs at the last
-- conflict not yet taken at 1.
use Rattle.std.specs.Prelude.{ℕ, ◌+◌, Bool, true, false, not, ◌||◌, List, [], ◌∷◌, map, ltb, length}
use Rattle.std.specs.Prelude.{if◌then◌else◌}
use Rattle.basic_laws.specs.Fold.{fold}
use Rattle.basic_laws.specs.Laid.{laid}
use Rattle.basic_laws.specs.Bits.{bits_of, number_of}
use Rattle.refusals.specs.Refusals.{accepted, no_room, wire_busy}
use Rattle.frame.specs.Frames.{blank_frame, pushed_all}
use Rattle.frame.specs.Recording.{write_all}
use Rattle.frame.specs.declared.Frame.{Frame}
use Rattle.search_laws.specs.Wire.{Search, wire_search}
use Rattle.bench.specs.Bench.{free}
use Rattle.bench.specs.Slot.{reset_done}
use Rattle.bench.specs.declared.Bench.{Bench}
use Rattle.master_rules.specs.declared.Searched.{Searched}
use Rattle.master_rules.specs.Buses.{calls}

-- a list of fewer places, or a recording of fewer bytes, is refused
abbrev pub fewest_places : ℕ
fewest_places = 32

abbrev pub fewest_bytes : ℕ
fewest_bytes = 1824

-- a code's bits, and the most passes
abbrev pub code_length : ℕ
code_length = 64

abbrev pub most_passes : ℕ
most_passes = 32

abbrev pub frame_shown : Bool → List Bool → Frame
frame_shown presence lines = pushed_all (blank_frame presence) lines

abbrev pub frame_of : List Bool → Frame
frame_of lines = frame_shown true lines

pub record Outcome : Type 0 where
  pub refusal : ℕ
  pub listed : List ℕ
  pub frames : List Frame
  pub bench : Bench

-- nothing listed, nothing recorded
abbrev pub refused_outcome : ℕ → Bench → Outcome
refused_outcome n b = record { refusal = n; listed = []; frames = []; bench = b }

-- a reset that no device answers
abbrev pub lonely_outcome : Bench → Outcome
lonely_outcome b = record { refusal = accepted; listed = []; frames = blank_frame false ∷ []; bench = b }

-- passes, one frame each
abbrev pub found_outcome : Search Bench → Outcome
found_outcome r = record {
  refusal = accepted;
  listed = map number_of r.codes;
  frames = map frame_of r.lines;
  bench = r.devices;
}

-- the search by slots on the bench's own calls
abbrev pub search_run : ℕ → Bench → Search Bench
search_run command b = wire_search calls (bits_of 8 command) most_passes code_length b

unfoldable pub search_outcome : ℕ → Bench → ℕ → ℕ → Outcome
search_outcome command b places room =
    if ltb places fewest_places || ltb room fewest_bytes then refused_outcome no_room b
    else if not (free b) then refused_outcome wire_busy b
    else if not (reset_done b).presence then lonely_outcome (reset_done b).bench
    else found_outcome (search_run command b)

-- ## What the caller gets

-- a pass is a reset with presence and the slots after it
abbrev pub count_pass : ℕ → Frame → ℕ
count_pass n f = if f.presence then n + 1 else n

unfoldable pub passes_in : List Frame → ℕ
passes_in fs = fold count_pass 0 fs

unfoldable pub slots_in : List Frame → ℕ
slots_in fs = fold (λ n f. n + f.count) 0 fs

abbrev pub answer_of : Outcome → Searched
answer_of o = record {
  refusal = o.refusal;
  codes = length o.listed;
  passes = passes_in o.frames;
  slots = slots_in o.frames;
  bytes = length (write_all o.frames);
  bench = o.bench;
}

-- the codes from place 0 on, the frames from byte 0 on, all else as it was
abbrev pub list_after : List ℕ → Outcome → List ℕ
list_after list o = laid list 0 o.listed

abbrev pub recording_after : List ℕ → Outcome → List ℕ
recording_after recording o = laid recording 0 (write_all o.frames)
