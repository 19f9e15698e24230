-- The passes of a search with the list and the recording that they fill (the scope, "The master"): the sweep of the
-- search's laws over the bench's own calls, with the numbers that the program counts.
--     sweep_of t                 the sweep t, as the program keeps it: how many codes, passes, slots and bytes
--     pass_from command s b      the pass that a sweep makes next, on a bench b that its reset has restarted
--     next_pass command s        the same with that reset
--     swept s w                 a sweep after the pass w
--     listed_after list n w      the list of n codes after it: the code in the next place, nothing where nobody has
--                               answered
--     swept_all command b        the sweep after its last pass
--     search-bounded            on any bench a search lists at most 32 codes and records at most 1,824 bytes, and stays
--                               within what it is lent
use Prim.Native.Nat.{ℕ, zero, suc, ◌+◌, ◌*◌, ◌-◌, ◌<◌, ◌≤◌}
use Rattle.std.specs.Prelude.{◌≡◌, refl, Bool, not, ◌&&◌, ◌||◌, ltb, set, replicate}
use Rattle.std.proofs.Common.{sym, ap, subst, ◌∙◌, le_of_eq, add-one, ltb-false}
use Rattle.std.proofs.Math.Bool.{true, false}
use mathlib.Core.List.{List, [], ◌∷◌, ◌++◌, map, append-nil}
use native.Mathlib.Omega.{arith}
use Rattle.std.proofs.Math.ListN.{length, length-append}
use Rattle.std.proofs.lemmas.List.{length-replicate}
use Rattle.std.specs.Prelude.{if◌then◌else◌}
use Rattle.basic_laws.specs.Fold.{fold}
use Rattle.basic_laws.specs.FoldLaws.{fold-append}
use Rattle.basic_laws.specs.Laid.{laid}
use Rattle.basic_laws.specs.LaidLaws.{laid_none, laid-length, laid_more, laid-store}
use Rattle.basic_laws.specs.Bits.{bits_of}
use Rattle.basic_laws.specs.BitsLaws.{bits-length}
use Rattle.refusals.specs.Refusals.{accepted, no_room, wire_busy}
use Rattle.frame.specs.Frames.{blank_frame, lineable}
use Rattle.frame.specs.FramesLaws.{recorded-all, blank-held, blank-lineable}
use Rattle.frame.specs.Recording.{write_all}
use Rattle.frame.proofs.RecordingLaws.{write-append}
use Rattle.frame.specs.Writing.{fed_line, line_write_answer, line_write_leaves}
use Rattle.frame.proofs.WritingLaws.{fed-length, write_done}
use Rattle.frame.specs.declared.Frame.{Frame}
use Rattle.text.specs.declared.laying.Written.{Written}
use Rattle.search_laws.specs.Issued.{slots_length}
use Rattle.search_laws.specs.Pass.{triple, choice}
use Rattle.search_laws.specs.PassLaws.{on_some_lem}
use Rattle.search_laws.specs.Departure.{takes}
use Rattle.search_laws.specs.PassLoop.{Walk as PassWalk, walk, walk_on, walk_ends}
use Rattle.search_laws.specs.PassLoop.{onward, bit_step, steps, started_pass}
use Rattle.search_laws.specs.PassLoop.{loop_pass}
use Rattle.search_laws.specs.SearchLoop.{Sweep as SearchSweep, sweep}
use Rattle.search_laws.specs.SearchLoop.{with_pass, turns, turns-turn, turns-end}
use Rattle.search_laws.specs.SearchLoop.{turns-over, turn-pass, loop_search, SameSearch}
use Rattle.search_laws.proofs.SearchLoop.{loop-search}
use Rattle.search_laws.specs.Wire.{Bus, slots}
use Rattle.bench.specs.Bench.{free}
use Rattle.bench.specs.Slot.{reset_done}
use Rattle.bench.specs.declared.Bench.{Bench}
use Rattle.master_rules.specs.declared.Searched.{Searched}
use Rattle.search.specs.declared.Sweep.{Sweep}
use Rattle.search.specs.declared.pass.Walk.{Walk}
use Rattle.search.specs.Pass.{walk_of}
use Rattle.master_rules.specs.Search.{code_length, most_passes, fewest_places, fewest_bytes, frame_of, Outcome}
use Rattle.master_rules.specs.Search.{refused_outcome, lonely_outcome, found_outcome, search_run, search_outcome, count_pass}
use Rattle.master_rules.specs.Search.{passes_in, slots_in, answer_of, list_after, recording_after}
use Rattle.master_rules.specs.Buses.{calls}

-- the most slots of a pass, and the bytes of its line
abbrev pub most_pass_slots : ℕ
most_pass_slots = 200

abbrev pub most_pass_bytes : ℕ
most_pass_bytes = 57

abbrev pub frames_of : SearchSweep Bench → List Frame
frames_of t = map frame_of t.lines

abbrev pub sweep_of : SearchSweep Bench → Sweep
sweep_of t = record {
  going = t.going;
  previous = t.previous;
  departure = t.departure;
  codes = length t.codes;
  passes = passes_in (frames_of t);
  slots = slots_in (frames_of t);
  bytes = length (write_all (frames_of t));
  bench = t.devices;
}

unfoldable pub pass_from : ℕ → Sweep → Bench → Walk
pass_from command s b = walk_of (started_pass calls (bits_of 8 command) code_length s.previous s.departure b)

abbrev pub next_pass : ℕ → Sweep → Walk
next_pass command s = pass_from command s (reset_done s.bench).bench

-- the number of codes after a pass
abbrev pub codes_with : Bool → ℕ → ℕ
codes_with answered n = if answered then n + 1 else n

abbrev pub goes_on : Bool → ℕ → Bool
goes_on answered last = answered && ltb last code_length

abbrev pub swept : Sweep → Walk → Sweep
swept s w = record {
  going = goes_on w.answered w.last;
  previous = w.code;
  departure = w.last;
  codes = codes_with w.answered s.codes;
  passes = s.passes + 1;
  slots = s.slots + w.shown.count;
  bytes = s.bytes + length (fed_line w.shown);
  bench = w.bench;
}

-- the code in a place of the list; nothing where nobody has answered
abbrev pub entered_at : List ℕ → ℕ → Bool → ℕ → List ℕ
entered_at list place answered code = if answered then set list place code else list

abbrev pub listed_after : List ℕ → ℕ → Walk → List ℕ
listed_after list n w = entered_at list n w.answered w.code

unfoldable pub swept_all : ℕ → Bench → SearchSweep Bench
swept_all command b = loop_search calls (bits_of 8 command) most_passes code_length b

-- the counts of a sweep are those of at most so many passes
pub record Counted (s : Sweep) : Type 0 where
  pub codes-few : s.codes ≤ s.passes
  pub slots-few : s.slots ≤ most_pass_slots * s.passes
  pub bytes-few : s.bytes ≤ most_pass_bytes * s.passes

-- ## How many slots a pass shows, on any bus

module _ (B : Bus) (prev D : ℕ) where
  step_lines : (j : ℕ) (w : PassWalk B.Devices) → length (bit_step B prev D j w).lines ≤ length w.lines + 3
  unfolding bit_step
  step_lines j w = by_answer w.answered
    where
      by_answer : (t : Bool) → length (if t then onward B prev D j w else w).lines ≤ length w.lines + 3
      by_answer false = omega arith
      by_answer true =
          let once = B.after true w.devices in
          let twice = B.after true once in
          let a = B.line true w.devices in
          let b = B.line true once in
          on_some_lem (λ (v : PassWalk B.Devices). length v.lines ≤ length w.lines + 3)
          (choice a b (takes prev D j))
          (walk_ends w (a ∷ b ∷ []) twice) (λ d. walk_on j w (triple a b d) (B.line d twice) (B.after d twice))
          (simp length-append (omega arith)) (λ d. simp length-append (omega arith))

  steps-lines : (m j : ℕ) (w : PassWalk B.Devices) → length (steps B prev D m j w).lines ≤ length w.lines + 3 * m
  unfolding steps
  steps-lines zero j w = omega arith
  steps-lines (suc m) j w =
      let i = steps-lines m (suc j) (bit_step B prev D j w) in
      let k = step_lines j w in
      omega arith

  pub pass-lines : (command : List Bool) (n : ℕ) (ds : B.Devices)
      → length (started_pass B command n prev D ds).lines ≤ length command + 3 * n
  pass-lines command n ds =
      let s = slots B command ds in
      rw (← slots_length B command ds) (steps-lines n 0 (walk true 0 n s.lines s.devices))

-- ## The frame of a pass

pub record PassFrame (f : Frame) : Type 0 where
  pub shown : f.presence ≡ true
  pub carried : lineable f ≡ true
  pub slots-few : f.count ≤ most_pass_slots
  pub bytes-few : length (fed_line f) ≤ most_pass_bytes

pub pass-frame : (lines : List Bool) → length lines ≤ most_pass_slots → PassFrame (frame_of lines)
pass-frame lines h =
    let r = recorded-all lines (omega arith) in
    let n = r.total in
    let few : (frame_of lines).count ≤ most_pass_slots = rw n h in
    let l = fed-length (frame_of lines) r.held.size r.carried in
    record { shown = r.shown; carried = r.carried; slots-few = few; bytes-few = omega arith }

pub next-pass : (command : ℕ) (t : SearchSweep Bench)
    → next_pass command (sweep_of t) ≡ walk_of (loop_pass calls (bits_of 8 command) code_length t.previous t.departure
    t.devices)
unfolding pass_from
next-pass command t = refl

pub next-frame : (command : ℕ) (s : Sweep) (b : Bench) → PassFrame (pass_from command s b).shown
unfolding pass_from
next-frame command s b =
    let h = pass-lines calls s.previous s.departure (bits_of 8 command) code_length b in
    let l = bits-length 8 command in
    pass-frame _ (omega arith)

-- a frame that has room is written
pub frame-written : (recording : List ℕ) (at : ℕ) (f : Frame) → lineable f ≡ true → length (fed_line f) ≤ most_pass_bytes
    → at + most_pass_bytes ≤ length recording
    → ((line_write_answer recording at f).next ≡ at + length (fed_line f))
    × (line_write_leaves recording at f ≡ laid recording at (fed_line f))
frame-written recording at f p b h =
    let r = write_done recording at f (length (fed_line f)) p refl (omega arith) in
    (ap (λ (w : Written). w.next) (sym r.0), sym r.1)

-- ## One frame more

frames-more : (ls : List (List Bool)) (l : List Bool) → map frame_of (ls ++ l ∷ []) ≡ map frame_of ls ++ frame_of l ∷ []
frames-more [] l = refl
frames-more (k ∷ ls) l = ap (λ (fs : List Frame). frame_of k ∷ fs) (frames-more ls l)

passes-more : (fs : List Frame) (f : Frame) → f.presence ≡ true → passes_in (fs ++ f ∷ []) ≡ passes_in fs + 1
unfolding passes_in fold
passes-more fs f h = rw (fold-append count_pass 0 fs (f ∷ []), h)

slots-more : (fs : List Frame) (f : Frame) → slots_in (fs ++ f ∷ []) ≡ slots_in fs + f.count
unfolding slots_in fold
slots-more fs f = fold-append (λ (n : ℕ) (g : Frame). n + g.count) 0 fs (f ∷ [])

written-more : (fs : List Frame) (f : Frame) → write_all (fs ++ f ∷ []) ≡ write_all fs ++ fed_line f
unfolding write_all
written-more fs f = write-append fs (f ∷ []) ∙ ap (λ (l : List ℕ). write_all fs ++ l) (append-nil (fed_line f))

-- ## A pass more

codes-more : (answered : Bool) (codes : List ℕ) (code : ℕ)
    → codes_with answered (length codes) ≡ length (if answered then codes ++ code ∷ [] else codes)
codes-more true codes code = sym (length-append codes (code ∷ []))
codes-more false codes code = refl

listed_more : (list : List ℕ) (answered : Bool) (codes : List ℕ) (code : ℕ) → length codes < length list
    → entered_at (laid list 0 codes) (length codes) answered code
    ≡ laid list 0 (if answered then codes ++ code ∷ [] else codes)
listed_more list true codes code h = laid-store list 0 codes code (length codes) (omega arith) h
listed_more list false codes code h = refl

recorded_more : (recording : List ℕ) (fs : List Frame) (f : Frame) → length (write_all fs) ≤ length recording
    → laid (laid recording 0 (write_all fs)) (length (write_all fs)) (fed_line f)
    ≡ laid recording 0 (write_all (fs ++ f ∷ []))
recorded_more recording fs f h =
    let z : 0 + length (write_all fs) ≡ length (write_all fs) = omega arith in
    ap (λ (k : ℕ). laid (laid recording 0 (write_all fs)) k (fed_line f)) (sym z)
    ∙ laid_more recording 0 (write_all fs) (fed_line f) (omega arith)
    ∙ ap (laid recording 0) (sym (written-more fs f))

pub swept-is : (s : Sweep) (w : Walk) (going : Bool) (codes bytes : ℕ) → going ≡ goes_on w.answered w.last
    → codes ≡ codes_with w.answered s.codes → bytes ≡ s.bytes + length (fed_line w.shown)
    → record {
      going = going;
      previous = w.code;
      departure = w.last;
      codes = codes;
      passes = s.passes + 1;
      slots = s.slots + w.shown.count;
      bytes = bytes;
      bench = w.bench;
    } ≡ swept s w
swept-is s w going codes bytes g c b = rw (g, c, b)

-- the program's sweep after a pass is the laws' sweep after it
pub swept-more : (command : ℕ) (t : SearchSweep Bench) (w : PassWalk Bench) → PassFrame (frame_of w.lines)
    → swept (sweep_of t) (walk_of w) ≡ sweep_of (with_pass calls (bits_of 8 command) code_length t w)
swept-more command t w p =
    let fs = frames_of t in
    let f = frame_of w.lines in
    let bytes : length (write_all fs) + length (fed_line f) ≡ length (write_all (fs ++ f ∷ [])) =
    sym (ap length (written-more fs f) ∙ length-append (write_all fs) (fed_line f)) in
    rw (
      frames-more t.lines w.lines,
      passes-more fs f p.shown,
      slots-more fs f,
      ← bytes,
      ← codes-more w.answered t.codes w.code,
    )

-- ## The sweep along the passes

-- after i turns: the sweep s with what the list and the recording then hold, where the turns still to come give the
-- sweep after the last pass
pub record Sweeping (command : ℕ) (b : Bench) (list₀ recording₀ : List ℕ) (i : ℕ) (s : Sweep)
    (list recording : List ℕ) : Type 0 where
  pub made : SearchSweep Bench
  pub is : s ≡ sweep_of made
  pub list-is : list ≡ laid list₀ 0 made.codes
  pub recording-is : recording ≡ laid recording₀ 0 (write_all (frames_of made))
  pub comes : turns calls (bits_of 8 command) code_length (most_passes - i) made ≡ swept_all command b
  pub counted : Counted s
  pub few : s.passes ≤ i

-- before the first pass
abbrev pub no_pass : Bench → Sweep
no_pass b = record {
  going = true;
  previous = 0;
  departure = code_length;
  codes = 0;
  passes = 0;
  slots = 0;
  bytes = 0;
  bench = b;
}

counted-more : (s : Sweep) (w : Walk) → Counted s → PassFrame w.shown → Counted (swept s w)
counted-more s w c p =
    let few = c.codes-few in
    let slots = c.slots-few in
    let bytes = c.bytes-few in
    let more-slots = p.slots-few in
    let more_bytes = p.bytes-few in
    record { codes-few = by_answer w.answered; slots-few = omega arith; bytes-few = omega arith }
  where
    by_answer : (t : Bool) → codes_with t s.codes ≤ s.passes + 1
    by_answer true = let few = c.codes-few in omega arith
    by_answer false = let few = c.codes-few in omega arith

module _ (command : ℕ) (b : Bench) (list₀ recording₀ : List ℕ) where
  pub sweeping-start : Sweeping command b list₀ recording₀ 0 (no_pass b) list₀ recording₀
  unfolding swept_all passes_in slots_in write_all fold
  sweeping-start = record {
    made = sweep true 0 code_length [] [] b;
    is = refl;
    list-is = laid_none list₀ 0;
    recording-is = laid_none recording₀ 0;
    comes = refl;
    counted = record { codes-few = omega arith; slots-few = omega arith; bytes-few = omega arith };
    few = omega arith;
  }

  -- of a sweep, a list and a recording that are known by equations
  pub sweeping-as : (i : ℕ) {s s' : Sweep} {list list' recording recording' : List ℕ} → s ≡ s' → list ≡ list'
      → recording ≡ recording'
      → Sweeping command b list₀ recording₀ i s' list' recording'
      → Sweeping command b list₀ recording₀ i s list recording
  sweeping-as i e f g k = rw (e, f, g) k

  module _ (i : ℕ) (s : Sweep) (list recording : List ℕ)
      (k : Sweeping command b list₀ recording₀ i s list recording) where
    sweeping-turn : i < most_passes → s.going ≡ true → fewest_places ≤ length list₀ → fewest_bytes ≤ length recording₀
        → Sweeping command b list₀ recording₀ (i + 1) (swept s (next_pass command s))
        (listed_after list s.codes (next_pass command s))
        (laid recording s.bytes (fed_line (next_pass command s).shown))
    sweeping-turn h g places room =
        let t = k.made in
        let w = loop_pass calls (bits_of 8 command) code_length t.previous t.departure t.devices in
        let e : next_pass command s ≡ walk_of w = ap (next_pass command) k.is ∙ next-pass command t in
        let p : PassFrame (frame_of w.lines) = rw e at (next-frame command s (reset_done s.bench).bench) in
        let goes : t.going ≡ true = sym (ap (λ (u : Sweep). u.going) k.is) ∙ g in
        let codes : s.codes ≡ length t.codes = ap (λ (u : Sweep). u.codes) k.is in
        let bytes : s.bytes ≡ length (write_all (frames_of t)) = ap (λ (u : Sweep). u.bytes) k.is in
        let few = k.few in
        let codes-few = k.counted.codes-few in
        let bytes-few = k.counted.bytes-few in
        let place : length t.codes < length list₀ = omega arith in
        let behind : length (write_all (frames_of t)) ≤ length recording₀ = omega arith in
        record {
          made = with_pass calls (bits_of 8 command) code_length t w;
          is = rw (e, k.is) (swept-more command t w p);
          list-is = rw (e, k.list-is, codes) (listed_more list₀ w.answered t.codes w.code place);
          recording-is =
              rw (e, k.recording-is, bytes, frames-more t.lines w.lines)
              (recorded_more recording₀ (frames_of t) (frame_of w.lines) behind);
          comes = rw (
            ← turn-pass calls (bits_of 8 command) code_length t goes,
            ← turns-turn calls (bits_of 8 command) code_length most_passes i t h,
          ) k.comes;
          counted = counted-more s (next_pass command s) k.counted
              (next-frame command s (reset_done s.bench).bench);
          few = omega arith;
        }

    -- the same with the bench that the reset has restarted known by an equation
    pub sweeping-pass : (restarted : Bench) → restarted ≡ (reset_done s.bench).bench → i < most_passes → s.going ≡ true
        → fewest_places ≤ length list₀
        → fewest_bytes ≤ length recording₀
        → let w = pass_from command s restarted in
        Sweeping command b list₀ recording₀ (i + 1) (swept s w) (listed_after list s.codes w)
        (laid recording s.bytes (fed_line w.shown))
    sweeping-pass restarted e h g places room = rw e (sweeping-turn h g places room)

    pub sweeping-over : s.going ≡ false → Sweeping command b list₀ recording₀ (i + 1) s list recording
    sweeping-over g =
        let t = k.made in
        let e : t.going ≡ false = sym (ap (λ (u : Sweep). u.going) k.is) ∙ g in
        let few = k.few in
        record {
          made = t;
          is = k.is;
          list-is = k.list-is;
          recording-is = k.recording-is;
          comes = turns-over calls (bits_of 8 command) code_length (most_passes - (i + 1)) t e
              ∙ sym (turns-over calls (bits_of 8 command) code_length (most_passes - i) t e) ∙ k.comes;
          counted = k.counted;
          few = omega arith;
        }

    pub sweeping-lengths : i ≤ most_passes → fewest_places ≤ length list₀ → fewest_bytes ≤ length recording₀
        → (length list ≡ length list₀) × (length recording ≡ length recording₀)
    sweeping-lengths h places room =
        let t = k.made in
        let codes : s.codes ≡ length t.codes = ap (λ (u : Sweep). u.codes) k.is in
        let bytes : s.bytes ≡ length (write_all (frames_of t)) = ap (λ (u : Sweep). u.bytes) k.is in
        let few = k.few in
        let codes-few = k.counted.codes-few in
        let bytes-few = k.counted.bytes-few in (
          ap length k.list-is ∙ laid-length list₀ 0 t.codes (omega arith),
          ap length k.recording-is ∙ laid-length recording₀ 0 (write_all (frames_of t)) (omega arith),
        )

    pub sweeping-end : most_passes ≤ i
        → (s ≡ sweep_of (swept_all command b)) × (list ≡ laid list₀ 0 (swept_all command b).codes)
        × (recording ≡ laid recording₀ 0 (write_all (frames_of (swept_all command b))))
    sweeping-end h =
        let e : k.made ≡ swept_all command b = sym
        (turns-end calls (bits_of 8 command) code_length most_passes i k.made h) ∙ k.comes in
        rw (← e) (k.is, k.list-is, k.recording-is)

-- ## What the caller gets

pub refused-answer : (number : ℕ) (b : Bench)
    → answer_of (refused_outcome number b) ≡ record {
      refusal = number;
      codes = 0;
      passes = 0;
      slots = 0;
      bytes = 0;
      bench = b;
    }
unfolding passes_in slots_in write_all fold
refused-answer number b = refl

-- a reset without presence leaves one line of seven bytes
pub blank-line : length (fed_line (blank_frame false)) ≡ 7
blank-line = fed-length (blank_frame false) (blank-held false).size (blank-lineable false)

pub absence-is : (bytes : ℕ) (b : Bench) → bytes ≡ 7
    → record { refusal = accepted; codes = 0; passes = 0; slots = 0; bytes = bytes; bench = b }
    ≡ answer_of (lonely_outcome b)
unfolding passes_in slots_in write_all fold
absence-is bytes b e = rw (append-nil (fed_line (blank_frame false)), blank-line, e)

pub lonely-recording : (recording : List ℕ) (b : Bench)
    → recording_after recording (lonely_outcome b) ≡ laid recording 0 (fed_line (blank_frame false))
unfolding write_all
lonely-recording recording b = rw (append-nil (fed_line (blank_frame false)))

-- the answer of a sweep that has made its passes
abbrev pub answer_by : Sweep → Searched
answer_by s = record {
  refusal = accepted;
  codes = s.codes;
  passes = s.passes;
  slots = s.slots;
  bytes = s.bytes;
  bench = s.bench;
}

-- the sweep after its last pass is the search
module _ (command : ℕ) (b : Bench) where
  same : SameSearch (search_run command b) (swept_all command b)
  unfolding swept_all
  same = loop-search calls (bits_of 8 command) code_length most_passes b

  pub found-answer : answer_of (found_outcome (search_run command b)) ≡ answer_by (sweep_of (swept_all command b))
  found-answer = rw (← same.codes-are, ← same.lines_are, ← same.devices-are)

  pub found-list : (list : List ℕ) → list_after list (found_outcome (search_run command b))
      ≡ laid list 0 (swept_all command b).codes
  found-list list = rw (← same.codes-are)

  pub found-recording : (recording : List ℕ)
      → recording_after recording (found_outcome (search_run command b))
      ≡ laid recording 0 (write_all (frames_of (swept_all command b)))
  found-recording recording = rw (← same.lines_are)

pub unrecorded : (recording : List ℕ) → recording ≡ laid recording 0 (write_all [])
unfolding write_all
unrecorded recording = laid_none recording 0

-- ## How much a search lists and records, on any bench

-- a list and a recording of some length
unfoldable zeros : ℕ → List ℕ
zeros n = replicate n 0

zeros-length : (n : ℕ) → length (zeros n) ≡ n
unfolding zeros
zeros-length n = length-replicate n 0

-- a sweep after i turns, whatever it finds
record SweptTo (command : ℕ) (b : Bench) (list₀ recording₀ : List ℕ) (i : ℕ) : Type 0 where
  s : Sweep
  list : List ℕ
  recording : List ℕ
  holds : Sweeping command b list₀ recording₀ i s list recording

module _ (command : ℕ) (b : Bench) (list₀ recording₀ : List ℕ) (places : fewest_places ≤ length list₀)
    (room : fewest_bytes ≤ length recording₀) where
  swept-next : (i : ℕ) → i < most_passes → SweptTo command b list₀ recording₀ i
      → SweptTo command b list₀ recording₀ (i + 1)
  swept-next i h k = by-going k.s.going refl
    where
      by-going : (t : Bool) → k.s.going ≡ t → SweptTo command b list₀ recording₀ (i + 1)
      by-going true g =
          let w = pass_from command k.s (reset_done k.s.bench).bench in
          record {
            s = swept k.s w;
            list = listed_after k.list k.s.codes w;
            recording = laid k.recording k.s.bytes (fed_line w.shown);
            holds =
                sweeping-pass command b list₀ recording₀ i k.s k.list k.recording k.holds
                (reset_done k.s.bench).bench refl h g places room;
          }
      by-going false g = record {
        s = k.s;
        list = k.list;
        recording = k.recording;
        holds = sweeping-over command b list₀ recording₀ i k.s k.list k.recording k.holds g;
      }

  swept-to : (i : ℕ) → i ≤ most_passes → SweptTo command b list₀ recording₀ i
  swept-to zero h = record {
    s = no_pass b;
    list = list₀;
    recording = recording₀;
    holds = sweeping-start command b list₀ recording₀;
  }
  swept-to (suc i) h = subst (SweptTo command b list₀ recording₀) (add-one i)
      (swept-next i (omega arith) (swept-to i (omega arith)))

-- the most codes and bytes of any search, and that they stay within what is lent
pub record Bounded (places room : ℕ) (o : Outcome) : Type 0 where
  pub codes-most : length o.listed ≤ fewest_places
  pub bytes_most : length (write_all o.frames) ≤ fewest_bytes
  pub codes-lent : length o.listed ≤ places
  pub bytes-lent : length (write_all o.frames) ≤ room

module _ (command : ℕ) (b : Bench) where
  end-bounded : (list₀ recording₀ : List ℕ) (i : ℕ) → most_passes ≤ i → i ≤ most_passes
      → SweptTo command b list₀ recording₀ i
      → (length (swept_all command b).codes ≤ fewest_places)
      × (length (write_all (frames_of (swept_all command b))) ≤ fewest_bytes)
  end-bounded list₀ recording₀ i l m k =
      let e = (sweeping-end command b list₀ recording₀ i k.s k.list k.recording k.holds l).0 in
      let codes : k.s.codes ≡ length (swept_all command b).codes = ap (λ (u : Sweep). u.codes) e in
      let bytes : k.s.bytes ≡ length (write_all (frames_of (swept_all command b))) = ap (λ (u : Sweep). u.bytes) e in
      let few = k.holds.few in
      let codes-few = k.holds.counted.codes-few in
      let bytes-few = k.holds.counted.bytes-few in
      (omega arith, omega arith)

  swept-bounded : (length (swept_all command b).codes ≤ fewest_places)
      × (length (write_all (frames_of (swept_all command b))) ≤ fewest_bytes)
  swept-bounded =
      let places : fewest_places ≤ length (zeros fewest_places) = le_of_eq (sym (zeros-length fewest_places)) in
      let room : fewest_bytes ≤ length (zeros fewest_bytes) = le_of_eq (sym (zeros-length fewest_bytes)) in
      let all : most_passes ≤ most_passes = omega arith in
      end-bounded (zeros fewest_places) (zeros fewest_bytes) most_passes all all
      (swept-to command b (zeros fewest_places) (zeros fewest_bytes) places room most_passes all)

module _ (places room : ℕ) where
  refused-bounded : (n : ℕ) (b : Bench) → Bounded places room (refused_outcome n b)
  unfolding write_all
  refused-bounded n b = record {
    codes-most = omega arith;
    bytes_most = omega arith;
    codes-lent = omega arith;
    bytes-lent = omega arith;
  }

  module _ (enough : fewest_places ≤ places) (long : fewest_bytes ≤ room) where
    lonely-bounded : (b : Bench) → Bounded places room (lonely_outcome b)
    lonely-bounded b =
        let l = ap (λ (s : Searched). s.bytes) (absence-is 7 b refl) in
        record {
          codes-most = omega arith;
          bytes_most = omega arith;
          codes-lent = omega arith;
          bytes-lent = omega arith;
        }

    found-bounded : (command : ℕ) (b : Bench) → Bounded places room (found_outcome (search_run command b))
    found-bounded command b =
        let k = swept-bounded command b in
        let codes = ap (λ (s : Searched). s.codes) (found-answer command b) in
        let bytes = ap (λ (s : Searched). s.bytes) (found-answer command b) in
        let codes-few = k.0 in
        let bytes-few = k.1 in
        record {
          codes-most = omega arith;
          bytes_most = omega arith;
          codes-lent = omega arith;
          bytes-lent = omega arith;
        }

pub search-bounded : (command : ℕ) (b : Bench) (places room : ℕ)
    → Bounded places room (search_outcome command b places room)
unfolding search_outcome
search-bounded command b places room = by-places (ltb places fewest_places) refl (ltb room fewest_bytes) refl (free b)
    (reset_done b).presence
  where
    by-places : (s : Bool) → ltb places fewest_places ≡ s → (t : Bool) → ltb room fewest_bytes ≡ t → (f p : Bool)
        → Bounded places room (if s || t then refused_outcome no_room b else if not f then refused_outcome wire_busy b
        else if not p then lonely_outcome (reset_done b).bench else found_outcome (search_run command b))
    by-places true e t d f p = refused-bounded places room no_room b
    by-places false e true d f p = refused-bounded places room no_room b
    by-places false e false d false p = refused-bounded places room wire_busy b
    by-places false e false d true false = lonely-bounded places room (ltb-false places fewest_places e)
        (ltb-false room fewest_bytes d) (reset_done b).bench
    by-places false e false d true true = found-bounded places room (ltb-false places fewest_places e)
        (ltb-false room fewest_bytes d) command b
