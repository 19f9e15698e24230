-- One pass of a search with the frame that records it (the scope, "The master"): the walk of the search's laws over the
-- bench's own calls, its lines as a frame.
--     walk_of v                the walk v, as the program keeps it
--     one_slot f b x           the slot in which the master offers x: the frame with the line's bit, that bit, and the
--                             bench after it
--     one_place prev D j w     the two reads at place j and the bit taken; only the reads where nobody answers
--     pass_begun command b     the eight slots of the command, on a bench that the reset has restarted
use Rattle.std.specs.Prelude.{ℕ, suc, ◌+◌, ◌*◌, ◌-◌, ◌/◌, ◌^◌, ◌<◌, ◌≤◌, ◌≡◌, Bool, not, ◌&&◌, ◌||◌, [], ◌∷◌}
use Rattle.std.proofs.Math.Path.{refl}
use Rattle.std.proofs.Common.{sym, ap, ◌∙◌, true≢false, arith, pow-suc, add-one}
use Rattle.std.proofs.Math.Bool.{true, false}
use Rattle.std.proofs.lemmas.Bool.{false≢true}
use Rattle.std.proofs.Math.Option.{none, some}
use Rattle.std.specs.Prelude.{if◌then◌else◌}
use Rattle.basic_laws.specs.Fold.{fold}
use Rattle.basic_laws.specs.FoldLaws.{fold-append}
use Rattle.basic_laws.specs.Bits.{odd, bit_number, bits_of}
use Rattle.frame.specs.Frames.{blank_frame, pushed, pushed_all}
use Rattle.frame.specs.declared.Frame.{Frame}
use Rattle.search_laws.specs.Departure.{takes}
use Rattle.search_laws.specs.Pass.{triple, took_zero, choice, on_some}
use Rattle.search_laws.specs.PassLaws.{on_some_lem, on_both}
use Rattle.search_laws.specs.PassLoop.{Walk as PassWalk, walk, walk_on, walk_ends}
use Rattle.search_laws.specs.PassLoop.{onward, bit-step, steps, steps-turn}
use Rattle.search_laws.specs.PassLoop.{steps-end, steps-over}
use Rattle.search_laws.specs.Wire.{slots}
use Rattle.bench.specs.Slot.{slotted}
use Rattle.bench.specs.declared.Bench.{Bench}
use Rattle.search.specs.Place.{chosen, placed}
use Rattle.search.specs.declared.place.Placed.{Placed}
use Rattle.search.specs.declared.pass.Shown.{Shown}
use Rattle.search.specs.declared.pass.Walk.{Walk}
use Rattle.master_rules.specs.Search.{code_length, frame_of}
use Rattle.master_rules.specs.Buses.{calls}

abbrev pub walk_of : PassWalk Bench → Walk
walk_of v = record {
  answered = v.answered;
  code = v.code;
  last = v.last;
  shown = frame_of v.lines;
  bench = v.devices;
}

unfoldable pub one_slot : Frame → Bench → Bool → Shown
one_slot f b x = record { frame = pushed f (slotted b x).line; line = (slotted b x).line; bench = (slotted b x).bench }

-- the last place at which 0 was taken at a conflict, after place j where the bit d was taken
abbrev pub last_after : Bool → Bool → Bool → ℕ → ℕ → ℕ
last_after a b d j last = if not (a || b || d) then j else last

-- a walk that nobody has answered, and one that goes on
abbrev pub walk_over : Walk → Shown → Walk
walk_over w s = record { answered = false; code = w.code; last = w.last; shown = s.frame; bench = s.bench }

abbrev pub walk_onward : ℕ → Walk → Bool → Bool → Bool → Shown → Walk
walk_onward j w a b d s =
    record {
      answered = true;
      code = w.code + bit_number d * 2 ^ j;
      last = last_after a b d j w.last;
      shown = s.frame;
      bench = s.bench;
    }

unfoldable pub one_place : ℕ → ℕ → ℕ → Walk → Walk
one_place prev D j w =
    let first = one_slot w.shown w.bench true in
    let second = one_slot first.frame first.bench true in
    on_some (choice first.line second.line (takes prev D j)) (walk_over w second) (λ d.
    walk_onward j w first.line second.line d (one_slot second.frame second.bench d))

-- n slots of the bits of x, recorded after f; then no bit is taken yet
unfoldable pub command_sent : ℕ → ℕ → Frame → Bench → Walk
command_sent n x f b =
    let s = slots calls (bits_of n x) b in
    record { answered = true; code = 0; last = code_length; shown = pushed_all f s.lines; bench = s.devices }

abbrev pub pass_begun : ℕ → Bench → Walk
pass_begun command b = command_sent 8 command (blank_frame true) b

-- ## Laws

-- where somebody answers a bit is taken
choice-some : (a b w : Bool) → (a && b) ≡ false → choice a b w ≡ some (chosen a b w)
choice-some true true w e = absurd (true≢false e)
choice-some true false w e = refl
choice-some false true w e = refl
choice-some false false w e = refl

choice-none : (a b w : Bool) → (a && b) ≡ true → choice a b w ≡ none
choice-none true true w e = refl
choice-none true false w e = absurd (false≢true e)
choice-none false true w e = absurd (false≢true e)
choice-none false false w e = absurd (false≢true e)

-- a place by its three slots: a walk that nobody has answered, and one that goes on
module _ (prev D j : ℕ) (w : Walk) where
  abbrev slots_there : Placed
  slots_there = placed w.bench (takes prev D j)

  abbrev reads_shown : Frame
  reads_shown = pushed (pushed w.shown slots_there.first) slots_there.second

  abbrev nobody : Bool
  nobody = (slotted w.bench true).line && (slotted (slotted w.bench true).bench true).line

  abbrev walked_over : Walk
  walked_over = record {
    answered = false;
    code = w.code;
    last = w.last;
    shown = reads_shown;
    bench = slots_there.bench;
  }

  abbrev walked_on : Walk
  walked_on =
      record {
        answered = true;
        code = w.code + bit_number slots_there.taken * 2 ^ j;
        last = last_after slots_there.first slots_there.second slots_there.taken j w.last;
        shown = pushed reads_shown slots_there.third;
        bench = slots_there.bench;
      }

  pub place-over : (slots_there.first && slots_there.second) ≡ true → one_place prev D j w ≡ walked_over
  unfolding one_place one_slot placed
  place-over = by-test nobody refl
    where
      by-test : (t : Bool) → nobody ≡ t → (slots_there.first && slots_there.second) ≡ true
          → one_place prev D j w ≡ walked_over
      by-test true e h = rw (choice-none _ _ (takes prev D j) e, e)
      by-test false e h = absurd (false≢true (sym e ∙ (rw e at h)))

  pub place-on : (slots_there.first && slots_there.second) ≡ false → one_place prev D j w ≡ walked_on
  unfolding one_place one_slot placed
  place-on = by-test nobody refl
    where
      by-test : (t : Bool) → nobody ≡ t → (slots_there.first && slots_there.second) ≡ false
          → one_place prev D j w ≡ walked_on
      by-test true e h = absurd (true≢false (sym e ∙ (rw e at h)))
      by-test false e h = rw (choice-some _ _ (takes prev D j) e, e)

-- the place is kept where 0 was sent at a conflict
last-kept : (a b d : Bool) (j last : ℕ) → (if took_zero (triple a b d) then j else last) ≡ last_after a b d j last
last-kept false false d j last = refl
last-kept false true d j last = refl
last-kept true false d j last = refl
last-kept true true d j last = refl

-- the slots of the command, as a loop of halvings makes them
pub command-turn : (n i x : ℕ) (f : Frame) (b : Bench) → i < n
    → command_sent (n - i) x f b ≡ command_sent (n - (i + 1)) (x / 2) (one_slot f b (odd x)).frame
    (one_slot f b (odd x)).bench
unfolding command_sent one_slot bits_of slots fold
command-turn n i x f b h = let e : n - i ≡ suc (n - (i + 1)) = omega arith in rw e

pub command-end : (n i x : ℕ) (f : Frame) (b : Bench) → n ≤ i
    → command_sent (n - i) x f b ≡ record { answered = true; code = 0; last = code_length; shown = f; bench = b }
unfolding command_sent bits_of slots fold
command-end n i x f b h = let e : n - i ≡ 0 = omega arith in rw e

-- a pass that has begun is where the walk of the laws starts
pub begun-walk : (command : ℕ) (b : Bench)
    → pass_begun command b ≡ walk_of (let s = slots calls (bits_of 8 command) b in
    walk true 0 code_length s.lines s.devices)
unfolding command_sent
begun-walk command b = refl

-- one place of the program's walk is one place of the laws' walk
pub place-walk : (prev D j : ℕ) (v : PassWalk Bench) → one_place prev D j (walk_of v) ≡ walk_of (onward calls prev D j v)
unfolding one_place one_slot fold
place-walk prev D j v =
    let once = (slotted v.devices true).bench in
    let twice = (slotted once true).bench in
    let a = (slotted v.devices true).line in
    let b = (slotted once true).line in
    on_both (λ (w : Walk) (u : PassWalk Bench). w ≡ walk_of u) (choice a b (takes prev D j))
    _ _ (walk_ends v (a ∷ b ∷ []) twice) (λ d. walk_on j v (triple a b d) (slotted twice d).line
    (slotted twice d).bench)
    (rw (fold-append pushed (blank_frame true) v.lines (a ∷ b ∷ [])))
    (λ d. rw (
      last-kept a b d j v.last,
      fold-append pushed (blank_frame true) v.lines
          (a ∷ b ∷ (slotted twice d).line ∷ []),
    ))

-- ## The walk along the places

-- a pass at place j: its walk w, and the places still to come give what all the places give from v₀ on
pub record Walking (prev D : ℕ) (v₀ : PassWalk Bench) (j : ℕ) (w : Walk) : Type 0 where
  pub walked : PassWalk Bench
  pub is : w ≡ walk_of walked
  pub comes : steps calls prev D (code_length - j) j walked ≡ steps calls prev D code_length 0 v₀
  pub small : w.code < 2 ^ j

double : (j : ℕ) → 2 ^ (j + 1) ≡ 2 ^ j + 2 ^ j
double j = ap (λ (k : ℕ). 2 ^ k) (add-one j) ∙ pow-suc 2 j ∙ omega arith

code-small : (code j : ℕ) (d : Bool) → code < 2 ^ j → code + bit_number d * 2 ^ j < 2 ^ (j + 1)
code-small code j true h = omega (arith, double j)
code-small code j false h = omega (arith, double j)

place-small : (prev D j : ℕ) (w : Walk) → w.code < 2 ^ j → (one_place prev D j w).code < 2 ^ (j + 1)
unfolding one_place
place-small prev D j w h =
    let first = one_slot w.shown w.bench true in
    let second = one_slot first.frame first.bench true in
    on_some_lem (λ (v : Walk). v.code < 2 ^ (j + 1)) (choice first.line second.line (takes prev D j))
    (walk_over w second)
    (λ d. walk_onward j w first.line second.line d (one_slot second.frame second.bench d))
    (let e = double j in omega arith) (λ d. code-small w.code j d h)

module _ (prev D : ℕ) (v₀ : PassWalk Bench) where
  pub walking_start : v₀.code ≡ 0 → Walking prev D v₀ 0 (walk_of v₀)
  walking_start e = record { walked = v₀; is = refl; comes = refl; small = omega arith }

  pub walking-turn : (j : ℕ) (w : Walk) → j < code_length → w.answered ≡ true → Walking prev D v₀ j w
      → Walking prev D v₀ (j + 1) (one_place prev D j w)
  walking-turn j w h a k =
      let v = k.walked in
      let e : v.answered ≡ true = sym (ap (λ (u : Walk). u.answered) k.is) ∙ a in
      record {
        walked = onward calls prev D j v;
        is = ap (one_place prev D j) k.is ∙ place-walk prev D j v;
        comes = rw (← bit-step calls prev D j v e, ← steps-turn calls prev D code_length j v h) k.comes;
        small = place-small prev D j w k.small;
      }

  pub walking-over : (j : ℕ) (w : Walk) → w.answered ≡ false → Walking prev D v₀ j w → Walking prev D v₀ (j + 1) w
  walking-over j w a k =
      let v = k.walked in
      let e : v.answered ≡ false = sym (ap (λ (u : Walk). u.answered) k.is) ∙ a in
      let s = k.small in
      record {
        walked = v;
        is = k.is;
        comes = steps-over calls prev D (code_length - (j + 1)) (j + 1) v e
            ∙ sym (steps-over calls prev D (code_length - j) j v e) ∙ k.comes;
        small = omega (arith, double j);
      }

  pub walking-end : (j : ℕ) (w : Walk) → code_length ≤ j → Walking prev D v₀ j w
      → w ≡ walk_of (steps calls prev D code_length 0 v₀)
  walking-end j w h k = k.is ∙ ap walk_of (sym (steps-end calls prev D code_length j k.walked h) ∙ k.comes)
