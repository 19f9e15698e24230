-- What is claimed of every two recordings, in words of their lines.
--     Parted a b n d part    two recordings that share n lines part as d says, and the part is what d's recording has
--                            behind those lines
--     PartClaim              that of every two, of what `compare` and `part` promise
use Rattle.std.specs.Prelude.{ℕ, ◌+◌, ◌<◌, ◌≤◌, ◌≡◌, List, [], ◌∷◌, ◌++◌, length, take, drop}
use Rattle.text.specs.Lines.{Line, lines_of, lines_bytes}
use Rattle.comparing.specs.declared.Side.TheVariants.{Reference, Other}
use Rattle.comparing.specs.declared.Departure.{Departure}
use Rattle.comparing.specs.Departure.{shared_lines, departure_of, recording_of, part_of}

pub record Parted (reference other : List ℕ) (n : ℕ) (d : Departure) (part : List ℕ) : Type 0 where
  -- so many lines are in both, and are the same
  pub within : (n ≤ length (lines_of reference)) × (n ≤ length (lines_of other))
  pub before : take n (lines_of reference) ≡ take n (lines_of other)
  -- where both go on, the next two are not
  pub next : (l m : Line) (ls ms : List Line) → drop n (lines_of reference) ≡ l ∷ ls → drop n (lines_of other) ≡ m ∷ ms
      → l ≡ m → ⊥
  -- the reference goes on; it has ended, and the other goes on; both have ended
  pub goes_on : n < length (lines_of reference) → (d.side ≡ Reference) × (d.line ≡ n + 1)
  pub ended : length (lines_of reference) ≡ n → n < length (lines_of other) → (d.side ≡ Other) × (d.line ≡ n + 1)
  pub equal : length (lines_of reference) ≡ n → length (lines_of other) ≡ n
      → (reference ≡ other) × (d.side ≡ Reference) × (d.line ≡ 0) × (part ≡ [])
  -- the part is the lines of its recording from that number on, and stands there from its place on
  pub lines : lines_of part ≡ drop n (lines_of (recording_of d.side reference other))
  pub whole : lines_bytes (take n (lines_of reference)) ++ part ≡ recording_of d.side reference other
  pub place : d.place ≡ length (lines_bytes (take n (lines_of reference)))

abbrev pub PartClaim : Type 0
PartClaim = (reference other : List ℕ) → Parted reference other (shared_lines reference other)
    (departure_of reference other) (part_of reference other)
