-- The side that was answered says of which recording the part is, and the place is within that one.
use Prim.Native.Nat.{◌-◌, ◌≤◌}
use mathlib.Core.Path.{◌≡◌, ap, ◌∙◌}
use lib.ListN.{length, take, drop}
use Rattle.comparing.specs.declared.Departure.{Departure}
use Rattle.comparing.specs.declared.Side.{Side}
use Rattle.comparing.specs.declared.Side.TheVariants.{Reference, Other}
use Rattle.comparing.specs.Departure.{departure_of, recording_of, part_of, side_number}
use Rattle.comparing.specs.DepartureLaws.{from-side}
use Rattle.comparing.specs.ClaimsLaws.{parted-by}
use Rattle.comparing.proofs.part.Goals as goal
use Rattle.comparing.proofs.part.Goals.{After-compare-found, After-side_number}

-- what was found, by its side
found : (c : After-compare-found) (side : Side) → c.compare-found.result.side ≡ side →
    let a = c.args in let s = recording_of side a.reference.now a.other.now in
    let place = c.compare-found.result.place in
    (place ≤ length s) × (take (length s - place) (drop place s) ≡ part_of a.reference.now a.other.now)
found c side e =
    let a = c.args in
    from-side a.reference.now a.other.now c.compare-found.result c.compare-found.ensures.answer side e

-- the numbers that go with it
numbers : (c : After-side_number) → let a = c.args in let d =
    departure_of a.reference.now a.other.now in
    (c.side_number.result ≡ side_number d.side) × (c.compare-found.result.line ≡ d.line)
numbers c =
    let answered = c.compare-found.ensures.answer in (
      c.side_number.ensures.answer ∙ ap (λ (d : Departure). side_number d.side) answered,
      ap (λ (d : Departure). d.line) answered,
    )

pub slice_bounds-result-count : goal.slice_bounds-result-count
slice_bounds-result-count c =
    (found (goal.at.slice_bounds-result-count c).After-compare-found Reference c.in-Reference.is).0

pub slice_bounds-result-start : goal.slice_bounds-result-start
slice_bounds-result-start c =
    (found (goal.at.slice_bounds-result-start c).After-compare-found Reference c.in-Reference.is).0

pub slice_bounds-result-count-in-Other : goal.slice_bounds-result-count-in-Other
slice_bounds-result-count-in-Other c =
    (found (goal.at.slice_bounds-result-count-in-Other c).After-compare-found Other c.in-Other.is).0

pub slice_bounds-result-start-in-Other : goal.slice_bounds-result-start-in-Other
slice_bounds-result-start-in-Other c =
    (found (goal.at.slice_bounds-result-start-in-Other c).After-compare-found Other c.in-Other.is).0

pub returns-in-Reference : goal.returns-in-Reference
returns-in-Reference c =
    let a = c.args in
    let part = (found (goal.at.returns-in-Reference c).After-compare-found Reference c.in-Reference.is).1 in
    record { answer = part; side = (numbers (goal.at.returns-in-Reference c).After-side_number).0; line = (numbers (goal.at.returns-in-Reference c).After-side_number).1; parted = parted-by a.reference.now a.other.now _ part }

pub returns-in-Other : goal.returns-in-Other
returns-in-Other c =
    let a = c.args in
    let part = (found (goal.at.returns-in-Other c).After-compare-found Other c.in-Other.is).1 in
    record { answer = part; side = (numbers (goal.at.returns-in-Other c).After-side_number).0; line = (numbers (goal.at.returns-in-Other c).After-side_number).1; parted = parted-by a.reference.now a.other.now _ part }
