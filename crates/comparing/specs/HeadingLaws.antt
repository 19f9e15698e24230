-- The line is short, is the word and then the number, and is what a call leaves at the front of its buffer.
use Rattle.std.specs.Prelude.{ℕ, ◌<◌, ◌≤◌, ◌≡◌, Bool, true, false, List, [], ◌∷◌, ◌++◌, eqb, length, take}
use Rattle.std.proofs.Common.{ap, ◌∙◌, arith, lit≤, length-append}
use Rattle.std.specs.Prelude.{if◌then◌else◌}
use Rattle.basic_laws.specs.LaidLaws.{laid-read}
use Rattle.text.specs.Ascii.{ascii}
use Rattle.text.specs.Decimal.{decimal}
use Rattle.text.specs.DecimalLaws.{decimal-length, decimal-most}
use Rattle.text.specs.Lines.{line_feed, space}
use Rattle.text.specs.Laying.{has_room}
use Rattle.text.specs.declared.laying.Written.{Written}
use Rattle.text.specs.Putting.{Puts, line_room, line_answer, line_leaves}
use Rattle.text.proofs.PuttingLaws.{puts-field}
use Rattle.comparing.specs.Departure.{departure_of, side_number}
use Rattle.comparing.specs.declared.Side.TheVariants.{Other}
use Rattle.comparing.specs.Heading.{side_word, heading_of, heading_for}

-- every word is short
word-short : (side n : ℕ) → length (side_word side n) ≤ 9
word-short side n = by_tests (eqb n 0) (eqb side (side_number Other))
  where
    by_tests : (t u : Bool) → length (if t then ascii "equal" else if u then ascii "other" else ascii "reference") ≤ 9
    by_tests true u = lit≤ tt
    by_tests false true = lit≤ tt
    by_tests false false = lit≤ tt

-- and so is a number of 64 bits
pub heading-short : (side n : ℕ) → n < 18446744073709551616 → length (heading_of side n) ≤ line_room
unfolding heading_of
heading-short side n h =
    let w = word-short side n in
    let k : n < 100000000000000000000 = omega arith in
    let d = decimal-most n 19 k in
    let l = decimal-length n in
    simp length-append (omega arith)

pub heading-puts : (side n : ℕ) {d : List ℕ} {d₁ : List ℕ} {at : ℕ} → Puts d 0 (side_word side n ++ space ∷ []) d₁ at
    → {d₂ : List ℕ} {m : ℕ}
    → Puts d₁ at (decimal n ++ line_feed ∷ []) d₂ m → Puts d 0 (heading_of side n) d₂ m
unfolding heading_of
heading-puts side n one two = puts-field (side_word side n) space one two

-- what a call left at the front of its buffer, so much of it as the call answered
pub heading-shown : (reference other out : List ℕ) (side n : ℕ) (w : Written) (after : List ℕ)
    → has_room out 0 line_room ≡ true
    → w ≡ line_answer out 0 (heading_of side n) → after ≡ line_leaves out 0 (heading_of side n)
    → side ≡ side_number (departure_of reference other).side → n ≡ (departure_of reference other).line
    → take w.next after ≡ heading_for reference other
heading-shown reference other out side n w after room answer leaves s l =
    let x = heading_of side n in
    let size : w.next ≡ length x = ap (λ (v : Written). v.next) answer ∙ rw room (omega arith) in
    let front : take w.next after ≡ x = rw (size, leaves, room) (laid-read out 0 x (omega arith)) in
    front ∙ rw (s, l)
