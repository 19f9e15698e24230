-- Digits in the front of a line of digits are a number.
use Prim.Native.Nat.{◌^◌, ◌<◌}
use mathlib.Core.Path.{◌≡◌, ap, ◌∙◌}
use mathlib.Core.Bool.{true}
use native.Mathlib.Omega.{arith}
use lib.ListN.{length, take, drop, length-drop}
use lib.Seq.{length-take-le}
use Rattle.basic_laws.specs.FoldLaws.{all_take, all_drop}
use Rattle.text.specs.declared.NumberRead.{NumberRead}
use Rattle.text.specs.Digits.{is_digit, spells}
use Rattle.text.specs.DigitsLaws.{number-below}
use Rattle.text.specs.NumbersLaws.{fixed-hex}
use Rattle.frame.specs.ReadLine.{slot_count_in}
use Rattle.frame.proofs.frame_lines.parsing.count_of.Goals as goal
use Rattle.frame.proofs.frame_lines.parsing.count_of.Goals.{After-read_fixed-read, Start}

-- the four digits, and the number that was read
four : (c : Start) → length (take 4 (drop 2 c.args.line.now)) ≡ 4
four c =
    let cs = c.args.line.now in let l = length-drop 2 cs in let m = c.requires.0 in
    length-take-le 4 (drop 2 cs) (omega arith)

spelt : (c : Start) → spells 16 (take 4 (drop 2 c.args.line.now)) ≡ true
spelt c =
    let cs = c.args.line.now in all_take (is_digit 16) 4 (drop 2 cs) (all_drop (is_digit 16) 2 cs c.requires.1)

read : (c : After-read_fixed-read) → c.read_fixed-read.result.number
    ≡ slot_count_in c.args.line.now
read c =
    ap (λ (r : NumberRead). r.number) (c.read_fixed-read.ensures.answer
    ∙ fixed-hex 4 (take 4 (drop 2 c.args.line.now)) (four (c.before.before.before.before)) (omega arith) (spelt (c.before.before.before.before)))

pub overflow_cast-result : goal.overflow_cast-result
overflow_cast-result c =
    let below : slot_count_in c.args.line.now < 16 ^ 4 =
    rw (four (goal.at.overflow_cast-result c).Start) at (number-below 16 (take 4 (drop 2 c.args.line.now)) (spelt (goal.at.overflow_cast-result c).Start)) in
    let is = read (goal.at.overflow_cast-result c).After-read_fixed-read in
    record { fits = omega arith }

pub returns : goal.returns
returns c =
    read (goal.at.returns c).After-read_fixed-read
