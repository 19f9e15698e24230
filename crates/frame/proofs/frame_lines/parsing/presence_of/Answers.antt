-- Digits in the front of a line of digits are a number.
use mathlib.Core.Path.{◌≡◌, ap, ◌∙◌}
use native.Mathlib.Omega.{arith}
use lib.ListN.{length, take}
use lib.Seq.{length-take-le}
use Rattle.basic_laws.specs.FoldLaws.{all_take}
use Rattle.text.specs.declared.NumberRead.{NumberRead}
use Rattle.text.specs.Digits.{is_digit}
use Rattle.text.specs.NumbersLaws.{fixed-hex}
use Rattle.frame.proofs.frame_lines.parsing.presence_of.Goals as goal

pub returns : goal.returns
returns c =
    let cs = c.args.line.now in
    let size : length (take 2 cs) ≡ 2 = let l = c.requires.0 in length-take-le 2 cs (omega arith) in
    ap (λ (r : NumberRead). r.number) (c.read_fixed-read.ensures.answer
    ∙ fixed-hex 2 (take 2 cs) size (omega arith) (all_take (is_digit 16) 2 cs c.requires.1))
