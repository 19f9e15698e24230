-- Each arm lays its details one behind the other.
use Prim.Native.Nat.{ℕ, ◌+◌, ◌≤◌}
use mathlib.Core.Path.{◌≡◌, sym, ap, ◌∙◌}
use mathlib.Core.List.{◌∷◌}
use native.Mathlib.Omega.{arith}
use lib.ListN.{length}
use Rattle.basic_laws.specs.LaidLaws.{laid_none, laid_then}
use Rattle.text.specs.Digits.{hex_digits}
use Rattle.text.specs.Lines.{space}
use Rattle.naming.specs.PrintingLaws.{spaced-length, pad-length}
use borrow.Author.Rules.{rules}
use Rattle.naming.proofs.printing.put_detail.Goals as goal

pub returns-in-Search : goal.returns-in-Search
returns-in-Search c = record {
  answer = rw c.in-Search.is (ap (λ (n : ℕ). c.args.at + n) (sym (spaced-length 16 c.args.code)));
  written = search rules;
}

pub returns-in-Alarm : goal.returns-in-Alarm
returns-in-Alarm c = record {
  answer = rw c.in-Alarm.is (ap (λ (n : ℕ). c.args.at + n) (sym (spaced-length 16 c.args.code)));
  written = search rules;
}

pub returns-in-Pad : goal.returns-in-Pad
returns-in-Pad c =
    let s = c.args.s.now in
    let at = c.args.at in
    let l = spaced-length 16 c.args.code in
    let r : at + 17 ≤ length s = omega arith in
    let b : at + length (space ∷ hex_digits 16 c.args.code) ≡ at + 17 = omega arith in
    record {
      answer = rw c.in-Pad.is (ap (λ (n : ℕ). at + n) (sym (pad-length c.args.code c.args.raw)));
      written = rw c.in-Pad.is (c.put_spaced-in-Pad-2.ensures ∙ rw c.put_spaced-in-Pad.ensures
          (laid_then s at (space ∷ hex_digits 16 c.args.code) (space ∷ hex_digits 4 c.args.raw) (at + 17) b r));
    }

pub returns-in-Empty-clause-written : goal.returns-in-Empty-clause-written
returns-in-Empty-clause-written c = rw c.in-Empty.is (laid_none _ _)

pub returns-in-Nobody-clause-written : goal.returns-in-Nobody-clause-written
returns-in-Nobody-clause-written c = rw c.in-Nobody.is (laid_none _ _)

pub returns-in-Other-clause-written : goal.returns-in-Other-clause-written
returns-in-Other-clause-written c = rw c.in-Other.is (laid_none _ _)
