-- One law of the definition for each answer.
use mathlib.Core.Path.{sym, ap, ◌∙◌}
use Rattle.frame.specs.ReadLine.{LineContent, found, line_answer_of}
use Rattle.frame.specs.ReadLineLaws.{read-long, read-open, read-other, read-fed}
use Rattle.frame.proofs.frame_lines.parsing.read_line.Goals as goal

pub returns-then-line-gt-LONGEST : goal.returns-then-line-gt-LONGEST
returns-then-line-gt-LONGEST c =
    record {
      answer = let a = c.args in
          c.refuse.ensures ∙ ap (λ (r : LineContent). line_answer_of (found r a.next))
          (sym (read-long record { chars = a.line.now; fed = a.fed } c.if-line-gt-LONGEST.true));
    }

pub returns-then-not-fed : goal.returns-then-not-fed
returns-then-not-fed c =
    record {
      answer = let a = c.args in
          c.refuse-then-not-fed.ensures
          ∙ ap (λ (r : LineContent). line_answer_of (found r a.next))
          (sym (read-open record {
            chars = a.line.now;
            fed = a.fed;
          } c.if-line-gt-LONGEST.false (c.if-not-fed.true)));
    }

pub returns-then-not-digits : goal.returns-then-not-digits
returns-then-not-digits c =
    record {
      answer = let a = c.args in
          let d = c.all_digits-digits in
          let e = sym d.ensures.answer ∙ c.if-not-digits.true in
          c.refuse-then-not-digits.ensures
          ∙ ap (λ (r : LineContent). line_answer_of (found r a.next))
          (sym (read-other record {
            chars = a.line.now;
            fed = a.fed;
          } c.if-line-gt-LONGEST.false e));
    }

pub returns : goal.returns
returns c =
    record {
      answer = let a = c.args in
          let d = c.all_digits-digits in
          let e = sym d.ensures.answer ∙ c.if-not-digits.false in
          c.read_digits.ensures
          ∙ ap (λ (r : LineContent). line_answer_of (found r a.next))
          (sym
          (read-fed record {
            chars = a.line.now;
            fed = a.fed;
          } c.if-line-gt-LONGEST.false
          (c.if-not-fed.false) e));
    }
