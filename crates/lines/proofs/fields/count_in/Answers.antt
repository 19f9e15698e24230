-- A number of five digits with its sign fits sixteen bits where its reader takes it; behind a minus stands the rest of
-- the word.
use Prim.Native.Nat.{◌-◌}
use lib.ListN.{length, take, drop}
use Rattle.text.specs.Numbers.{decimal_read}
use mathlib.Core.Path.{◌≡◌, refl, sym, ap, ◌∙◌}
use native.Mathlib.Omega.{arith}
use Rattle.basic_laws.proofs.ComplementLaws.{positive-code, negative-wide-fits, negative-code-fits, negative-code}
use Rattle.text.specs.NumbersLaws.{decimal-at-most}
use Rattle.lines.specs.Fields.{count_in}
use Rattle.text.specs.DecimalLaws.{negative-some, rest-whole}
use borrow.Author.Rules.{rules}
use Rattle.lines.proofs.fields.count_in.Goals as goal

pub slice_bounds-read_decimal-count : goal.slice_bounds-read_decimal-count
slice_bounds-read_decimal-count c =
    let minus = negative-some c.args.w.now (sym c.is_negative.ensures.answer
    ∙ c.if-is_negative.true) in
    search (rules, minus)

pub slice_bounds-read_decimal-start : goal.slice_bounds-read_decimal-start
slice_bounds-read_decimal-start c =
    let minus = negative-some c.args.w.now (sym c.is_negative.ensures.answer
    ∙ c.if-is_negative.true) in
    search (rules, minus)

pub overflow_cast-size : goal.overflow_cast-size
overflow_cast-size c =
    let w = c.args.w.now in
    let most = rw (← c.read_decimal-below.ensures.answer) at (decimal-at-most 5 32768 (take (length w - 1) (drop 1 w))) in
    record { sfits = omega arith }

pub overflow_sub-result : goal.overflow_sub-result
overflow_sub-result c =
    let w = c.args.w.now in
    let most = rw (← c.read_decimal-below.ensures.answer) at (decimal-at-most 5 32768 (take (length w - 1) (drop 1 w))) in
    negative-wide-fits _ most

pub overflow_cast-result : goal.overflow_cast-result
overflow_cast-result c =
    let w = c.args.w.now in
    let most = rw (← c.read_decimal-below.ensures.answer) at (decimal-at-most 5 32768 (take (length w - 1) (drop 1 w))) in
    negative-code-fits _ most

pub returns-then-is_negative : goal.returns-then-is_negative
unfolding count_in
returns-then-is_negative c =
    record {
      answer = let w = c.args.w.now in
          let most = rw (← c.read_decimal-below.ensures.answer) at (decimal-at-most 5 32768 (take (length w - 1) (drop 1 w))) in
          let rest : c.read_decimal-below.result ≡ decimal_read 5 32768 (drop 1 w) =
          c.read_decimal-below.ensures.answer ∙ ap (decimal_read 5 32768) (rest-whole w (length w - 1) refl) in
          rw (negative-code _ most, ← c.is_negative.ensures.answer, c.if-is_negative.true, ← rest);
    }

pub overflow_cast-result-2 : goal.overflow_cast-result-2
overflow_cast-result-2 c =
    let w = c.args.w.now in
    let most = rw (← c.read_decimal-above.ensures.answer) at (decimal-at-most 5 32767 w) in
    record { sfits = omega arith }

pub returns : goal.returns
unfolding count_in
returns c =
    record {
      answer = let read = c.read_decimal-above.ensures.answer in
          let w = c.args.w.now in
          let most = rw (← read) at (decimal-at-most 5 32767 w) in
          rw (positive-code _ most, ← c.is_negative.ensures.answer, c.if-is_negative.false, ← read);
    }
