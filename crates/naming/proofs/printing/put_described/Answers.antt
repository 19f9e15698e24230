-- A refusal's text, or two parts, laid one behind the other.
use Prim.Native.Nat.{◌+◌}
use mathlib.Core.Path.{◌≡◌, ap, ◌∙◌}
use native.Mathlib.Omega.{arith}
use lib.ListN.{length}
use Rattle.text.specs.declared.laying.Written.{Written}
use Rattle.naming.specs.Printing.{word}
use Rattle.naming.specs.PrintingLaws.{word-length, word_next, word-laid, refused-described, named-laid}
use Rattle.naming.proofs.printing.put_described.Goals as goal
use Rattle.naming.proofs.printing.put_described.Goals.{After-put_word-word}

-- the place behind the word
behind : (c : After-put_word-word) → c.put_word-word.result.next
    ≡ 0 + length (word c.args.named.name)
behind c =
    ap (λ (w : Written). w.next) c.put_word-word.ensures.answer ∙ word_next c.args.s.now c.args.named c.requires

pub returns-then-refusal-ne-ACCEPTED : goal.returns-then-refusal-ne-ACCEPTED
returns-then-refusal-ne-ACCEPTED c =
    rw (← refused-described c.args.s.now c.args.named c.requires c.if-refusal-ne-ACCEPTED.true)
    c.put_refused.ensures

pub put_detail-requires : goal.put_detail-requires
put_detail-requires c =
    let short = word-length c.args.named.name in
    let place = behind (goal.at.put_detail-requires c).After-put_word-word in
    let size = c.put_word-word.auto.s in
    omega arith

pub returns : goal.returns
returns c =
    let both = named-laid c.args.s.now c.args.named c.requires c.put_word-word.result.next
    c.if-refusal-ne-ACCEPTED.false (behind (goal.at.returns c).After-put_word-word) in
    let first = c.put_word-word.ensures.written ∙ word-laid c.args.s.now c.args.named c.requires in
    record { answer = c.put_detail.ensures.answer ∙ both.0; written = c.put_detail.ensures.written ∙ rw first both.1 }
