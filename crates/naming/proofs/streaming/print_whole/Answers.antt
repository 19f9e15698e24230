use Rattle.std.proofs.Common.{◌≡◌, ℕ, List, true, ◌≤◌, ◌+◌, ◌∙◌, length, ap, sym, refl, rules, arith, length-drop}
use Rattle.std.specs.Slice.Iter.{split_inclusive_rest}
use Rattle.std.proofs.lemmas.Fn.{always_returns_same}
use Rattle.text.specs.Laying.{lay_answer, lay_leaves}
use Rattle.frame.proofs.SplitLaws.{Parted, parted, split-before, split-left, split-fed, split-open}
use Rattle.pieces.specs.Walk.{here-room, running_more, running-done, running-open}
use Rattle.naming.specs.Printing.{printed_line}
use Rattle.naming.specs.Streaming.{most_printed}
use Rattle.naming.proofs.StreamingLaws.{text-short}
use Rattle.naming.proofs.streaming.print_whole.Goals as goal
use Rattle.naming.proofs.streaming.print_whole.Goals.{After-strip_suffix}

-- the part that a turn splits off
here : (c : After-strip_suffix)
    → Parted c.args.s.now c.loop-line.at c.in-Some.line.now (split_inclusive_rest c.next.new.self)
here c =
    parted c.loop-line.invariant.left c.in-Some.ensures.steps
    (always_returns_same _ _ _ (λ a r f k. (search rules, search rules)))

pub loop-line-preserved : goal.loop-line-preserved
loop-line-preserved c =
    let p = here (goal.at.loop-line-preserved c).After-strip_suffix in
    let cases = c.in-Some-strip_suffix.ensures.cases in
    let fed = split-fed _ _ _ _ p c.in-Some-strip_suffix.chars.now cases.1 cases.2 cases.0 in
    let running = c.loop-line.invariant.running in
    let before = split-before _ _ _ _ p in
    let room = here-room printed_line most_printed text-short _ _ _ _ _ running _ before fed.0 fed.1 c.requires in
    let more = running_more printed_line most_printed text-short _ _ _ _ _ running _ before fed.0 fed.1 room in
    let printed = c.print_line-written in
    let next : c.loop-line.at + length c.in-Some-strip_suffix.chars.now + 1
    ≡ c.loop-line.at + length c.in-Some.line.now =
    omega (arith, cases.2) in
    record {
      callable = c.loop-line.invariant.callable;
      finite = search rules;
      left = split-left _ _ _ _ p;
      running = rw next at (more printed.result printed.new.out
          (printed.ensures.answer
          ∙ ap (λ (cs : List ℕ). lay_answer c.loop-line.out c.loop-line.written
          (printed_line record { chars = cs; fed = true })) fed.2)
          (printed.ensures.written
          ∙ ap (λ (cs : List ℕ). lay_leaves c.loop-line.out c.loop-line.written
          (printed_line record { chars = cs; fed = true })) fed.2));
    }

pub returns-in-None : goal.returns-in-None
returns-in-None c =
    let none = ap length (sym c.loop-line.invariant.left) ∙ c.in-None.ensures.steps.0 in
    let size = length-drop c.loop-line.at c.args.s.now in
    let past : length c.args.s.now ≤ c.loop-line.at = omega arith in
    let e = running-done printed_line most_printed _ _ _ _ _ c.loop-line.invariant.running past in
    record { answer = e.0; written = e.1 }

pub returns-in_default : goal.returns-in_default
returns-in_default c =
    let p = here (goal.at.returns-in_default c).After-strip_suffix in
    let open-end = split-open _ _ _ _ p (search rules) in
    let e = running-open printed_line most_printed _ _ _ _ _ c.loop-line.invariant.running _
    (split-before _ _ _ _ p) refl open-end in
    record { answer = e.0; written = e.1 }
