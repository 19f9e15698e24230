use Rattle.std.proofs.Common.{length, length-append, arith, rules}
use Rattle.std.proofs.lemmas.Slice.Zip.{zip_turn, zip_end}
use Rattle.bench_answers.specs.PinLinesLaws.{put-none, put-more, put_all}
use Rattle.bench_answers.proofs.pin_answers.put_pins.Goals as goal

pub loop-code-init : goal.loop-code-init
loop-code-init c =
    put-none c.args.out.now c.args.at c.args.codes.now c.args.pins.now c.requires.0 c.requires.1

pub loop-code-preserved : goal.loop-code-preserved
loop-code-preserved c =
    let a = c.args in
    let l = c.loop-code in
    let turn = zip_turn a.codes.now a.pins.now l.yielded c.into_iter-code-iterator.result l.code-iterator
    c.next.new.self c.next.result (search rules) (search rules) l.yielded_by _ c.in-Some.is c.next.ensures.steps in
    let put = rw (turn.2 0, turn.3 0) at c.put_pin-to.ensures in
    rw (length-append l.yielded _) (put-more a.out.now a.at a.codes.now a.pins.now c.requires.0 c.requires.1
    (length l.yielded) l.to l.out c.put_pin-to.new.out c.put_pin-to.result turn.0 l.invariant put.0 put.1)

pub returns : goal.returns
returns c =
    let a = c.args in
    let l = c.loop-code in
    let end = zip_end a.codes.now a.pins.now l.yielded c.into_iter-code-iterator.result l.code-iterator
    c.next.new.self c.next.result (search rules) (search rules) l.yielded_by c.in-None.is c.next.ensures.steps in
    let same = c.requires.0 in
    put_all a.out.now a.at a.codes.now a.pins.now c.requires.0 c.requires.1 (length l.yielded) l.to l.out
    (omega arith) (omega arith) l.invariant
