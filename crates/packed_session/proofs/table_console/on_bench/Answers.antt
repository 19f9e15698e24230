-- Refused bytes are told and stay; else what the console answered on the bench of the bytes is said, and the bench that
-- it left is packed.
use borrow.Author.Tests.{le-leb}
use lib.ListN.{length}
use Rattle.text.specs.Lines.{Line}
use Rattle.bench_answers.specs.Whole.{room}
use Rattle.bench_session.specs.Console.{answered, asked}
use Rattle.packed_session.specs.TableAnswers.{refused_on_table}
use Rattle.packed_session.specs.KeptLaws.{answered-keeps}
use Rattle.packed_session.specs.OnBenchLaws.{refused-told, answered-told}
use Rattle.packed_bench.specs.TableLaws.{packed-kept}
use Rattle.packed_session.proofs.table_console.on_bench.Goals as goal

pub returns-then-refusal-ne-ACCEPTED : goal.returns-then-refusal-ne-ACCEPTED
returns-then-refusal-ne-ACCEPTED c =
    let l : Line = record { chars = c.args.line.now; fed = c.args.fed } in let all = refused-told (λ b. answered b (asked l)) (λ n. refused_on_table n (asked l)) c.args.t.now c.args.out.now
    c.requires c.unpack-there.result c.unpack-there.ensures.answer c.if-refusal-ne-ACCEPTED.true c.refuse.result
    c.refuse.new.out c.refuse.ensures.answer c.refuse.ensures.written in record { answer = all.0; written = all.1.0; table = all.1.1.0; after = all.1.1.1 }

pub returns : goal.returns
returns c =
    let l : Line = record { chars = c.args.line.now; fed = c.args.fed } in
    let enough = le-leb room (length c.args.out.now) c.requires in let all = answered-told (λ b. answered b (asked l)) (λ n. refused_on_table n (asked l)) c.args.t.now c.args.out.now
    c.requires c.unpack-there.result c.unpack-there.ensures.answer (answered-keeps (asked l)) c.if-refusal-ne-ACCEPTED.false c.answer-said.result
    _ _ (rw enough at c.answer-said.ensures.answer) (rw enough at c.answer-said.ensures.written)
    c.pack.ensures.written (packed-kept _ c.args.t.now _ c.pack.result c.pack.ensures.answer
    c.pack.ensures.back) in record { answer = all.0; written = all.1.0; table = all.1.1.0; after = all.1.1.1 }
