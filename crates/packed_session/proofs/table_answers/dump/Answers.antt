-- By the definition's own tests.
use mathlib.Core.Path.{◌∙◌, ap}
use native.Mathlib.Omega.{arith}
use borrow.Author.Tests.{lt-ltb, le-ltb}
use lib.ListN.{length}
use Rattle.bench_answers.specs.Answers.{refusal_line}
use Rattle.refusals.specs.Refusals.{accepted, no_room}
use Rattle.packed_bench.specs.Table.{table_bytes}
use Rattle.packed_session.specs.TableAnswers.{text_room, dump_answer, dump_leaves}
use Rattle.packed_session.specs.TableAnswersLaws.{line-told, line-laid}
use Rattle.packed_session.proofs.table_answers.dump.Goals as goal

pub returns-then-out-lt-TEXT_ROOM : goal.returns-then-out-lt-TEXT_ROOM
unfolding dump_answer dump_leaves
returns-then-out-lt-TEXT_ROOM c =
    let out = c.args.out.now in
    let short = lt-ltb (length out) text_room c.if-out-lt-TEXT_ROOM.true in
    record { answer = rw short c.no_room.ensures.answer; written = rw short }

pub returns-then-t-lt-TABLE_BYTES : goal.returns-then-t-lt-TABLE_BYTES
unfolding dump_answer dump_leaves
returns-then-t-lt-TABLE_BYTES c =
    let a = c.args in
    let out = a.out.now in
    let wide = c.if-out-lt-TEXT_ROOM.false in
    let room = le-ltb (length out) text_room wide in
    let short = lt-ltb (length a.t.now) table_bytes c.if-t-lt-TABLE_BYTES.true in record { answer = rw (room, short) (c.refusal_line.ensures.answer ∙ line-told out (refusal_line no_room) (omega (arith, wide))); written = rw (room, short) (c.refusal_line.ensures.written ∙ line-laid out (refusal_line no_room) (omega (arith, wide))) }

pub returns : goal.returns
unfolding dump_answer dump_leaves
returns c =
    let a = c.args in
    let room = le-ltb (length a.out.now) text_room c.if-out-lt-TEXT_ROOM.false in
    let long = le-ltb (length a.t.now) table_bytes c.if-t-lt-TABLE_BYTES.false in record {
      answer = rw (room, long) (c.behind.ensures.answer ∙ ap (λ n. record { refusal = accepted; next = n })
          c.put_entries.ensures.answer);
      written = rw (room, long) c.put_entries.ensures.written;
    }
