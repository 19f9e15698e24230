-- A store behind what is lent would change nothing.
use mathlib.Core.Path.{sym, refl}
use borrow.Author.Tests.{lt-ltb, le-ltb}
use lib.ListN.{length}
use lib.Seq.{set_out}
use Rattle.packed_session.proofs.table_answers.poke.Goals as goal

pub returns-then-place-t : goal.returns-then-place-t
returns-then-place-t c =
    let a = c.args in record { answer = rw (lt-ltb a.place (length a.t.now) c.if-place-t.true); written = refl }

pub returns : goal.returns
returns c =
    let a = c.args in record { answer = rw (le-ltb a.place (length a.t.now) c.if-place-t.false); written = sym (set_out a.t.now a.place a.byte c.if-place-t.false) }
