-- Too few bytes have no records; else those of the entries.
use native.Mathlib.Omega.{arith}
use mathlib.Core.Path.{refl}
use borrow.Author.Tests.{lt-ltb, le-ltb}
use Rattle.packed_bench.proofs.entries.read.Goals as goal

pub returns-then-t-lt-TABLE_BYTES : goal.returns-then-t-lt-TABLE_BYTES
returns-then-t-lt-TABLE_BYTES c =
    record { answer = rw (lt-ltb _ _ c.if-t-lt-TABLE_BYTES.true) refl; few = omega arith }

pub returns : goal.returns
returns c =
    record { answer = rw (le-ltb _ _ c.if-t-lt-TABLE_BYTES.false) c.read_entries.ensures.answer; few = c.read_entries.ensures.few }
