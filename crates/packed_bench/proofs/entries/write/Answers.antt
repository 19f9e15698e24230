-- Too few bytes stay as they are; else the entries are written.
use native.Mathlib.Omega.{arith}
use mathlib.Core.Path.{refl}
use borrow.Author.Tests.{lt-ltb, le-ltb}
use Rattle.packed_bench.proofs.entries.write.Goals as goal

pub returns-then-t-lt-TABLE_BYTES : goal.returns-then-t-lt-TABLE_BYTES
returns-then-t-lt-TABLE_BYTES c =
    record { written = rw (lt-ltb _ _ c.if-t-lt-TABLE_BYTES.true) refl; typed = λ enough. absurd (omega (arith, c.if-t-lt-TABLE_BYTES.true)) }

pub returns : goal.returns
returns c =
    record { written = rw (le-ltb _ _ c.if-t-lt-TABLE_BYTES.false) c.write_entries.ensures.written; typed = λ enough. c.write_entries.ensures.typed }
