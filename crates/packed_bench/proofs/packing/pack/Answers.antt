-- The parts of eight bytes, laid one after another.
use Prim.Native.Nat.{◌<◌, ◌^◌}
use mathlib.Core.Path.{◌≡◌}
use lib.ListN.{length}
use Rattle.packed_bench.specs.Laws.{packed-laid}
use borrow.Author.Rules.{rules}
use Rattle.packed_bench.proofs.packing.pack.Goals as goal
use Rattle.packed_bench.proofs.packing.pack.Goals.{Start}

code_fits : (c : Start) → c.args.d.code < 256 ^ 8
code_fits c =
    search rules

pad-length : (c : Start) → length c.args.d.scratchpad ≡ 8
pad-length c =
    search rules

pub returns : goal.returns
returns c =
    let d = c.args.d in record {
      answer = rw (
        c.with_eight.ensures.answer,
        c.page_bytes.ensures.answer,
        c.with_eight-kept.ensures.answer,
        c.kept_bytes.ensures.answer,
        c.with_eight-staged.ensures.answer,
        c.course_bytes.ensures.answer,
        c.with_eight-padded.ensures.answer,
        c.with_eight-coded.ensures.answer,
        c.code_bytes-code.ensures.answer,
      )
          (packed-laid d (pad-length (goal.at.returns c).Start));
      typed = record { code_fits = code_fits (goal.at.returns c).Start; pad-length = pad-length (goal.at.returns c).Start; reading-fits = c.page_bytes.ensures.typed };
    }
