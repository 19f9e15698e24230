-- Either the device's bytes or zeros, as the definition has it.
use Prim.Native.Nat.{◌<◌}
use mathlib.Core.Path.{◌≡◌, ◌∙◌, subst}
use native.Mathlib.Omega.{arith}
use lib.ListN.{length}
use Rattle.basic_laws.specs.Places.{getD-within}
use Rattle.packed_bench.specs.Types.{InTypes}
use Rattle.packed_bench.specs.LoopLaws.{entry-there, entry-none}
use borrow.Author.Rules.{rules}
use Rattle.packed_bench.proofs.entries.entry_of.Goals as goal
use Rattle.packed_bench.proofs.entries.entry_of.Goals.{Start}

long : (c : Start) → length c.args.devices ≡ 32
long c =
    search rules

pub returns-then-place-count : goal.returns-then-place-count
returns-then-place-count c =
    let l = long (goal.at.returns-then-place-count c).Start in
    let h : c.args.place < length c.args.devices = omega arith in record {
      answer = c.pack.ensures.answer ∙ entry-there c.args.devices c.args.count c.args.place
          _ c.if-place-count.true h;
      typed = (λ k. subst InTypes (getD-within c.args.devices c.args.place _ _ h) c.pack.ensures.typed);
    }

pub returns : goal.returns
returns c =
    let left = c.if-place-count.false in
    record { answer = entry-none c.args.devices c.args.count c.args.place left; typed = (λ k. absurd (omega arith)) }
