-- The bytes written again are the definition's, over zeros as long as a table; the test is the definition's too.
use Prim.Native.Nat.{ℕ, ◌≤◌}
use mathlib.Core.List.{List}
use mathlib.Core.Path.{◌∙◌, ap, refl}
use lib.Dec.{lit≤}
use lib.ListN.{length, take, replicate, length-replicate}
use lib.Seq.{length-take-le}
use Rattle.basic_laws.specs.Same.{same}
use Rattle.packed_bench.specs.Table.{table_bytes}
use Rattle.packed_bench.specs.LoopLaws.{laid-whole}
use Rattle.packed_bench.specs.TableLaws.{written_over_lem}
use borrow.Author.Rules.{rules}
use Rattle.packed_bench.proofs.table.is_packed.Goals as goal

pub slice_bounds-same-end-2 : goal.slice_bounds-same-end-2
slice_bounds-same-end-2 c =
    search (rules, length-take-le)

pub returns : goal.returns
returns c =
    let zeros : List ℕ = replicate table_bytes 0 in
    let enough : table_bytes ≤ length zeros = rw (length-replicate {A = ℕ} table_bytes 0) (lit≤ tt) in
    c.same.ensures.answer ∙ ap (λ l. same l (take table_bytes c.args.t.now)) (c.write.ensures.written
    ∙ written_over_lem zeros _ enough ∙ laid-whole zeros _ refl)
