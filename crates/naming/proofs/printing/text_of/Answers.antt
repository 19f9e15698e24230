-- The text and the feed behind it.
use Prim.Native.Nat.{◌<◌}
use native.Mathlib.Omega.{arith}
use mir.Syntax.{w8}
use mir.Val.{Fits}
use Rattle.naming.specs.PrintingLaws.{described-length, text-made}
use borrow.Author.Rules.{rules}
use Rattle.naming.proofs.printing.text_of.Goals as goal
use Rattle.naming.proofs.printing.text_of.Goals.{Start}

-- a refusal is a byte
refusal-fits : (c : Start) → Fits w8 c.args.named.refusal
refusal-fits c =
    search rules

small : (c : Start) → c.args.named.refusal < 256
small c =
    (refusal-fits c).fits

pub bounds-bytes-end : goal.bounds-bytes-end
bounds-bytes-end c =
    let l = described-length c.args.named (small (goal.at.bounds-bytes-end c).Start) in
    let e = c.put_described-end.ensures.answer in
    omega arith

pub overflow_add-result : goal.overflow_add-result
overflow_add-result c =
    let l = described-length c.args.named (small (goal.at.overflow_add-result c).Start) in
    let e = c.put_described-end.ensures.answer in
    omega arith

pub returns : goal.returns
returns c =
    text-made c.args.named (small (goal.at.returns c).Start) c.put_described-end.new.s
    c.put_described-end.result c.put_described-end.ensures.answer c.put_described-end.ensures.written
