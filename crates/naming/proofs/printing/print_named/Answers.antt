-- The text is as long as its count says, and is laid where it fits.
use Prim.Native.Nat.{◌-◌, ◌≤◌}
use mathlib.Core.Path.{◌≡◌}
use lib.ListN.{length, take, drop}
use mir.Syntax.{w8}
use mir.Val.{Fits}
use Rattle.naming.specs.Printing.{printed_name}
use Rattle.naming.specs.PrintingLaws.{text-fits, text-read}
use borrow.Author.Rules.{rules}
use Rattle.naming.proofs.printing.print_named.Goals as goal
use Rattle.naming.proofs.printing.print_named.Goals.{Start}

-- a refusal is a byte
refusal-fits : (c : Start) → Fits w8 c.args.named.refusal
refusal-fits c =
    search rules

pub slice_bounds-lay-end : goal.slice_bounds-lay-end
slice_bounds-lay-end c =
    let within : c.text_of-line.result.count ≤ length c.text_of-line.result.bytes =
    rw c.text_of-line.ensures (text-fits c.args.named (refusal-fits (goal.at.slice_bounds-lay-end c).Start).fits) in
    within

pub returns : goal.returns
returns c =
    let read : take (c.text_of-line.result.count - 0) (drop 0 c.text_of-line.result.bytes)
    ≡ printed_name c.args.named = rw c.text_of-line.ensures (text-read c.args.named) in
    record { answer = rw (← read) c.lay.ensures.answer; written = rw (← read) c.lay.ensures.written }
