-- The characters that fit are laid behind those that are held, which is what is held of both.
use Prim.Native.Nat.{◌-◌}
use mathlib.Core.Path.{◌≡◌, refl, ap, ◌∙◌}
use native.Mathlib.Nat.{sub-zero}
use lib.ListN.{take, drop}
use Rattle.text.specs.Laying.{lay_leaves}
use Rattle.text.proofs.LayingLaws.{lay-fits}
use Rattle.host.specs.Laws.{held-size, held-within, held-laid}
use Rattle.host.proofs.hold.Goals as goal

pub returns : goal.returns
returns c =
    let line = c.args.line.now in
    let more = c.args.more.now in
    let from = c.least-start.result in
    let count = c.least-count.result in
    let begins = c.least-start.ensures in
    let counts = c.least-count.ensures in
    let part : take (count - 0) (drop 0 more) ≡ take count more = rw (sub-zero count) refl in
    let fits = held-within line c.args.held more from count begins counts c.requires in record {
      answer = held-size line c.args.held more from count begins counts c.requires;
      written = c.lay.ensures.written ∙ ap (lay_leaves line from) part ∙ (lay-fits line from (take count more) fits).1
          ∙ held-laid line c.args.held more from count begins counts c.requires;
    }
