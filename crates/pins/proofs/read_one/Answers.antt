-- After an accepted reply one code more.
use mathlib.Core.Path.{sym, ◌∙◌}
use native.Mathlib.Omega.{arith}
use Rattle.pins.specs.ReadingLaws.{holds_read}
use Rattle.pins.proofs.read_one.Goals as goal

pub returns : goal.returns
returns c =
    let some = sym c.is_pinned.ensures.answer ∙ c.if-not-is_pinned.false in
    let done = rw c.read_at-access.ensures.answer at c.if-access-ne-ACCEPTED.false in
    let a = c.args in (
      omega arith,
      λ list0 f h. rw c.read_at-access.ensures.answer
          (holds_read list0 a.list.now a.r f a.code h some done c.requires.0),
    )
