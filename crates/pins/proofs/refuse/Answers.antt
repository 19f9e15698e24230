-- Nothing is listed, and nobody shares a pin.
use Rattle.pins.specs.ReadingLaws.{nobody-shares, nothing-laid}
use Rattle.pins.proofs.refuse.Goals as goal

pub returns : goal.returns
returns c =
    rw (← nobody-shares, ← nothing-laid)
