-- The table is zeros, and the store is empty.
use Rattle.std.proofs.Common.{refl}
use Rattle.packed_console.proofs.empty_table.Goals as goal

pub returns : goal.returns
returns c = rw c.new.ensures.answer refl
