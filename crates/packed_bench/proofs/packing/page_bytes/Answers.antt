-- Each byte by what its call answers.
use Rattle.packed_bench.proofs.packing.page_bytes.Goals as goal

pub returns : goal.returns
returns c =
    record { answer = rw (c.unit_byte.ensures.answer, c.truth_byte.ensures.answer, c.register_of-register.ensures.answer); typed = c.unit_byte.ensures.typed }
