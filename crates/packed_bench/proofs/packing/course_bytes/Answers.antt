-- The bytes of the two cases.
use Rattle.packed_bench.proofs.packing.course_bytes.Goals as goal

pub returns : goal.returns
returns c =
    record { answer = rw (c.activity_case-a.ensures.answer, c.stage_case-s.ensures.answer) }
