-- A minus, or a byte, whose two digits are below 256.
use Rattle.lines.specs.FieldsLaws.{byte-below}
use Rattle.bench_requests.specs.StoreRequests.{alter_in}
use Rattle.bench_requests.proofs.settings_requests.alter_in.Goals as goal

pub returns-then-same : goal.returns-then-same
unfolding alter_in
returns-then-same c =
    rw (← c.same.ensures.answer, c.if-same.true)

pub overflow_cast-result : goal.overflow_cast-result
overflow_cast-result c =
    let read = c.read_fixed-byte.ensures.answer in
    record { fits = rw read (byte-below c.args.w.now) }

pub returns : goal.returns
unfolding alter_in
returns c =
    rw (← c.same.ensures.answer, c.if-same.false, c.read_fixed-byte.ensures.answer)
