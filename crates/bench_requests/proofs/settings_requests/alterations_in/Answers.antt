-- Field by field.
use Rattle.bench_requests.specs.StoreRequests.{alterations_in}
use Rattle.bench_requests.proofs.settings_requests.alterations_in.Goals as goal

pub returns : goal.returns
unfolding alterations_in
returns c =
    rw (
      c.both-2.ensures.answer,
      c.both.ensures.answer,
      c.alter_in-h.ensures,
      c.alter_in-l.ensures,
      c.alter_in-c.ensures,
    )
