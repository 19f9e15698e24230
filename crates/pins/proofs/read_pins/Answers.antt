-- Without room the refusal; with room the search and its reads. What the call comes to after every history is the claim
-- of `access_laws`.
use lib.ListN.{length}
use Rattle.basic_laws.specs.LaidLaws.{laid_none}
use Rattle.access_laws.proofs.PinningLaws.{pins-promised}
use Rattle.pins.specs.OutcomeLaws.{few-places, enough-places}
use Rattle.pins.proofs.read_pins.Goals as goal

pub returns-then-list-lt-FEWEST_PLACES : goal.returns-then-list-lt-FEWEST_PLACES
returns-then-list-lt-FEWEST_PLACES c =
    let a = c.args in
    let few = few-places a.bench (length a.list.now) c.if-list-lt-FEWEST_PLACES.true in
    record { answer = rw few c.refuse.ensures; listed = rw few (laid_none a.list.now 0); history = pins-promised _ _ }

pub returns : goal.returns
returns c =
    let a = c.args in
    let done = c.search_and_read.ensures in
    let enough = enough-places a.bench (length a.list.now) c.if-list-lt-FEWEST_PLACES.false in
    record { answer = rw enough done.answer; listed = rw enough done.listed; history = pins-promised _ _ }
