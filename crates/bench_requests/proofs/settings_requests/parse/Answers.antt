-- By the definition's own test.
use borrow.Author.Tests.{lt-leb, le-leb}
use Rattle.bench_requests.specs.StoreRequests.{store_request_of}
use Rattle.bench_requests.proofs.settings_requests.parse.Goals as goal

pub returns-then-line-gt-LONGEST : goal.returns-then-line-gt-LONGEST
unfolding store_request_of
returns-then-line-gt-LONGEST c =
    record { answer = simp (lt-leb _ _ c.if-line-gt-LONGEST.true) }

pub returns : goal.returns
unfolding store_request_of
returns c =
    record { answer = simp (le-leb _ _ c.if-line-gt-LONGEST.false, c.of_words.ensures) }
