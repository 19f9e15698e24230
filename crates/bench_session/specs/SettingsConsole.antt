-- The answer to each line on each bench and store: the text and the bench after it, and the store after it. A line that
-- asks nothing of the store is the bench's.
--     responded b s l q      the answer to the line l that asks the request q of the store s
--     store_left s q          the store after it, as `bench_session::settings_calls` defines it
--     store_asked l           what a line asks of the store; one that has no feed asks nothing
--     told b s l out         what the call for a line answers: how many bytes of text there are, the bench and the
--                            store, or refusal 1 where less than the room is lent
--     leaves b s l out       the lent bytes after it: the text from byte 0 on, or as they were
use Rattle.std.specs.Prelude.{ℕ, List, leb, length}
use Rattle.std.specs.Prelude.{if◌then◌else◌}
use Rattle.text.specs.Lines.{Line}
use Rattle.bench.specs.declared.Bench.{Bench}
use Rattle.bench_answers.specs.Said.{Answered, says, of_access}
use Rattle.bench_answers.specs.Whole.{room, whole_said, whole_left}
use Rattle.bench_session.specs.Console.{answered, asked}
use Rattle.settings.specs.declared.Store.{Store}
use Rattle.settings.specs.Written.{settings_written}
use Rattle.bench_requests.specs.StoreRequests.{store_request_of}
use Rattle.bench_requests.specs.declared.settings_requests.StoreRequest.{StoreRequest}
use Rattle.bench_requests.specs.declared.settings_requests.StoreRequest.TheVariants.{Other}
unfoldable pub use Rattle.bench_session.specs.StoreCalls.{store_left}
use Rattle.bench_session.specs.StoreCalls.{store_says, by_whose}
use Rattle.bench_session.specs.declared.settings_console.Told.{Told}

-- ## By the request

unfoldable pub responded : Bench → Store → Line → StoreRequest → Answered
responded b s l q = by_whose q (answered b (asked l)) (λ code. of_access (settings_written s b code))
    (says (store_says s q) b)

-- ## By the line

abbrev pub store_asked : Line → StoreRequest
store_asked l = if l.fed then store_request_of l.chars else Other

-- ## What the call answers and leaves

abbrev pub told : Bench → Store → Line → List ℕ → Told
told b s l out = record {
  said = whole_said b (responded b s l (store_asked l)) out;
  store = if leb room (length out) then store_left s (store_asked l) else s;
}

abbrev pub leaves : Bench → Store → Line → List ℕ → List ℕ
leaves b s l out = whole_left (responded b s l (store_asked l)) out
