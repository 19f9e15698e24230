-- The calls on the settings store alone: the line that answers each request, and the store after it.
--     store_says s q          the line that answers the request q to the store s; none to a line that is the bench's and
--                            to a write to a device
--     store_left s q          the store after it
--     by_whose q b w o        by whose request q is: b for the bench's, w of the code for a write to a device, o for one
--                            of the store's own
--     called s q out         what the call answers: how many bytes the line has and the store, or refusal 1 and the
--                            store as it was where less than a line's room is lent
--     Calls d x s d' r       what a part of the call has come to: the line x at the front of what is lent, and the
--                            store s
use Rattle.std.specs.Prelude.{ℕ, ◌≤◌, ◌≡◌, List, [], length}
use Rattle.std.specs.Prelude.{if◌then◌else◌}
use Rattle.text.specs.Laying.{has_room}
use Rattle.text.specs.Putting.{line_room, line_answer, line_leaves}
use Rattle.bench_answers.specs.Answers.{refusal_line}
use Rattle.settings.specs.Calls.{settings_added, settings_removed, settings_read, settings_changed}
use Rattle.settings.specs.declared.Store.{Store}
use Rattle.bench_requests.specs.declared.settings_requests.StoreRequest.{StoreRequest}
use Rattle.bench_requests.specs.declared.settings_requests.StoreRequest.TheVariants.{Other, Add, Remove, Read, Change}
use Rattle.bench_requests.specs.declared.settings_requests.StoreRequest.TheVariants.{Write}
use Rattle.bench_answers.specs.SettingsLines.{current_line, change_line}
use Rattle.bench_session.specs.declared.settings_calls.Called.{Called}

-- ## By the request

abbrev pub store_says : Store → StoreRequest → List ℕ
store_says s Other = []
store_says s (Add code first) = refusal_line (settings_added s code first).refusal
store_says s (Remove code) = refusal_line (settings_removed s code).refusal
store_says s (Read code) = current_line (settings_read s code)
store_says s (Change code version asked) = let done = settings_changed s code version asked in
    change_line done.refusal done.version
store_says s (Write code) = []

unfoldable pub store_left : Store → StoreRequest → Store
store_left s Other = s
store_left s (Add code first) = (settings_added s code first).store
store_left s (Remove code) = (settings_removed s code).store
store_left s (Read code) = s
store_left s (Change code version asked) = (settings_changed s code version asked).store
store_left s (Write code) = s

abbrev pub by_whose : {A : Type 0} → StoreRequest → A → (ℕ → A) → A → A
by_whose Other bench write own = bench
by_whose (Add code first) bench write own = own
by_whose (Remove code) bench write own = own
by_whose (Read code) bench write own = own
by_whose (Change code version asked) bench write own = own
by_whose (Write code) bench write own = write code

-- ## What the call answers

abbrev pub called : Store → StoreRequest → List ℕ → Called
called s q out = record {
  written = line_answer out 0 (store_says s q);
  store = if has_room out 0 line_room then store_left s q else s;
}

pub record Calls (d x : List ℕ) (s : Store) (d' : List ℕ) (r : Called) : Type 0 where
  pub answer : r.written ≡ line_answer d 0 x
  pub left : d' ≡ line_leaves d 0 x
  pub short : length x ≤ line_room
  pub store : r.store ≡ s
