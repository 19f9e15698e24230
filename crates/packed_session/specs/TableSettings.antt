-- The console on a table with a settings store beside it: what it says to a line, and the bytes and the store that the
-- line leaves. A line that asks nothing of the store is the table's.
--     written_on t s code     settings written to the device on the table: `on_table` of the write, with the refusal of
--                            the bytes in the form of a write, before all others
--     spoken_of t s l q       the answer to the line l that asks the request q of the store s
--     told_of t s l out       what the call for a line answers, and the store after it
use Rattle.std.specs.Prelude.{ℕ, List, leb, length}
use Rattle.std.specs.Prelude.{if◌then◌else◌}
use Rattle.text.specs.Lines.{Line}
use Rattle.bench_requests.specs.declared.Request.TheVariants.{Read as ReadAt}
use Rattle.bench_answers.specs.Said.{of_access}
use Rattle.bench_answers.specs.Whole.{room}
use Rattle.settings.specs.declared.Store.{Store}
use Rattle.settings.specs.Written.{settings_written}
use Rattle.bench_requests.specs.declared.settings_requests.StoreRequest.{StoreRequest}
use Rattle.bench_session.specs.StoreCalls.{store_says, by_whose}
use Rattle.bench_session.specs.SettingsConsole.{store_left, store_asked}
use Rattle.packed_session.specs.TableAnswers.{refused_on_table}
use Rattle.packed_session.specs.TableConsole.{Spoken, speaks, on_table, spoken, table_told}
use Rattle.packed_session.specs.declared.table_settings.TableTold.{TableTold}

abbrev pub written_on : List ℕ → Store → ℕ → Spoken
written_on t s code = on_table (λ b. of_access (settings_written s b code)) (λ n. refused_on_table n (ReadAt code)) t

unfoldable pub spoken_of : List ℕ → Store → Line → StoreRequest → Spoken
spoken_of t s l q = by_whose q (spoken t l) (written_on t s) (speaks (store_says s q) t)

abbrev pub told_of : List ℕ → Store → Line → List ℕ → TableTold
told_of t s l out = record {
  written = table_told (spoken_of t s l (store_asked l)) out;
  store = if leb room (length out) then store_left s (store_asked l) else s;
}
