-- The answer to a search: its counts, a line for each code that it listed, and the lines that it recorded.
--     command_for alarms      the ROM command of the search
--     counts_line o           the first line of a search
--     of_search o             the whole answer
use Rattle.std.specs.Prelude.{ℕ, Bool, List, ◌++◌}
use Rattle.std.specs.Prelude.{if◌then◌else◌}
use Rattle.commands.specs.Commands.{search_rom, alarm_search}
use Rattle.frame.specs.Recording.{write_all}
use Rattle.master_rules.specs.Search.{Outcome, answer_of}
use Rattle.bench_answers.specs.Answers.{search_line, code_lines}
use Rattle.bench_answers.specs.Said.{Answered, says}

-- the ROM command of a search, for all devices or for those with the alarm flag
abbrev pub command_for : Bool → ℕ
command_for alarms = if alarms then alarm_search else search_rom

abbrev pub counts_line : Outcome → List ℕ
counts_line o = let r = answer_of o in search_line r.refusal r.codes r.passes r.slots r.bytes

abbrev pub of_search : Outcome → Answered
of_search o = says (counts_line o ++ (code_lines o.listed ++ write_all o.frames)) o.bench
