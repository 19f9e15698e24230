-- The answer to each request on each bench: the text, all its lines with their feeds, and the bench after it.
--     answered b q           the answer to the request q on the bench b
--     asked l                what a line asks for; one that has no feed asks for nothing that there is
--     answer b l out         what the call for a line answers: how many bytes of text there are and the bench, or
--                            refusal 1 where less than the room is lent
--     bench_leaves b l out    the lent bytes after it: the text from byte 0 on, or as they were
use Rattle.std.specs.Prelude.{ℕ, List}
use Rattle.std.specs.Prelude.{if◌then◌else◌}
use Rattle.commands.specs.Commands.{search_rom, alarm_search}
use Rattle.text.specs.Lines.{Line}
use Rattle.bench.specs.Calls.{added_to, conversion_finished, copy_finished, power_cycled, looked}
use Rattle.bench.specs.Slot.{reset_done, slotted}
use Rattle.bench.specs.declared.Bench.{Bench}
use Rattle.master_rules.specs.Access.{read_at, write_at}
use Rattle.master_rules.specs.Pins.{pins_outcome}
use Rattle.master_rules.specs.Search.{search_outcome}
use Rattle.bench_requests.specs.Requests.{request_of}
use Rattle.bench_requests.specs.declared.Request.{Request}
use Rattle.bench_requests.specs.declared.Request.TheVariants.{Bad, Add, Reset, Slot, Converted, Copied, Cycle, Search}
use Rattle.bench_requests.specs.declared.Request.TheVariants.{Alarm, Read, Write, Show, Why, Pins}
use Rattle.bench_answers.specs.Answers.{bad_line, show_line}
use Rattle.why.specs.Why.{why_of}
use Rattle.bench_answers.specs.WhyLine.{why_line}
use Rattle.bench_answers.specs.Said.{Answered, says, of_change, of_reset, of_slot, of_access}
use Rattle.bench_answers.specs.declared.call_answers.Said.{Said}
use Rattle.bench_answers.specs.Whole.{whole_said, whole_left}
use Rattle.bench_answers.specs.Found.{of_search}
use Rattle.bench_answers.specs.PinLines.{of_pins}

-- ## By the request

unfoldable pub answered : Bench → Request → Answered
answered b Bad = says bad_line b
answered b (Add new) = of_change (added_to b new)
answered b Reset = of_reset (reset_done b)
answered b (Slot bit) = of_slot (slotted b bit)
answered b (Converted code count) = of_change (conversion_finished b code count)
answered b (Copied code) = of_change (copy_finished b code)
answered b (Cycle code) = of_change (power_cycled b code)
answered b (Search places bytes) = of_search (search_outcome search_rom b places bytes)
answered b (Alarm places bytes) = of_search (search_outcome alarm_search b places bytes)
answered b (Read code) = of_access (read_at b code)
answered b (Write code settings) = of_access (write_at b code settings)
answered b (Show code) = says (show_line (looked b code)) b
answered b (Why code) = says (why_line (why_of b code)) b
answered b (Pins places) = of_pins (pins_outcome b places)

-- ## By the line

abbrev pub asked : Line → Request
asked l = if l.fed then request_of l.chars else Bad

-- ## What the call answers and leaves

abbrev pub answer : Bench → Line → List ℕ → Said
answer b l out = whole_said b (answered b (asked l)) out

abbrev pub bench_leaves : Bench → Line → List ℕ → List ℕ
bench_leaves b l out = whole_left (answered b (asked l)) out
