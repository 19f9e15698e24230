-- Request by request, the line that its form has.
use Rattle.packed_session.specs.TableAnswers.{refused_on_table}
use Rattle.packed_session.proofs.table_answers.refuse.Goals as goal

pub returns-in-Bad : goal.returns-in-Bad
unfolding refused_on_table
returns-in-Bad c =
    rw c.in-Bad.is (record { answer = c.bad_line.ensures.answer; written = c.bad_line.ensures.written })

pub returns-in-Add : goal.returns-in-Add
unfolding refused_on_table
returns-in-Add c =
    rw c.in-Add.is (record { answer = c.refusal_line.ensures.answer; written = c.refusal_line.ensures.written })

pub returns-in-Reset : goal.returns-in-Reset
unfolding refused_on_table
returns-in-Reset c =
    rw c.in-Reset.is (record { answer = c.bit_line.ensures.answer; written = c.bit_line.ensures.written })

pub returns-in-Slot : goal.returns-in-Slot
unfolding refused_on_table
returns-in-Slot c =
    rw c.in-Slot.is (record { answer = c.bit_line-in-Slot.ensures.answer; written = c.bit_line-in-Slot.ensures.written })

pub returns-in-Converted : goal.returns-in-Converted
unfolding refused_on_table
returns-in-Converted c =
    rw c.in-Converted.is (record { answer = c.refusal_line-in-Converted.ensures.answer; written = c.refusal_line-in-Converted.ensures.written })

pub returns-in-Copied : goal.returns-in-Copied
unfolding refused_on_table
returns-in-Copied c =
    rw c.in-Copied.is (record { answer = c.refusal_line-in-Copied.ensures.answer; written = c.refusal_line-in-Copied.ensures.written })

pub returns-in-Cycle : goal.returns-in-Cycle
unfolding refused_on_table
returns-in-Cycle c =
    rw c.in-Cycle.is (record { answer = c.refusal_line-in-Cycle.ensures.answer; written = c.refusal_line-in-Cycle.ensures.written })

pub returns-in-Search : goal.returns-in-Search
unfolding refused_on_table
returns-in-Search c =
    rw c.in-Search.is (record { answer = c.search_line.ensures.answer; written = c.search_line.ensures.written })

pub returns-in-Alarm : goal.returns-in-Alarm
unfolding refused_on_table
returns-in-Alarm c =
    rw c.in-Alarm.is (record { answer = c.search_line-in-Alarm.ensures.answer; written = c.search_line-in-Alarm.ensures.written })

pub returns-in-Read : goal.returns-in-Read
unfolding refused_on_table
returns-in-Read c =
    rw c.in-Read.is (record { answer = c.no_access.ensures.answer; written = c.no_access.ensures.written })

pub returns-in-Write : goal.returns-in-Write
unfolding refused_on_table
returns-in-Write c =
    rw c.in-Write.is (record { answer = c.no_access-in-Write.ensures.answer; written = c.no_access-in-Write.ensures.written })

pub returns-in-Show : goal.returns-in-Show
unfolding refused_on_table
returns-in-Show c =
    rw c.in-Show.is (record { answer = c.no_device.ensures.answer; written = c.no_device.ensures.written })

pub returns-in-Why : goal.returns-in-Why
unfolding refused_on_table
returns-in-Why c =
    rw c.in-Why.is (record { answer = c.no_reason.ensures.answer; written = c.no_reason.ensures.written })

pub returns-in-Pins : goal.returns-in-Pins
unfolding refused_on_table
returns-in-Pins c =
    rw c.in-Pins.is (record { answer = c.refusal_line-in-Pins.ensures.answer; written = c.refusal_line-in-Pins.ensures.written })
