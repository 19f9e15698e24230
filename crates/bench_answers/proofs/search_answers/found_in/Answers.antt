-- What the search listed and recorded stands at the front of what it was lent, within the bounds of every search.
use lib.ListN.{length}
use Rattle.master_rules.specs.Search.{search_outcome}
use Rattle.search.specs.Sweep.{search-bounded}
use Rattle.bench_answers.specs.Found.{command_for}
use Rattle.bench_answers.specs.FoundLaws.{codes-part, bytes-part, says-outcome}
use Rattle.bench_answers.proofs.search_answers.found_in.Goals as goal

pub slice_bounds-say_found-end : goal.slice_bounds-say_found-end
slice_bounds-say_found-end c =
    let a = c.args in
    let done = c.run-r.ensures in
    let codes = codes-part (command_for a.alarms) a.bench a.list.now a.recording.now
    c.run-r.new.list c.run-r.new.recording c.run-r.result done.answer done.listed in
    let bytes = bytes-part (command_for a.alarms) a.bench a.list.now a.recording.now
    c.run-r.new.list c.run-r.new.recording c.run-r.result done.answer done.written in
    codes.0

pub slice_bounds-say_found-end-2 : goal.slice_bounds-say_found-end-2
slice_bounds-say_found-end-2 c =
    let a = c.args in
    let done = c.run-r.ensures in
    let codes = codes-part (command_for a.alarms) a.bench a.list.now a.recording.now
    c.run-r.new.list c.run-r.new.recording c.run-r.result done.answer done.listed in
    let bytes = bytes-part (command_for a.alarms) a.bench a.list.now a.recording.now
    c.run-r.new.list c.run-r.new.recording c.run-r.result done.answer done.written in
    codes.2

pub slice_bounds-say_found-end-3 : goal.slice_bounds-say_found-end-3
slice_bounds-say_found-end-3 c =
    let a = c.args in
    let done = c.run-r.ensures in
    let codes = codes-part (command_for a.alarms) a.bench a.list.now a.recording.now
    c.run-r.new.list c.run-r.new.recording c.run-r.result done.answer done.listed in
    let bytes = bytes-part (command_for a.alarms) a.bench a.list.now a.recording.now
    c.run-r.new.list c.run-r.new.recording c.run-r.result done.answer done.written in
    bytes.0

pub slice_bounds-say_found-end-4 : goal.slice_bounds-say_found-end-4
slice_bounds-say_found-end-4 c =
    let a = c.args in
    let done = c.run-r.ensures in
    let codes = codes-part (command_for a.alarms) a.bench a.list.now a.recording.now
    c.run-r.new.list c.run-r.new.recording c.run-r.result done.answer done.listed in
    let bytes = bytes-part (command_for a.alarms) a.bench a.list.now a.recording.now
    c.run-r.new.list c.run-r.new.recording c.run-r.result done.answer done.written in
    bytes.2

pub say_found-requires : goal.say_found-requires
say_found-requires c =
    let a = c.args in
    let done = c.run-r.ensures in
    let codes = codes-part (command_for a.alarms) a.bench a.list.now a.recording.now
    c.run-r.new.list c.run-r.new.recording c.run-r.result done.answer done.listed in
    let bytes = bytes-part (command_for a.alarms) a.bench a.list.now a.recording.now
    c.run-r.new.list c.run-r.new.recording c.run-r.result done.answer done.written in
    let few = search-bounded (command_for a.alarms) a.bench (length a.list.now)
    (length a.recording.now) in (
      rw codes.1 few.codes-most,
      rw bytes.1 few.bytes_most,
      c.requires,
    )

pub returns : goal.returns
returns c =
    let a = c.args in
    let done = c.run-r.ensures in
    let codes = codes-part (command_for a.alarms) a.bench a.list.now a.recording.now
    c.run-r.new.list c.run-r.new.recording c.run-r.result done.answer done.listed in
    let bytes = bytes-part (command_for a.alarms) a.bench a.list.now a.recording.now
    c.run-r.new.list c.run-r.new.recording c.run-r.result done.answer done.written in
    let say = c.say_found in
    says-outcome a.out.now (search_outcome (command_for a.alarms) a.bench (length a.list.now)
    (length a.recording.now)) c.run-r.result _ _ say.new.out say.result done.answer
    codes.1 bytes.1 say.ensures
