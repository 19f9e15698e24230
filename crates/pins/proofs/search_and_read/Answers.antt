-- A search that is refused, and one that is done with the reads at the front of what it was lent.
use mathlib.Core.Path.{sym, ap, ◌∙◌}
use native.Mathlib.Omega.{arith}
use lib.ListN.{take}
use lib.Seq.{length-take-le}
use Rattle.basic_laws.specs.LaidLaws.{laid_none}
use Rattle.master_rules.specs.Pins.{nobody_read, pinned_of, pins_list_after}
use Rattle.pins.specs.OutcomeLaws.{listed-most, listed-within, refused-is, done-is, read-few, holds-answer}
use Rattle.pins.proofs.search_and_read.Goals as goal

pub returns-then-searched-ne-ACCEPTED : goal.returns-then-searched-ne-ACCEPTED
returns-then-searched-ne-ACCEPTED c =
    let a = c.args in
    let done = c.search-searched.ensures in
    let is = refused-is a.bench a.found.now a.recording.now c.search-searched.new.list
    c.search-searched.result c.requires.0 c.requires.1 done.answer done.listed c.if-searched-ne-ACCEPTED.true in rw is (record { answer = c.refuse.ensures; listed = laid_none a.list.now 0 })

pub slice_bounds-read_all-end : goal.slice_bounds-read_all-end
slice_bounds-read_all-end c =
    let a = c.args in
    let done = c.search-searched.ensures in
    listed-within a.bench a.found.now a.recording.now c.search-searched.new.list c.search-searched.result
    c.requires.0 c.requires.1 done.answer done.listed

pub slice_bounds-read_all-end-2 : goal.slice_bounds-read_all-end-2
slice_bounds-read_all-end-2 c =
    let a = c.args in
    let done = c.search-searched.ensures in
    let within = listed-within a.bench a.found.now a.recording.now c.search-searched.new.list
    c.search-searched.result c.requires.0 c.requires.1 done.answer done.listed in
    sym (length-take-le c.search-searched.result.codes c.search-searched.new.list within)

pub answer_of-requires : goal.answer_of-requires
answer_of-requires c =
    let read = c.read_all in
    let a = c.args in
    let done = c.search-searched.ensures in
    let most = listed-most a.bench a.found.now a.recording.now c.search-searched.new.list
    c.search-searched.result c.requires.0 c.requires.1 done.answer done.listed in
    let few = read-few (nobody_read c.search-searched.result.bench)
    (take c.search-searched.result.codes c.search-searched.new.list) in
    let count = read.ensures.codes-are in
    omega (arith, most, few, count)

pub returns : goal.returns
returns c =
    let read = c.read_all in
    let a = c.args in
    let done = c.search-searched.ensures in
    let is = done-is a.bench a.found.now a.recording.now c.search-searched.new.list
    c.search-searched.result c.requires.0 c.requires.1 done.answer done.listed
    c.if-searched-ne-ACCEPTED.false in record { answer = c.answer_of.ensures ∙ holds-answer _ _ _ _ read.ensures ∙ ap pinned_of (sym is); listed = read.ensures.list-is ∙ ap (pins_list_after a.list.now) (sym is) }
