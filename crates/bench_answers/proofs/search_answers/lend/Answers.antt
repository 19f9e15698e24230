-- A part is as long as asked where it is within the whole, and a search is as good with just enough.
use Prim.Native.Nat.{min}
use mathlib.Core.Path.{◌≡◌, subst, ◌∙◌}
use native.Mathlib.Omega.{arith}
use lib.ListN.{length, take}
use lib.Seq.{length-take-le}
use Rattle.master_rules.specs.Search.{Outcome, search_outcome}
use Rattle.bench_answers.specs.Whole.{Says}
use Rattle.bench_answers.specs.Found.{command_for, of_search}
use Rattle.bench_answers.specs.FoundLaws.{just_enough}
use Rattle.bench_answers.proofs.search_answers.lend.Goals as goal

pub returns : goal.returns
returns c =
    let places = c.min-lent_places.ensures in
    let bytes = c.min-lent_bytes.ensures in
    let list-long = c.requires.0 in
    let recording-long = c.requires.1 in
    let codes : length (take c.min-lent_places.result c.args.list.now) ≡ min c.args.places 32 =
    length-take-le c.min-lent_places.result c.args.list.now (omega arith) ∙ places in
    let room : length (take c.min-lent_bytes.result c.args.recording.now) ≡ min c.args.bytes 1824 =
    length-take-le c.min-lent_bytes.result c.args.recording.now (omega arith) ∙ bytes in
    let same : search_outcome (command_for c.args.alarms) c.args.bench
    (length (take c.min-lent_places.result c.args.list.now))
    (length (take c.min-lent_bytes.result c.args.recording.now))
    ≡ search_outcome (command_for c.args.alarms) c.args.bench c.args.places c.args.bytes =
    rw (codes, room) (just_enough (command_for c.args.alarms) c.args.bench c.args.places
    c.args.bytes) in
    subst (λ (o : Outcome). Says c.args.out.now (of_search o) c.found_in.new.out
    c.found_in.result) same c.found_in.ensures
