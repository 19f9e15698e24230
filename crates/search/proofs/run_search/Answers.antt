-- One law of the definition for each of the ways a search can end.
use mathlib.Core.Bool.{true, false}
use mathlib.Core.Path.{◌≡◌, ap, sym, ◌∙◌}
use borrow.Author.Tests.{not-true, not-false}
use Rattle.basic_laws.specs.LaidLaws.{laid_none}
use Rattle.bench.specs.Slot.{reset_done}
use Rattle.master_rules.specs.Search.{answer_of, lonely_outcome}
use Rattle.master_rules.specs.SearchLaws.{few-places, few_bytes, wire-held, nobody-there, passes-made}
use Rattle.search.specs.Sweep.{unrecorded, answer_by, found-answer, found-list, found-recording}
use Rattle.search.proofs.run_search.Goals as goal

pub returns-then-list-lt-FEWEST_PLACES : goal.returns-then-list-lt-FEWEST_PLACES
returns-then-list-lt-FEWEST_PLACES c =
    rw (few-places c.args.command c.args.bench _ _ c.if-list-lt-FEWEST_PLACES.true)
    (record { answer = c.refuse_search.ensures.answer; listed = laid_none _ _; written = unrecorded _ })

pub returns-then-recording-lt-FEWEST_BYTES : goal.returns-then-recording-lt-FEWEST_BYTES
returns-then-recording-lt-FEWEST_BYTES c =
    rw (few_bytes c.args.command c.args.bench _ _ c.if-recording-lt-FEWEST_BYTES.true)
    (record { answer = c.refuse_search-then-recording-lt-FEWEST_BYTES.ensures.answer; listed = laid_none _ _; written = unrecorded _ })

pub returns-then-not-is_free : goal.returns-then-not-is_free
returns-then-not-is_free c =
    rw (wire-held c.args.command c.args.bench _ _ c.if-list-lt-FEWEST_PLACES.false c.if-recording-lt-FEWEST_BYTES.false
    (sym c.is_free.ensures.answer ∙ c.if-not-is_free.true))
    (record { answer = c.refuse_search-then-not-is_free.ensures.answer; listed = laid_none _ _; written = unrecorded _ })

pub returns-then-not-r : goal.returns-then-not-r
returns-then-not-r c =
    let gone : (reset_done c.args.bench).presence ≡ false =
    rw (← c.reset-r.ensures.answer) (not-true c.reset-r.result.presence c.if-not-r.true) in rw (nobody-there c.args.command c.args.bench _ _ c.if-list-lt-FEWEST_PLACES.false c.if-recording-lt-FEWEST_BYTES.false
    (sym c.is_free.ensures.answer ∙ c.if-not-is_free.false) gone) (record { answer = c.record_absence.ensures.answer ∙ ap (λ b. answer_of (lonely_outcome b.bench)) c.reset-r.ensures.answer; listed = laid_none _ _; written = c.record_absence.ensures.written })

pub returns : goal.returns
returns c =
    let there : (reset_done c.args.bench).presence ≡ true =
    rw (← c.reset-r.ensures.answer) (not-false c.reset-r.result.presence c.if-not-r.false) in
    let x = c.sweep_wire-s.ensures in rw (passes-made c.args.command c.args.bench _ _ c.if-list-lt-FEWEST_PLACES.false c.if-recording-lt-FEWEST_BYTES.false
    (sym c.is_free.ensures.answer ∙ c.if-not-is_free.false) there) (record { answer = ap answer_by x.answer ∙ sym (found-answer _ _); listed = x.listed ∙ sym (found-list _ _ _); written = x.written ∙ sym (found-recording _ _ _) })
