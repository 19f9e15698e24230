-- Reply by reply: the line is laid, and it is short.
use Rattle.bench_answers.specs.Answers.{bad_line, refusal_line, bit_line}
use Rattle.bench_answers.specs.AnswersLaws.{bad-short, refusal-short, bit-short}
use Rattle.thermostat_session.specs.ProbeLines.{reply_line}
use Rattle.thermostat_session.specs.ProbeLinesLaws.{answer-short}
use borrow.Author.Rules.{rules}
use Rattle.thermostat_session.proofs.answers.write.Goals as goal

pub returns-in-Unknown : goal.returns-in-Unknown
unfolding reply_line
returns-in-Unknown c =
    let a = c.args in
    let laid = c.bad_line.ensures in
    let short = answer-short a.out.now a.at bad_line c.bad_line.result laid.answer bad-short in
    rw c.in-Unknown.is (record { answer = laid.answer; written = laid.written; fits = short })

pub returns-in-Plain : goal.returns-in-Plain
unfolding reply_line
returns-in-Plain c =
    let a = c.args in
    let laid = c.refusal_line.ensures in
    let short = answer-short a.out.now a.at (refusal_line _) c.refusal_line.result laid.answer
    (refusal-short _ (search rules)) in
    rw c.in-Plain.is (record { answer = laid.answer; written = laid.written; fits = short })

pub returns-in-Bit : goal.returns-in-Bit
unfolding reply_line
returns-in-Bit c =
    let a = c.args in
    let laid = c.bit_line.ensures in
    let short = answer-short a.out.now a.at (bit_line 0 _) c.bit_line.result laid.answer
    (bit-short 0 _ (search rules)) in
    rw c.in-Bit.is (record { answer = laid.answer; written = laid.written; fits = short })

pub returns-in-StatusByte : goal.returns-in-StatusByte
unfolding reply_line
returns-in-StatusByte c = rw c.in-StatusByte.is c.status_line.ensures

pub returns-in-Probe : goal.returns-in-Probe
unfolding reply_line
returns-in-Probe c = rw c.in-Probe.is c.probe_line.ensures
