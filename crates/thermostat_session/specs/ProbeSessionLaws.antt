-- 81 characters of a line tell what the thermostat console says to it, so that what it says does not depend on where
-- its input is cut; and what a call has said stands at the front of its buffer.
use Rattle.std.specs.Prelude.{ℕ, ◌≤◌, ◌≡◌, List, length, take}
use Rattle.std.proofs.Common.{ap, arith, le-leb}
use Rattle.std.specs.Prelude.{if◌then◌else◌}
use Rattle.basic_laws.specs.LaidLaws.{laid-front}
use Rattle.text.specs.Lines.{Line, lines_of}
use Rattle.pieces.specs.Pieces.{together}
use Rattle.text.specs.Putting.{line_room}
use Rattle.sessions.specs.Session.{in_turn, fresh_run, session, cut, HeldEnough}
use Rattle.sessions.proofs.SessionLaws.{session-cuts}
use Rattle.thermostat.specs.declared.Thermostat.{Thermostat}
use Rattle.thermostat_session.specs.declared.requests.ProbeRequest.{ProbeRequest}
use Rattle.thermostat_session.specs.declared.requests.ProbeRequest.TheVariants.{Bad}
use Rattle.thermostat_session.specs.ProbeLines.{reply_line}
use Rattle.thermostat_session.specs.ProbeConsole.{probe_responded, probe_asked, probe_said, probe_leaves}
use Rattle.thermostat_session.specs.ProbeConsoleLaws.{held_asks}
use Rattle.thermostat_session.specs.ProbeSession.{probe_console}
use Rattle.thermostat_session.specs.declared.ProbeSaid.{ProbeSaid}

-- what a line asks for that is cut at 81 characters
asked-same : (l : Line) → probe_asked (cut l) ≡ probe_asked l
asked-same l = ap (λ (q : ProbeRequest). if l.fed then q else Bad) (held_asks l.chars)

probe-enough : HeldEnough probe_console
probe-enough = record {
  says_same = λ p l. ap (λ (q : ProbeRequest). reply_line (probe_responded p q).reply) (asked-same l);
  next-same = λ p l. ap (λ (q : ProbeRequest). (probe_responded p q).probe) (asked-same l);
}

-- whatever the cuts, each line is answered on the probe that the lines before it left
pub probe-session : (p : Thermostat) (cs : List (List ℕ))
    → session probe_console (fresh_run p) cs ≡ in_turn probe_console p (lines_of (together cs))
probe-session = session-cuts probe_console probe-enough

-- what the call for a line leaves at the front of a buffer with room, and the probe
pub said-front : (p : Thermostat) (l : Line) (out : List ℕ) → line_room ≤ length out → (r : ProbeSaid)
    → r ≡ probe_said p l out → (out' : List ℕ) → out' ≡ probe_leaves p l out → r.count ≤ line_room
    → (take r.count out' ≡ probe_console.says p l) × (r.probe ≡ probe_console.next p l)
said-front p l out room r answer out' left few =
    let t = le-leb line_room (length out) room in
    let said = rw t at answer in
    let wrote = rw t at left in
    let count = ap (λ (q : ProbeSaid). q.count) said in (
      (laid-front out (reply_line (probe_responded p (probe_asked l)).reply) out' r.count count wrote (omega arith)).1,
      ap (λ (q : ProbeSaid). q.probe) said,
    )
