-- What is said of a line, by whether there is room for it; and what is held of a line tells what the whole line asks
-- for, however long it is.
use Rattle.std.specs.Prelude.{ℕ, ◌+◌, ◌<◌, ◌≤◌, ◌≡◌, refl, List, length, take}
use Rattle.std.proofs.Common.{ap, ◌∙◌, arith, le-leb}
use Rattle.std.proofs.lemmas.Bool.{lt-leb}
use Rattle.refusals.specs.Refusals.{no_room}
use Rattle.text.specs.Lines.{Line}
use Rattle.text.specs.declared.laying.Written.{Written}
use Rattle.text.specs.Putting.{line_room, line_answer, line_leaves}
use Rattle.lines.specs.Words.{words_of}
use Rattle.sessions.specs.Gathering.{most_held}
use Rattle.sessions.specs.GatheringLaws.{held_reads}
use Rattle.thermostat.specs.declared.Thermostat.{Thermostat}
use Rattle.thermostat_session.specs.ProbeRequests.{of_probe, probe_request_of}
use Rattle.thermostat_session.specs.declared.requests.ProbeRequest.TheVariants.{Bad}
use Rattle.thermostat_session.specs.ProbeLines.{reply_line}
use Rattle.thermostat_session.specs.ProbeConsole.{probe_responded, probe_asked, probe_said, probe_leaves}
use Rattle.thermostat_session.specs.declared.Responded.{Responded}

module _ (p : Thermostat) (l : Line) (out : List ℕ) where
  pub said-without : length out < line_room → (record { refusal = no_room; count = 0; probe = p } ≡ probe_said p l out)
      × (out ≡ probe_leaves p l out) × (0 ≤ line_room)
  said-without h = rw (lt-leb line_room (length out) h) (refl, refl, omega arith)

  pub said-with : line_room ≤ length out → (r : Responded) → r ≡ probe_responded p (probe_asked l) → (w : Written)
      → w ≡ line_answer out 0 (reply_line r.reply)
      → (out' : List ℕ) → out' ≡ line_leaves out 0 (reply_line r.reply) → w.next ≤ 0 + line_room
      → (record { refusal = w.refusal; count = w.next; probe = r.probe } ≡ probe_said p l out)
      × (out' ≡ probe_leaves p l out) × (w.next ≤ line_room)
  said-with h r answers w answer out' left few =
      let room-is : 0 + line_room ≤ length out = omega arith in
      let t = le-leb (0 + line_room) (length out) room-is in
      let said = rw t at answer in
      let same : 0 + length (reply_line r.reply) ≡ length (reply_line r.reply) = omega arith in (
        rw (t, ← answers)
            (ap (λ (v : Written). record { refusal = v.refusal; count = v.next; probe = r.probe }) said
            ∙ ap (λ (n : ℕ). record { refusal = 0; count = n; probe = r.probe }) same),
        rw (t, ← answers) (rw t at left),
        omega arith,
      )

-- a line that is cut at 81 characters asks for what the whole line asks for
pub held_asks : (s : List ℕ) → probe_request_of (take most_held s) ≡ probe_request_of s
unfolding probe_request_of
held_asks s = held_reads (λ (t : List ℕ). of_probe (words_of t)) Bad s
