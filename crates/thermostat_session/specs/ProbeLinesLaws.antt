-- The lines are short: a number with a sign takes at most eleven characters.
use Rattle.std.specs.Prelude.{ℕ, ◌+◌, ◌<◌, ◌≤◌, ◌≡◌, refl, Bool, true, false, List, ℤ, length}
use Rattle.std.proofs.Common.{ap, arith, lit≤, length-append, SFits}
use Rattle.std.specs.Int.{w16, w32}
use Rattle.basic_laws.specs.Complement.{Fits16}
use Rattle.basic_laws.proofs.ComplementLaws.{wider}
use Rattle.text.specs.DigitsLaws.{digits-length}
use Rattle.text.specs.Laying.{has_room}
use Rattle.text.specs.declared.laying.Written.{Written}
use Rattle.text.specs.Putting.{line_room, line_answer}
use Rattle.text.specs.FieldsLaws.{byte-digits, signed-digits, flag-length}
use Rattle.thermostat_session.specs.ProbeLines.{status_line, fields_line}

pub status-short : (refusal status : ℕ) → refusal < 256 → length (status_line refusal status) ≤ line_room
unfolding status_line
status-short refusal status p =
    let a = byte-digits refusal p in
    let b = digits-length 16 2 status in
    simp length-append (omega arith)

pub fields-short : (temperature high low : ℤ) (status : ℕ) (output converting thermostat : Bool) → Fits16 temperature
    → Fits16 high → Fits16 low
    → length (fields_line temperature high low status output converting thermostat) ≤ line_room
unfolding fields_line
fields-short temperature high low status output converting thermostat f g h =
    let a = signed-digits temperature (wide f) in
    let b = signed-digits high (wide g) in
    let c = signed-digits low (wide h) in
    let d = digits-length 16 2 status in
    let o = flag-length output in
    let k = flag-length converting in
    let t = flag-length thermostat in
    simp length-append (omega arith)
  where
    wide : {z : ℤ} → Fits16 z → SFits w32 z
    wide {z} fits = wider w16 w32 z (lit≤ tt) fits

-- a short line ends within a line's room, and where it is refused there is no place
pub answer-short : (out : List ℕ) (at : ℕ) (x : List ℕ) (w : Written) → w ≡ line_answer out at x → length x ≤ line_room
    → w.next ≤ at + line_room
answer-short out at x w answer h = by-test (has_room out at line_room) refl
  where
    by-test : (t : Bool) → has_room out at line_room ≡ t → w.next ≤ at + line_room
    by-test true e = let n : w.next ≡ at + length x = rw e at (ap (λ (v : Written). v.next) answer) in omega arith
    by-test false e = let n : w.next ≡ 0 = rw e at (ap (λ (v : Written). v.next) answer) in omega arith
