-- The line is short: a number with a sign takes at most eleven characters.
use Rattle.std.specs.Prelude.{ℕ, ◌<◌, ◌≤◌, Bool, ℤ, length}
use Rattle.std.proofs.Common.{arith, lit≤, length-append, SFits}
use Rattle.std.specs.Int.{w16, w32}
use Rattle.basic_laws.specs.Complement.{Fits16}
use Rattle.basic_laws.proofs.ComplementLaws.{wider}
use Rattle.text.specs.Putting.{line_room}
use Rattle.text.specs.FieldsLaws.{byte-digits, signed-digits, flag-length}
use Rattle.bench_answers.specs.WhyLine.{why_fields}

pub why-fields-short : (refusal reason : ℕ) (count high low : ℤ) (differs : Bool) → refusal < 256 → reason < 256
    → Fits16 count → Fits16 high → Fits16 low
    → length (why_fields refusal reason count high low differs) ≤ line_room
unfolding why_fields
why-fields-short refusal reason count high low differs p q f g h =
    let a = byte-digits refusal p in
    let b = byte-digits reason q in
    let c = signed-digits count (wide f) in
    let d = signed-digits high (wide g) in
    let e = signed-digits low (wide h) in
    let l = flag-length differs in
    simp length-append (omega arith)
  where
    wide : {z : ℤ} → Fits16 z → SFits w32 z
    wide {z} fits = wider w16 w32 z (lit≤ tt) fits
