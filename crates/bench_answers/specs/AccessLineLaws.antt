-- The line is short: a numerator of thirty-two bits takes at most eleven characters.
use Rattle.std.specs.Prelude.{ℕ, ◌<◌, ◌≤◌, List, [], ◌∷◌, ◌++◌, ◌≡◌, ℤ, length}
use Rattle.std.proofs.Common.{append_assoc, arith, length-append, SFits}
use Rattle.std.specs.Int.{w32}
use Rattle.text.specs.DigitsLaws.{hex-length}
use Rattle.text.specs.Putting.{line_room}
use Rattle.text.specs.FieldsLaws.{byte-digits, word-digits, signed-digits}
use Rattle.temperature.specs.declared.Reading.{Reading}
use Rattle.bench_answers.specs.AccessLine.{reading_digits, access_fields}

pub access-short : (refusal : ℕ) (pad : List ℕ) (reading : Reading) (n : ℤ) (d : ℕ) → refusal < 256 → length pad ≡ 9
    → SFits w32 n → d < 65536
    → length (access_fields refusal pad reading n d) ≤ line_room
unfolding access_fields
access-short refusal pad reading n d h k f g =
    let a = byte-digits refusal h in
    let b = hex-length pad in
    let c : length (reading_digits reading) ≡ 4 = hex-length _ in
    let e = signed-digits n f in
    let l = word-digits d g in
    simp length-append (omega arith)

-- the mark behind a fraction stands behind its denominator
pub mark-behind : (numerator denominator : List ℕ) (c : ℕ)
    → numerator ++ 0x2F ∷ (denominator ++ c ∷ []) ≡ (numerator ++ 0x2F ∷ denominator) ++ c ∷ []
mark-behind numerator denominator c = rw (append_assoc numerator (0x2F ∷ denominator) (c ∷ []))
