-- The lines are short.
use Rattle.std.specs.Prelude.{ℕ, ◌<◌, ◌≤◌, length}
use Rattle.std.proofs.Common.{arith, length-append}
use Rattle.text.specs.DigitsLaws.{digits-length}
use Rattle.text.specs.Putting.{line_room}
use Rattle.text.specs.FieldsLaws.{byte-digits, word-digits}
use Rattle.bench_answers.specs.SettingsLines.{settings_fields, change_line}

pub settings-fields-short : (refusal high low configuration version : ℕ) → refusal < 256 → version < 65536
    → length (settings_fields refusal high low configuration version) ≤ line_room
unfolding settings_fields
settings-fields-short refusal high low configuration version p q =
    let a = byte-digits refusal p in
    let b = word-digits version q in
    let h = digits-length 16 2 high in
    let l = digits-length 16 2 low in
    let c = digits-length 16 2 configuration in
    simp length-append (omega arith)

pub change-short : (refusal version : ℕ) → refusal < 256 → version < 65536
    → length (change_line refusal version) ≤ line_room
unfolding change_line
change-short refusal version p q =
    let a = byte-digits refusal p in
    let b = word-digits version q in
    simp length-append (omega arith)
