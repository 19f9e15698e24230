-- How long the lines are: none is over 64 characters.
use Rattle.std.specs.Prelude.{ℕ, ◌+◌, ◌*◌, ◌<◌, ◌≤◌, ◌≡◌, refl, Bool, true, false, List, [], ◌∷◌, ◌++◌, eqb, length, take, get_or, replicate}
use Rattle.std.proofs.Common.{sym, ap, ◌∙◌, append_assoc, append-nil, arith, add-one, length-append, take-suc}
use Rattle.std.specs.Prelude.{if◌then◌else◌}
use Rattle.refusals.specs.Refusals.{accepted}
use Rattle.bench.specs.declared.Looked.{Looked}
use Rattle.text.specs.DigitsLaws.{digits-length, hex-length}
use Rattle.device.specs.declared.Activity.{Activity}
use Rattle.device.specs.declared.Activity.TheVariants.{Idle, Converting, Copying}
use Rattle.device.specs.declared.Settings.{Settings}
use Rattle.bench_answers.specs.Answers.{bad_line, refusal_line, bit_line, search_line, code_line, code_lines}
use Rattle.bench_answers.specs.Answers.{settings_digits, busy_digit, record_line, show_line}
use Rattle.text.specs.Putting.{line_room}
use Rattle.text.specs.FieldsLaws.{byte-digits, word-digits, flag-length}

-- ## Fields

busy-length : (a : Activity) → length (busy_digit a) ≡ 1
busy-length Idle = omega arith
busy-length Converting = omega arith
busy-length (Copying s) = omega arith

-- ## Lines

pub bad-short : length bad_line ≤ line_room
bad-short = omega arith

pub refusal-short : (r : ℕ) → r < 256 → length (refusal_line r) ≤ line_room
unfolding refusal_line
refusal-short r h = let l = byte-digits r h in simp length-append (omega arith)

pub bit-short : (r : ℕ) (b : Bool) → r < 256 → length (bit_line r b) ≤ line_room
unfolding bit_line
bit-short r b h = let l = byte-digits r h in let f = flag-length b in simp length-append (omega arith)

pub search-short : (r codes passes slots bytes : ℕ) → r < 256 → codes < 256 → passes < 256 → slots < 65536
    → bytes < 65536
    → length (search_line r codes passes slots bytes) ≤ line_room
unfolding search_line
search-short r codes passes slots bytes p q s t u =
    let a = byte-digits r p in
    let b = byte-digits codes q in
    let c = byte-digits passes s in
    let d = word-digits slots t in
    let e = word-digits bytes u in
    simp length-append (omega arith)

pub code-length : (code : ℕ) → length (code_line code) ≡ 17
unfolding code_line
code-length code = let l = digits-length 16 16 code in simp length-append (omega arith)

pub code-short : (code : ℕ) → length (code_line code) ≤ line_room
code-short code = let l = code-length code in omega arith

pub record-short : (r : ℕ) (pad : List ℕ) (eeprom : Settings) (alarm : Bool) (activity : Activity) → r < 256
    → length pad ≡ 8
    → length (record_line r pad eeprom alarm activity) ≤ line_room
unfolding record_line
record-short r pad eeprom alarm activity h k =
    let a = byte-digits r h in
    let b = hex-length pad in
    let c : length (settings_digits eeprom) ≡ 6 = hex-length _ in
    let d = flag-length alarm in
    let e = busy-length activity in
    simp length-append (omega arith)

-- ## The lines of several codes

pub code-lines-length : (cs : List ℕ) → length (code_lines cs) ≡ 17 * length cs
unfolding code_lines
code-lines-length [] = omega arith
code-lines-length (c ∷ cs) =
    let one = code-length c in
    let more = code-lines-length cs in
    simp length-append (omega arith)

pub codes-append : (a b : List ℕ) → code_lines (a ++ b) ≡ code_lines a ++ code_lines b
unfolding code_lines
codes-append [] b = refl
codes-append (c ∷ a) b = ap (λ (x : List ℕ). code_line c ++ x) (codes-append a b)
    ∙ sym (append_assoc (code_line c) (code_lines a) (code_lines b))

-- one code more
pub codes-next : (cs : List ℕ) (i : ℕ) → i < length cs
    → code_lines (take (i + 1) cs) ≡ code_lines (take i cs) ++ code_line (get_or cs i 0)
unfolding code_lines
codes-next cs i h =
    rw (add-one i, take-suc cs i 0 h, codes-append (take i cs) (get_or cs i 0 ∷ []), append-nil (code_line (get_or cs i 0)))

pub show-short : (l : Looked) → l.refusal < 256 → length l.device.scratchpad ≡ 8 → length (show_line l) ≤ line_room
unfolding show_line
show-short l h k = by-test (eqb l.refusal accepted)
  where
    by-test : (t : Bool)
        → length (if t then record_line accepted l.device.scratchpad l.device.eeprom l.device.alarm
        l.device.activity
        else record_line l.refusal (replicate 8 0) (record { high = 0; low = 0; configuration = 0 }) false Idle)
        ≤ line_room
    by-test true = record-short accepted l.device.scratchpad l.device.eeprom l.device.alarm
        l.device.activity (omega arith) k
    by-test false = record-short l.refusal (replicate 8 0) (record { high = 0; low = 0; configuration = 0 }) false
        Idle h (omega arith)
