-- Bytes laid at the front of a buffer that has room for them, and taken from there again.
use Rattle.std.specs.Prelude.{ℕ, ◌+◌, ◌-◌, ◌<◌, ◌≤◌, min, ◌≡◌, refl, Bool, true, false, List, ◌++◌, eqb, leb, length, take}
use Rattle.std.proofs.Common.{sym, ap, ◌∙◌, arith, leb-true, leb-false, take_all, take-add, length-take-le}
use Rattle.std.proofs.Math.Seq.{take-length}
use Rattle.std.specs.Prelude.{if◌then◌else◌}
use Rattle.basic_laws.specs.LaidLaws.{laid-read}
use Rattle.text.specs.declared.laying.Written.{Written}
use Rattle.text.specs.Laying.{lay_answer, lay_leaves}
use Rattle.text.proofs.LayingLaws.{lay-fits}
use Rattle.pieces.specs.Carried.{behind, reads_left}

pub laid-taken : (out x : List ℕ) → length x ≤ length out → (w : Written) (after : List ℕ) → w ≡ lay_answer out 0 x
    → after ≡ lay_leaves out 0 x
    → (w.next ≡ length x) × (take w.next after ≡ x)
laid-taken out x room w after h k =
    let fits = lay-fits out 0 x (omega arith) in
    let n : w.next ≡ length x = let e = ap (λ (v : Written). v.next) (h ∙ fits.0) in omega arith in
    (n, rw (n, k, fits.1) (laid-read out 0 x (omega arith)))

-- no more is taken than there is
pub take-least : (n : ℕ) (s : List ℕ) → take (min n (length s)) s ≡ take n s
take-least n s = by-test (leb n (length s)) refl
  where
    by-test : (t : Bool) → leb n (length s) ≡ t → take (min n (length s)) s ≡ take n s
    by-test true e =
        let h = leb-true n (length s) e in
        let m : min n (length s) ≡ n = omega arith in
        rw m refl
    by-test false e =
        let h = leb-false n (length s) e in
        let m : min n (length s) ≡ length s = omega arith in
        rw m (take-length s ∙ sym (take_all n s (omega arith)))

-- a piece that was read behind what is carried
pub read-piece : (u before : List ℕ) → length u ≤ length before → (w : Written) (put : List ℕ)
    → w ≡ lay_answer before 0 u → put ≡ lay_leaves before 0 u
    → (after : List ℕ) (filled came : ℕ) → w.next ≤ filled → filled ≤ length after
    → take w.next after ≡ take w.next put
    → came ≡ length (take filled after) - w.next → take filled after ≡ u ++ behind u came after
read-piece u before room w put h k after filled came more within same count =
    let front = laid-taken before u room w put h k in
    let size = length-take-le filled after within in
    let n = front.0 in
    let sum : length u + came ≡ filled = omega arith in
    ap (λ (m : ℕ). take m after) (sym sum) ∙ take-add (length u) came after
    ∙ ap (λ (v : List ℕ). v ++ behind u came after) (ap (λ (m : ℕ). take m after) (sym n) ∙ same ∙ front.1)

-- the reads are counted down
pub reads-less : (n k : ℕ) (w : Bool) → 0 < n → reads_left n k w < n
reads-less n k w some = by_tests (eqb k 0) w
  where
    by_tests : (t u : Bool) → (if t then 0 else if u then n - 1 else 0) < n
    by_tests true u = some
    by_tests false true = omega arith
    by_tests false false = some

-- reads follow only where the answer was written
pub reads_on : (n k : ℕ) (w : Bool) → 0 < reads_left n k w → w ≡ true
reads_on n k true some = refl
reads_on n k false some = by-test (eqb k 0) some
  where
    by-test : (t : Bool) → 0 < (if t then 0 else 0) → false ≡ true
    by-test true h = absurd (omega arith)
    by-test false h = absurd (omega arith)
