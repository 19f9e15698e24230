-- The line is short, and is the two fields; nothing is laid for a line that was kept.
use Rattle.std.specs.Prelude.{◌≡◌, ℕ, ◌^◌, ◌<◌, ◌≤◌, Bool, true, false, List, [], length, take, ◌==◌, refl}
use Rattle.std.proofs.Common.{ap, ◌∙◌, arith, eq-eqb, length-append}
use Rattle.std.specs.Prelude.{if◌then◌else◌}
use Rattle.basic_laws.specs.LaidLaws.{laid_none, laid-read}
use Rattle.refusals.specs.Refusals.{accepted}
use Rattle.text.specs.DecimalLaws.{decimal-length, decimal-most}
use Rattle.text.specs.Laying.{has_room}
use Rattle.text.specs.declared.laying.Written.{Written}
use Rattle.text.specs.Putting.{line_room, line_answer, line_leaves}
use Rattle.mending.specs.Notice.{notice_line, notice_of, most_told}

pub line-most : (n b : ℕ) → n < 2 ^ 64 → b < 256 → length (notice_line n b) ≤ most_told
unfolding notice_line
line-most n b h k =
    let x : n < 100000000000000000000 = omega arith in
    let y : b < 1000 = omega arith in
    let p = decimal-most n 19 x in
    let q = decimal-most b 2 y in
    let c = decimal-length n in
    let d = decimal-length b in
    simp length-append (omega arith)

pub notice-short : (n b : ℕ) → n < 2 ^ 64 → b < 256 → length (notice_line n b) ≤ line_room
notice-short n b h k = omega (arith, line-most n b h k)

pub notice-most : (n b : ℕ) → n < 2 ^ 64 → b < 256 → length (notice_of n b) ≤ most_told
notice-most n b h k = by-test (b == 0)
  where
    by-test : (t : Bool) → length (if t then [] else notice_line n b) ≤ most_told
    by-test true = omega arith
    by-test false = line-most n b h k

pub notice-none : (out : List ℕ) (n b : ℕ) → b ≡ 0 → has_room out 0 line_room ≡ true
    → (record { refusal = accepted; next = 0 } ≡ line_answer out 0 (notice_of n b))
    × (out ≡ line_leaves out 0 (notice_of n b))
notice-none out n b e room = rw (room, eq-eqb b 0 e) (refl, laid_none out 0)

-- what a call left at the front of its buffer, so much of it as the call answered
pub notice-read : (out : List ℕ) (n b : ℕ) (w : Written) (after : List ℕ) → has_room out 0 line_room ≡ true
    → w ≡ line_answer out 0 (notice_of n b) → after ≡ line_leaves out 0 (notice_of n b)
    → take w.next after ≡ notice_of n b
notice-read out n b w after room answer leaves =
    let x = notice_of n b in
    let size : w.next ≡ length x = ap (λ (v : Written). v.next) answer ∙ rw room (omega arith) in
    rw (size, leaves, room) (laid-read out 0 x (omega arith))
