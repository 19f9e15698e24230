-- An answer of one line is said as its line is laid, and its text is within a line's room.
use Rattle.std.specs.Prelude.{ℕ, ◌+◌, ◌≤◌, ◌≡◌, refl, Bool, true, false, List, length}
use Rattle.std.proofs.Common.{ap, arith}
use Rattle.text.specs.Laying.{has_room}
use Rattle.text.specs.declared.laying.Written.{Written}
use Rattle.bench.specs.declared.Bench.{Bench}
use Rattle.text.specs.Putting.{line_room, line_answer}
use Rattle.bench_answers.specs.Said.{says, line_said}

module _ (d x : List ℕ) (w : Written) (b : Bench) (answer : w ≡ line_answer d 0 x) where
  pub said-so : record { refusal = w.refusal; count = w.next; bench = b } ≡ line_said (says x b) d
  said-so = ap (λ (v : Written). record { refusal = v.refusal; count = v.next; bench = b }) answer

  pub said-short : length x ≤ line_room → w.next ≤ line_room
  said-short h = by-test (has_room d 0 line_room) refl
    where
      by-test : (t : Bool) → has_room d 0 line_room ≡ t → w.next ≤ line_room
      by-test true e = let n : w.next ≡ 0 + length x = rw e at (ap (λ (v : Written). v.next) answer) in omega arith
      by-test false e = let n : w.next ≡ 0 = rw e at (ap (λ (v : Written). v.next) answer) in omega arith
