-- A call that says its answer, by its promise and by its parts.
use Rattle.std.specs.Prelude.{ℕ, ◌+◌, ◌<◌, ◌≤◌, ◌≡◌, refl, List, length}
use Rattle.std.proofs.Common.{ap, ◌∙◌, arith, le-leb}
use Rattle.std.proofs.lemmas.Bool.{lt-leb}
use Rattle.refusals.specs.Refusals.{no_room}
use Rattle.bench.specs.declared.Bench.{Bench}
use Rattle.text.specs.Putting.{line_room}
use Rattle.bench_answers.specs.Said.{Answered, line_said, line_left}
use Rattle.bench_answers.specs.declared.call_answers.Said.{Said}
use Rattle.bench_answers.specs.Whole.{room, saying, whole_said, whole_left, Says}

module _ (b : Bench) (a : Answered) (out : List ℕ) where
  pub whole-said : room ≤ length out → (out' : List ℕ) (r : Said) → Says out a out' r
      → (r ≡ whole_said b a out) × (out' ≡ whole_left a out) × (r.count ≤ room)
  whole-said h out' r k =
      let t = le-leb room (length out) h in
      let count : r.count ≡ length a.text = ap (λ (s : Said). s.count) k.said in
      let few = k.fits in
      rw t (k.said, k.laid-is, omega arith)

  pub whole-refused : length out < room → (record { refusal = no_room; count = 0; bench = b } ≡ whole_said b a out)
      × (out ≡ whole_left a out) × (0 ≤ room)
  whole-refused h = rw (lt-leb room (length out) h) (refl, refl, omega arith)

-- an answer that was said with room for it
module _ (out : List ℕ) (h : room ≤ length out) (a : Answered) (out' : List ℕ) (r : Said) where
  pub whole_says : (b : Bench) → r ≡ whole_said b a out → out' ≡ whole_left a out → r.count ≤ room → Says out a out' r
  whole_says b answer left few =
      let t = le-leb room (length out) h in
      let said : r ≡ saying a = rw t at answer in
      let count : r.count ≡ length a.text = ap (λ (s : Said). s.count) said in
      record { said = said; laid-is = rw t at left; fits = omega arith }

  pub line-says : r ≡ line_said a out → out' ≡ line_left a out → r.count ≤ line_room → Says out a out' r
  line-says answer left few =
      let room-is : 0 + line_room ≤ length out = omega arith in
      let t = le-leb (0 + line_room) (length out) room-is in
      let laid_so = rw t at left in
      let told = rw t at answer in
      let count : r.count ≡ 0 + length a.text = ap (λ (s : Said). s.count) told in
      let same : 0 + length a.text ≡ length a.text = omega arith in
      record {
        said = told ∙ ap (λ (n : ℕ). record { refusal = 0; count = n; bench = a.bench }) same;
        laid-is = laid_so;
        fits = omega arith;
      }
