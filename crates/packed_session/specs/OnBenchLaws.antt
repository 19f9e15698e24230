-- An answer on the bench that bytes hold, on plain values: what its parts came to is what is promised of it. u is what
-- unpacking the bytes t answered, f what is answered on a bench.
--     refused-told       the bytes hold no bench: the refusal is told, and they stay
--     answered-told      they hold one: what was answered on it is said, and the bench that this left is packed
use Rattle.std.specs.Prelude.{ℕ, ◌≤◌, List, ◌≡◌}
use Rattle.std.proofs.Math.Path.{refl, ap}
use Rattle.std.proofs.Common.{sym, ◌∙◌, subst, arith}
use Rattle.std.proofs.Math.ListN.{length}
use Rattle.basic_laws.specs.Laid.{laid}
use Rattle.refusals.specs.Refusals.{accepted}
use Rattle.text.specs.declared.laying.Written.{Written}
use Rattle.text.specs.Putting.{line_answer, line_leaves}
use Rattle.bench.specs.declared.Bench.{Bench}
use Rattle.bench_answers.specs.Said.{Answered}
use Rattle.bench_answers.specs.declared.call_answers.Said.{Said}
use Rattle.bench_answers.specs.Whole.{room, saying}
use Rattle.packed_bench.specs.Table.{table_bytes, held, unpacked, packed_into}
use Rattle.packed_bench.specs.Tabled.{Tabled}
use Rattle.packed_bench.specs.declared.table.Unpacked.{Unpacked}
use Rattle.packed_bench.specs.Through.{After}
use Rattle.packed_bench.specs.ThroughLaws.{refused-done, accepted-done}
use Rattle.packed_session.specs.TableAnswersLaws.{line-told, line-laid}
use Rattle.packed_session.specs.TableConsole.{on_table, telling}

module _ (f : Bench → Answered) (refusal : ℕ
    → List ℕ) (t out : List ℕ) (wide : room ≤ length out) (u : Unpacked) (is : u ≡ unpacked t) where
  abbrev Done : Written → List ℕ → List ℕ → Type 0
  Done r out' t' =
      (r ≡ telling (on_table f refusal t).text)
      × ((out' ≡ laid out 0 (on_table f refusal t).text)
      × ((t' ≡ (on_table f refusal t).left) × After (λ b. (f b).bench) t t'))

  pub refused-told : (u.refusal ≡ accepted → ⊥) → (r : Written) (out' : List ℕ)
      → r ≡ line_answer out 0 (refusal u.refusal)
      → out' ≡ line_leaves out 0 (refusal u.refusal) → Done r out' t
  unfolding on_table
  refused-told none r out' told left =
      let done = refused-done f (λ a. a.text) (λ a. a.bench) refusal t u is none in
      let enough : 64 ≤ length out = omega (arith, wide) in (
        told ∙ line-told out (refusal u.refusal) enough ∙ ap telling done.0,
        (left ∙ line-laid out (refusal u.refusal) enough ∙ ap (laid out 0) done.0, done.1),
      )

  pub answered-told : ((b : Bench) → Tabled b → Tabled (f b).bench) → u.refusal ≡ accepted
      → (said : Said) (out' t' : List ℕ) → said ≡ saying (f u.bench) → out' ≡ laid out 0 (f u.bench).text
      → t' ≡ packed_into t said.bench → (table_bytes ≤ length t → Tabled said.bench
      → unpacked t' ≡ held said.bench)
      → Done (record { refusal = said.refusal; next = said.count }) out' t'
  unfolding on_table
  answered-told keeps ok said out' t' told left kept back =
      let bench-is = ap (λ (r : Said). r.bench) told in
      let done =
      accepted-done f (λ a. a.text) (λ a. a.bench) refusal t u is keeps ok (f u.bench) refl t' (kept
      ∙ ap (packed_into t) bench-is)
      (λ long tabled. back long (subst Tabled (sym bench-is) tabled) ∙ ap held bench-is) in (
        ap (λ (r : Said). record { refusal = r.refusal; next = r.count }) told ∙ ap telling done.0,
        (left ∙ ap (laid out 0) done.0, done.1),
      )
