-- A choice that may be none, by its two cases; and a pass that nobody answers.
use Rattle.std.specs.Prelude.{◌≡◌, ℕ}
use Rattle.std.proofs.Math.Option.{Option, none, some}
use Rattle.std.proofs.Common.{arith}
use Rattle.search_laws.specs.Pass.{on_some}

-- What holds of each way on from an answer, of one result and of two that go by the same answer.
pub on_some_lem : {A R : Type 0} (Q : R → Type 0) (o : Option A) (r : R) (f : A → R) → Q r → ((x : A) → Q (f x))
    → Q (on_some o r f)
on_some_lem Q none r f h k = h
on_some_lem Q (some x) r f h k = k x

pub on_both : {A R T : Type 0} (Q : R → T → Type 0) (o : Option A) (r : R) (f : A → R) (t : T) (g : A → T) → Q r t
    → ((x : A) → Q (f x) (g x))
    → Q (on_some o r f) (on_some o t g)
on_both Q none r f t g h k = h
on_both Q (some x) r f t g h k = k x

pub never : {A : Type 0} {x : A} → none ≡ some x → ⊥
never e = let z : ◌≡◌ {A = ℕ} 0 1 = cc in omega arith
