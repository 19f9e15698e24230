-- Two characters stand at the front of what is lent.
use Rattle.std.proofs.Common.{ℕ, ◌≤◌, ◌≡◌, List, [], ◌∷◌, length, take, set, refl, ◌∙◌, arith}
use Rattle.check_streams.specs.Small.{turn_told}
use Rattle.check_streams.proofs.TurnAnswerer.answer.Goals as goal
use Rattle.check_streams.proofs.TurnAnswerer.answer.Goals.{then-self, else-self}

front : (out : List ℕ) (v w : ℕ) → 2 ≤ length out → take 2 (set (set out 0 v) 1 w) ≡ v ∷ w ∷ []
front [] v w h = absurd (omega arith)
front (a ∷ []) v w h = absurd (omega arith)
front (a ∷ b ∷ out) v w h = refl

pub returns-clause-says : goal.returns-clause-says
returns-clause-says c =
    let told : c.if-self.out ∷ 10 ∷ [] ≡ turn_told c.args.self.now.first =
    elim c.if-self.branch [
      | then-self w ↦ rw (w.out-is, w.if-self.true) refl
      | else-self w ↦ rw (w.out-is, w.if-self.false) refl
    ] in
    front c.args.out.now c.if-self.out 10 c.requires ∙ told
