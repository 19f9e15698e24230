-- One character stands at the front of what is lent.
use Rattle.std.proofs.Common.{ℕ, ◌≤◌, ◌≡◌, List, [], ◌∷◌, length, take, set, refl, ap, ◌∙◌, arith}
use Rattle.std.specs.Prelude.{Bool, if◌then◌else◌}
use Rattle.check_streams.specs.Small.{empty_told}
use Rattle.check_streams.proofs.EmptinessConversion.convert.Goals as goal
use Rattle.check_streams.proofs.EmptinessConversion.convert.Goals.{then-is_empty, else-is_empty}

front : (text : List ℕ) (v : ℕ) → 1 ≤ length text → take 1 (set text 0 v) ≡ v ∷ []
front [] v h = absurd (omega arith)
front (a ∷ text) v h = refl

abbrev told_by : Bool → List ℕ
told_by b = (if b then 0x79 else 0x6E) ∷ []

pub returns-clause-front : goal.returns-clause-front
returns-clause-front c =
    let told : c.if-is_empty.text ∷ [] ≡ empty_told c.args.input.now = elim c.if-is_empty.branch [
      | then-is_empty w ↦ rw w.text-is (ap told_by w.if-is_empty.ensures)
      | else-is_empty w ↦ rw w.text-is (ap told_by w.if-is_empty.ensures)
    ] in
    front c.args.text.now c.if-is_empty.text c.requires ∙ told
