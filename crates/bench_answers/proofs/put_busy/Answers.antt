-- The mark is put behind the digit.
use Prim.Native.Nat.{ℕ}
use mathlib.Core.List.{List, [], ◌∷◌}
use mathlib.Core.Path.{◌≡◌, subst}
use Rattle.text.specs.Putting.{field_next, field_leaves}
use Rattle.text.proofs.PuttingLaws.{field-laid}
use Rattle.bench_answers.proofs.put_busy.Goals as goal

pub returns : goal.returns
returns c =
    let a = c.args in
    let x = c.busy_digit.result ∷ [] in
    let done = field-laid a.out.now a.at x a.mark c.put_char-next.result c.put_char-next.new.out
    c.put_char.result c.put_char.new.out c.put_char-next.ensures.answer c.put_char-next.ensures.written
    c.put_char.ensures.answer c.put_char.ensures.written in
    let both = subst (λ (y : List ℕ). (c.put_char.result ≡ field_next a.out.now a.at y a.mark)
    × (c.put_char.new.out ≡ field_leaves a.out.now a.at y a.mark))
    c.busy_digit.ensures done in
    record { answer = both.0; written = both.1 }
