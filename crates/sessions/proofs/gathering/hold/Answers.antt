use Rattle.std.proofs.Common.{◌≡◌, ◌-◌, ◌+◌, min, ℕ, List, ◌++◌, length, take, drop, sym, ap, ◌∙◌, arith, append_assoc, drop-drop, length-take-le}
use Rattle.std.proofs.lemmas.List.{take_min}
use Rattle.basic_laws.specs.Laid.{laid}
use Rattle.basic_laws.specs.LaidLaws.{laid_none}
use Rattle.sessions.proofs.gathering.hold.Goals as goal

-- characters copied into a part of a buffer are laid there
copied : (d : List ℕ) (at k : ℕ) (x : List ℕ) → length x ≡ k → take at d ++ (x ++ drop k (drop at d)) ≡ laid d at x
unfolding laid
copied d at k x size =
    rw (sym size, drop-drop (length x) at d) (sym (append_assoc (take at d) x (drop (at + length x) d)))

pub returns-then-line-held-clause-written : goal.returns-then-line-held-clause-written
returns-then-line-held-clause-written c =
    let none : length c.args.line.now - c.args.held ≡ 0 = omega arith in
    rw none (laid_none c.args.line.now c.args.held)

pub returns-clause-written : goal.returns-clause-written
returns-clause-written c =
    let line = c.args.line.now in
    let held = c.args.held in
    let chars = c.args.chars.now in
    let copy = c.copy_from_slice.new.self in
    let after = c.copy_from_slice.ensures.after in
    let count = c.min-count.result in
    let few : count ≡ min (length line - held) (length chars) = omega arith in
    let size : length copy ≡ held + count - held =
    ap length after ∙ length-take-le count chars (omega arith) ∙ omega arith in
    let fit : take count chars ≡ take (length line - held) chars =
    ap (λ (n : ℕ). take n chars) few ∙ take_min (length line - held) chars in
    copied line held (held + count - held) copy size ∙ ap (laid line held) (after ∙ fit)
