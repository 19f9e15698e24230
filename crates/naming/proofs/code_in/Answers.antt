use Rattle.std.proofs.Common.{ℕ, List, ◌+◌, ◌-◌, ◌*◌, ◌<◌, lit<, ◌≡◌, take, drop, get_or, ap, ◌∙◌, arith, get_or-drop, get_or-take}
use Rattle.naming.specs.Naming.{low_first}
use Rattle.naming.specs.Laws.{code-end, code-before}
use Rattle.naming.proofs.code_in.Goals as goal

pub returns : goal.returns
returns c =
    let bits = c.args.bits.now in
    let after = c.copy_from_slice.ensures.after in
    let code = c.copy_from_slice.new.self in
    let eight = take 8 (drop 1 bits) in
    let at : (i : ℕ) → i < 8 → get_or code i 0 ≡ get_or bits (1 + i) 0 =
    λ i h. ap (λ (l : List ℕ). get_or l i 0) after ∙ get_or-take 8 (drop 1 bits) i 0 h ∙ get_or-drop 1 bits i 0 in
    let each : (i : ℕ) → i < 8
    → 256 * low_first (drop (1 + i) eight) + get_or code i 0 ≡ low_first (drop (1 + i - 1) eight) =
    λ i h. ap (λ (n : ℕ). 256 * low_first (drop (1 + i) eight) + n) (at i h)
    ∙ code-before bits c.requires (1 + i) (omega arith) (omega arith) in
    let behind = code-end bits c.requires in
    let b0 = each 0 (lit< tt) in
    let b1 = each 1 (lit< tt) in
    let b2 = each 2 (lit< tt) in
    let b3 = each 3 (lit< tt) in
    let b4 = each 4 (lit< tt) in
    let b5 = each 5 (lit< tt) in
    let b6 = each 6 (lit< tt) in
    let b7 = each 7 (lit< tt) in
    omega (arith, c.from_le_bytes.ensures)
