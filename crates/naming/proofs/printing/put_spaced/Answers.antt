-- A store and the digits behind it are laid as one.
use Prim.Native.Nat.{◌+◌, ◌≤◌}
use mathlib.Core.Path.{refl, ◌∙◌}
use mathlib.Core.List.{[], ◌∷◌}
use native.Mathlib.Omega.{arith}
use lib.ListN.{length}
use Rattle.basic_laws.specs.LaidLaws.{laid-sets}
use Rattle.text.proofs.LayingLaws.{lay-behind}
use Rattle.text.specs.Digits.{hex_digits}
use Rattle.text.specs.DigitsLaws.{digits-length}
use Rattle.text.specs.Lines.{space}
use Rattle.naming.proofs.printing.put_spaced.Goals as goal

pub returns : goal.returns
returns c =
    let s = c.args.s.now in
    let at = c.args.at in
    let x = hex_digits c.args.count c.args.number in
    let size = digits-length 16 c.args.count c.args.number in
    let room : at + 1 ≤ length s = omega arith in
    let one = laid-sets s at (space ∷ []) room in
    let both : at + 1 + length x ≤ length s = let r = c.requires in omega arith in
    c.lay_hex.ensures.written ∙ rw one (lay-behind s at (space ∷ []) x (at + 1) refl both)
