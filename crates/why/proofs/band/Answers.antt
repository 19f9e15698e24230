-- The two tests are the definition's, on the numbers that the three temperatures' bits hold.
use mathlib.Core.Bool.{true, false}
use mathlib.Core.Path.{◌≡◌}
use lib.Signed.{le_z}
use Rattle.basic_laws.proofs.ComplementLaws.{held_back}
use Rattle.why.proofs.band.Goals as goal

pub returns-then-degree-lower : goal.returns-then-degree-lower
returns-then-degree-lower c =
    let a = c.args in
    let t = held_back a.t.0 (record { sfits = c.struct_told-1.given.0.1 }) in
    let h = held_back a.high.0 (record { sfits = c.struct_told-2-1.given.0.1 }) in
    let l = held_back a.low.0 (record { sfits = c.struct_told-3-1.given.0.1 }) in
    let above : le_z a.high.0 a.t.0 ≡ true = simp (t, h) at c.if-degree-upper.true in
    let below : le_z a.t.0 a.low.0 ≡ true = simp (t, l) at c.if-degree-lower.true in
    simp (above, below)

pub returns-then-degree-upper : goal.returns-then-degree-upper
returns-then-degree-upper c =
    let a = c.args in
    let t = held_back a.t.0 (record { sfits = c.struct_told-1.given.0.1 }) in
    let h = held_back a.high.0 (record { sfits = c.struct_told-2-1.given.0.1 }) in
    let l = held_back a.low.0 (record { sfits = c.struct_told-3-1.given.0.1 }) in
    let above : le_z a.high.0 a.t.0 ≡ true = simp (t, h) at c.if-degree-upper.true in
    let not-below : le_z a.t.0 a.low.0 ≡ false = simp (t, l) at c.if-degree-lower.false in
    simp (above, not-below)

pub returns-then-degree-lower-2 : goal.returns-then-degree-lower-2
returns-then-degree-lower-2 c =
    let a = c.args in
    let t = held_back a.t.0 (record { sfits = c.struct_told-1.given.0.1 }) in
    let h = held_back a.high.0 (record { sfits = c.struct_told-2-1.given.0.1 }) in
    let l = held_back a.low.0 (record { sfits = c.struct_told-3-1.given.0.1 }) in
    let not-above : le_z a.high.0 a.t.0 ≡ false = simp (t, h) at c.if-degree-upper.false in
    let below : le_z a.t.0 a.low.0 ≡ true = simp (t, l) at c.if-degree-lower-2.true in
    simp (not-above, below)

pub returns : goal.returns
returns c =
    let a = c.args in
    let t = held_back a.t.0 (record { sfits = c.struct_told-1.given.0.1 }) in
    let h = held_back a.high.0 (record { sfits = c.struct_told-2-1.given.0.1 }) in
    let l = held_back a.low.0 (record { sfits = c.struct_told-3-1.given.0.1 }) in
    let not-above : le_z a.high.0 a.t.0 ≡ false = simp (t, h) at c.if-degree-upper.false in
    let not-below : le_z a.t.0 a.low.0 ≡ false = simp (t, l) at c.if-degree-lower-2.false in
    simp (not-above, not-below)
