-- A range by its two ends; that rounding down keeps a range whose low end is a multiple of the step; and that a range
-- moves with its ends.
use Rattle.std.specs.Prelude.{ℕ, ◌<◌, ◌≤◌, ◌≡◌, true, ℤ, pos, negsuc, ◌+ℤ◌}
use Rattle.std.proofs.Common.{arith, leb-true}
use Rattle.std.specs.Int.Signed.{le_z, mag}
use Rattle.basic_laws.specs.ChoiceLaws.{and_left, and_right}
use Rattle.basic_laws.proofs.DifferencesLaws.{le-plus}
use Rattle.basic_laws.specs.Rounding.{floor_div, floor_to}
use Rattle.basic_laws.proofs.RoundingLaws.{floor-below, floor-mono, div_mono, le_trans}
use Rattle.temperature.specs.Range.{between}

-- ## A range as its two bounds

pub between-bounds : (low high z : ℤ) → between low high z ≡ true → (le_z low z ≡ true) × (le_z z high ≡ true)
between-bounds low high z e = (and_left (le_z low z) (le_z z high) e, and_right (le_z low z) (le_z z high) e)

pub between-size : (a b n : ℕ) (z : ℤ) → a ≤ n → b ≤ n → between (negsuc a) (pos b) z ≡ true → mag z ≤ n
between-size a b n (pos k) l m e = let h = leb-true k b e in omega arith
between-size a b n (negsuc k) l m e =
    let h = leb-true k a (between-bounds (negsuc a) (pos b) (negsuc k) e).0 in omega arith

-- ## Rounding down keeps a range whose low end is a multiple of the step, and moves it with its ends

pub between-floor : (s : ℕ) (low high z : ℤ) → 0 < s → floor_to s low ≡ low → between low high z ≡ true
    → between low high (floor_to s z) ≡ true
between-floor s low high z p multiple e =
    let b = between-bounds low high z e in
    let l : le_z low (floor_to s z) ≡ true = rw multiple at (floor-mono low z s p b.0) in
    let h = le_trans (floor_to s z) z high (floor-below s z p) b.1 in
    rw (l, h)

pub between-div : (s : ℕ) (low high z : ℤ) → 0 < s → between low high z ≡ true
    → between (floor_div low s) (floor_div high s) (floor_div z s) ≡ true
between-div s low high z p e =
    let b = between-bounds low high z e in
    rw (div_mono low z s p b.0, div_mono z high s p b.1)

pub between-plus : (low high z : ℤ) (n : ℕ) → between low high z ≡ true
    → between (low +ℤ pos n) (high +ℤ pos n) (z +ℤ pos n) ≡ true
between-plus low high z n e =
    let b = between-bounds low high z e in
    rw (le-plus low z n b.0, le-plus z high n b.1)
