-- How long the fields of a line are.
use Rattle.std.specs.Prelude.{ℕ, suc, ◌<◌, ◌≤◌, ◌≡◌, Bool, true, false, ℤ, pos, negsuc, length}
use Rattle.std.proofs.Common.{arith, le-ltb, SFits}
use Rattle.std.specs.Int.{w32}
use Rattle.text.specs.Decimal.{decimal, signed_decimal}
use Rattle.text.specs.DecimalLaws.{decimal-length, decimal-most}
use Rattle.text.specs.Putting.{flag}

pub byte-digits : (x : ℕ) → x < 256 → length (decimal x) ≤ 3
byte-digits x h = let l = decimal-length x in let m = decimal-most x 2 (omega arith) in omega arith

pub word-digits : (x : ℕ) → x < 65536 → length (decimal x) ≤ 5
word-digits x h = let l = decimal-length x in let m = decimal-most x 4 (omega arith) in omega arith

long-digits : (x : ℕ) → x < 4294967296 → length (decimal x) ≤ 10
long-digits x h = let l = decimal-length x in let m = decimal-most x 9 (omega arith) in omega arith

-- a number of thirty-two bits with its sign
pub signed-digits : (z : ℤ) → SFits w32 z → length (signed_decimal z) ≤ 11
unfolding signed_decimal
signed-digits (pos n) f = let l = long-digits n (omega (arith, f.sfits)) in rw (le-ltb n 0 (omega arith)) (omega arith)
signed-digits (negsuc n) f = let l = long-digits (suc n) (omega (arith, f.sfits)) in omega arith

pub flag-length : (b : Bool) → length (flag b) ≡ 1
flag-length true = omega arith
flag-length false = omega arith
