-- Whole numbers with a sign, rounded down, at any step from 1 on. A number is `pos n`, which is n, or `negsuc n`, which
-- is -(n + 1).
--     floor_div z s      z divided by s, rounded down: -1 divided by 8 is -1
--     floor_to s z       the greatest multiple of s that is not above z
use Rattle.std.specs.Prelude.{ℕ, ◌/◌, ℤ, pos, negsuc, ◌*ℤ◌}

-- from 0 on the quotient; -(n + 1) lies in the step below n / s steps under zero
abbrev pub floor_div : ℤ → ℕ → ℤ
floor_div (pos n) s = pos (n / s)
floor_div (negsuc n) s = negsuc (n / s)

unfoldable pub floor_to : ℕ → ℤ → ℤ
floor_to s z = floor_div z s *ℤ pos s
