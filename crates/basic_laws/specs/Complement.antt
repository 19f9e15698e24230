-- Two's complement: the numbers with a sign that bits stand for.
--     signed16 n      sixteen bits, read as a number: n below 2 ^ 15 is itself, n from there on is n - 2 ^ 16
--     signed8 n       the same reading of eight bits: n below 2 ^ 7 is itself, n from there on is n - 2 ^ 8
--     bits16 z        the sixteen bits of z: z from 0 on is itself, z below is z + 2 ^ 16
--     bits8 z         the eight bits of z: z from 0 on is itself, z below is z + 2 ^ 8
--     Fits16 z        z is one of the numbers that sixteen bits hold, -32768 to 32767
use Rattle.std.specs.Prelude.{ℕ, suc, ◌-◌, ltb, ℤ, pos, negsuc, ◌-ℤ◌}
use Rattle.std.specs.Int.{w16}
use Rattle.std.proofs.Common.{SFits}
use Rattle.std.specs.Prelude.{if◌then◌else◌}

abbrev pub signed16 : ℕ → ℤ
signed16 n = if ltb n 32768 then pos n else pos n -ℤ pos 65536

abbrev pub signed8 : ℕ → ℤ
signed8 n = if ltb n 128 then pos n else pos n -ℤ pos 256

-- `negsuc n` is -(n + 1)
abbrev pub bits16 : ℤ → ℕ
bits16 (pos n) = n
bits16 (negsuc n) = 65536 - suc n

abbrev pub bits8 : ℤ → ℕ
bits8 (pos n) = n
bits8 (negsuc n) = 256 - suc n

abbrev pub Fits16 : ℤ → Type 0
Fits16 z = SFits w16 z
