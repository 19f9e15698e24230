-- Bytes of a list and of a number.
--     eight_at l i       the eight numbers of l from place i on, 0 past its end
--     code_bytes x       the eight lowest bytes of x, lowest first
--     code_from_bytes l   the number that has the bytes of l, lowest first
-- Laws in BytesLaws.
use Rattle.std.specs.Prelude.{ℕ, zero, suc, ◌+◌, ◌*◌, ◌/◌, ◌%◌, List, [], ◌∷◌, get_or}

abbrev pub eight_at : List ℕ → ℕ → List ℕ
eight_at l i = get_or l i 0 ∷ get_or l (i + 1) 0 ∷ get_or l (i + 2) 0 ∷ get_or l (i + 3) 0 ∷ get_or l (i + 4) 0 ∷ get_or l (i + 5) 0
    ∷ get_or l (i + 6) 0 ∷ get_or l (i + 7) 0 ∷ []

unfoldable pub bytes_low_first : ℕ → ℕ → List ℕ
bytes_low_first zero x = []
bytes_low_first (suc n) x = x % 256 ∷ bytes_low_first n (x / 256)

abbrev pub code_bytes : ℕ → List ℕ
code_bytes x = bytes_low_first 8 x

unfoldable pub code_from_bytes : List ℕ → ℕ
code_from_bytes [] = 0
code_from_bytes (b ∷ l) = b + 256 * code_from_bytes l
