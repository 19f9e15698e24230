-- Codes as numbers, bit 0 sent first (the scope, "Codes and the CRC"): a listing of the codes' bits is a listing of the
-- numbers.
--     Sooner x y        at the lowest bit in which they differ x has 0 and y has 1
--     Below n l         each number of l has n bits
--     Numbered n ns cs  all that is claimed of codes listed: as numbers they are ns, each once, in order
use Rattle.std.specs.Prelude.{◌≡◌, true, false, ℕ, ◌^◌, ◌<◌}
use mathlib.Core.List.{List, map, Permᴰ}
use Rattle.basic_laws.specs.Bits.{bit_at, bits_of, number_of}
use Rattle.search_laws.specs.Codes.{Code}
use Rattle.basic_laws.specs.Each.{Each, Pairs}

pub record Sooner (x y : ℕ) : Type 0 where
  pub place : ℕ
  pub same-below : (i : ℕ) → i < place → bit_at x i ≡ bit_at y i
  pub zero-there : bit_at x place ≡ false
  pub one-there : bit_at y place ≡ true

abbrev pub Below : ℕ → List ℕ → Type 0
Below n = Each (λ x. x < 2 ^ n)

-- ## What is listed

pub record Numbered (n : ℕ) (ns : List ℕ) (cs : List Code) : Type 0 where
  pub all_listed : Permᴰ ns (map number_of cs)
  pub ordered : Pairs Sooner (map number_of cs)
  pub codes-are : map (bits_of n) (map number_of cs) ≡ cs
