-- Codes as a search sees them (the scope, "One slot", F0h): the bits in the order in which they are sent, what those
-- who take part put on the line together, and who goes on after the master's bit.
--     first c, rest c      the first bit of c, 0 where there is none; the bits after it
--     line_of_codes S        the first read slot: the AND of the first bits of S, 1 for nobody
--     co_line S             the second read slot: the AND of their complements, 1 for nobody
--     follow d S           those of S whose first bit is d, each without that bit; the others have gone quiet
--     nobody S             whether S is empty
--     Sized n S            each code of S has n bits
--     Before c d           at the first bit in which they differ c has 0 and d has 1
use Rattle.std.specs.Prelude.{◌≡◌, Bool, true, false, not, List, [], ◌∷◌, ◌++◌, ℕ, length}
use Rattle.std.specs.Bool.{beq}
use Rattle.std.specs.Prelude.{if◌then◌else◌}
use Rattle.basic_laws.specs.Fold.{all}
use Rattle.basic_laws.specs.Each.{Each}

abbrev pub Code : Type 0
Code = List Bool

abbrev pub first : List Bool → Bool
first [] = false
first (b ∷ c) = b

abbrev pub other_bits : List Bool → List Bool
other_bits [] = []
other_bits (b ∷ c) = c

-- ## Those who take part, each given by the bits that it has yet to send

abbrev pub line_of_codes : List Code → Bool
line_of_codes S = all first S

abbrev pub co_line : List Code → Bool
co_line S = all (λ c. not (first c)) S

unfoldable pub follow : Bool → List Code → List Code
follow d [] = []
follow d (c ∷ S) = if beq (first c) d then other_bits c ∷ follow d S else follow d S

abbrev pub nobody : List Code → Bool
nobody [] = true
nobody (c ∷ S) = false

abbrev pub Sized : ℕ → List Code → Type 0
Sized n = Each (λ c. length c ≡ n)

pub record Before (c d : Code) : Type 0 where
  pub common : Code
  pub left : Code
  pub right : Code
  pub is-left : c ≡ common ++ false ∷ left
  pub is_right : d ≡ common ++ true ∷ right
