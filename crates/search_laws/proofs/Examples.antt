-- Searches run by computation, on wires of the smallest devices: codes of three bits, whatever the devices were doing
-- before, and codes of 64.
use Rattle.std.specs.Prelude.{◌≡◌, refl, Bool, true, false, List, [], ◌∷◌, map}
use Rattle.basic_laws.specs.Fold.{all}
use Rattle.basic_laws.specs.Bits.{bits_of, number_of}
use Rattle.search_laws.specs.Codes.{Code}
use Rattle.search_laws.specs.Pass.{found, next}
use Rattle.search_laws.specs.Wire.{slots, triplets, search_from, wire_search}
use Rattle.search_laws.specs.Searchers.{wire}
use Rattle.search_laws.specs.PassLoop.{bit_step, steps}
use Rattle.search_laws.specs.SearchLoop.{turn, turns, loop_search}
use Rattle.search_laws.specs.Small.{SEARCH_ROM, ALARM_SEARCH, Small, Stage, quiet, chosen, command, searching, co}
use Rattle.search_laws.specs.Small.{model}

abbrev small : Code → Bool → Stage → Small
small c f s = record { code = c; flag = f; stage = s }

abbrev code : Bool → Bool → Bool → Code
code a b c = a ∷ b ∷ c ∷ []

abbrev present : List Small
present =
    small (code true true false) true quiet
    ∷ small (code false true false) false chosen
    ∷ small (code false true true) true (searching 1 co)
    ∷ small (code false false false) false (command (true ∷ []))
    ∷ []

all-four : (wire_search (wire (model 3)) (bits_of 8 SEARCH_ROM) 32 3 present).codes
    ≡ code false false false ∷ code false true false ∷ code false true true ∷ code true true false ∷ []
unfolding all bits_of number_of found next slots triplets search_from
all-four = refl

three-passes : (wire_search (wire (model 3)) (bits_of 8 SEARCH_ROM) 3 3 present).codes
    ≡ code false false false ∷ code false true false ∷ code false true true ∷ []
unfolding all bits_of number_of found next slots triplets search_from
three-passes = refl

with-flag : (wire_search (wire (model 3)) (bits_of 8 ALARM_SEARCH) 32 3 present).codes
    ≡ code false true true ∷ code true true false ∷ []
unfolding all bits_of number_of found next slots triplets search_from
with-flag = refl

-- The frame of an alarm search without an alarm: ten slots, ECh, 1, 1.
no_flag : (wire_search (wire (model 3)) (bits_of 8 ALARM_SEARCH) 32 3
    (small (code true true false) false quiet ∷ [])).lines
    ≡ (false ∷ false ∷ true ∷ true ∷ false ∷ true ∷ true ∷ true ∷ true ∷ true ∷ []) ∷ []
unfolding all bits_of number_of found next slots triplets search_from
no_flag = refl

-- By places, and with codes as numbers: 10h sends 0, 0, 0, 0 first, and 28h 0, 0, 0, 1.
three-codes : (loop_search (wire (model 64)) (bits_of 8 SEARCH_ROM) 32 64
    (map (λ x. small (bits_of 64 x) false quiet)
    (0x5A00000012345628 ∷ 0x5A00000012345629 ∷ 0xC300000801FF2310 ∷ []))).codes
    ≡ 0xC300000801FF2310 ∷ 0x5A00000012345628 ∷ 0x5A00000012345629 ∷ []
unfolding all bits_of number_of slots bit_step steps turn turns
three-codes = refl
