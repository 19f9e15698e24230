-- The plan as a program keeps it: the code of the pass before, as a number, and the place at which to depart from it
-- (the scope, "The master").
--     takes prev D j       the bit to take at a conflict at place j: that of the code before where j < D, 1 at D, 0
--                          past it
--     last_from j D ts      the last place at which 0 was taken at a conflict, where the first of ts stands at place j;
--                          D where there is none
-- The number of bits itself stands for no place: a pass that takes 0 at every conflict has the code 0 before it and
-- departs past its end.
use Rattle.std.specs.Prelude.{Bool, true, List, [], ◌∷◌, ◌++◌, ℕ, suc, ltb, eqb, take}
use Rattle.std.proofs.Math.Option.{Option, none, some}
use Rattle.std.specs.Prelude.{if◌then◌else◌}
use Rattle.basic_laws.specs.Bits.{bit_at}
use Rattle.search_laws.specs.Codes.{Code}
use Rattle.search_laws.specs.Pass.{Triple, Plan, on_some, took_zero}

abbrev pub takes : ℕ → ℕ → ℕ → Bool
takes prev D j = if ltb j D then bit_at prev j else eqb j D

unfoldable pub last_from : ℕ → ℕ → List Triple → ℕ
last_from j D [] = D
last_from j D (t ∷ ts) = last_from (suc j) (if took_zero t then j else D) ts

-- The plan that follows a code of n bits up to a place and takes 1 there.
abbrev pub plan_of : ℕ → Code → ℕ → Option Plan
plan_of n c D = if ltb D n then some (take D c ++ true ∷ []) else none

-- ## Where the next pass departs

-- The last place at which 0 was taken, counted from the first triple.
unfoldable pub last_of : List Triple → Option ℕ
last_of [] = none
last_of (t ∷ ts) = on_some (last_of ts) (if took_zero t then some 0 else none) (λ k. some (suc k))
