-- The listing that a search is to give (the scope, "The master"): the codes by the first sent bit in which two differ,
-- 0 first.
--     in_order n S      the codes of S, of n bits each, in order: those that begin with 0, in order, then those that
--                      begin with 1
use Rattle.std.specs.Prelude.{true, false, List, [], ◌∷◌, ◌++◌, map, ℕ, zero, suc}
use Rattle.search_laws.specs.Codes.{Code, follow}

unfoldable pub in_order : ℕ → List Code → List Code
in_order zero [] = []
in_order zero (c ∷ S) = [] ∷ []
in_order (suc n) S = map (◌∷◌ false) (in_order n (follow false S)) ++ map (◌∷◌ true) (in_order n (follow true S))
