-- One list laid over another from a place on: what a writer leaves of a whole slice.
--     laid d at x      d with the elements from place `at` on replaced by those of x; meant for x that ends within d
use Rattle.std.specs.Prelude.{ℕ, ◌+◌, List, ◌++◌, length, take, drop}

unfoldable pub laid : {A : Type 0} → List A → ℕ → List A → List A
laid d at x = take at d ++ x ++ drop (at + length x) d
