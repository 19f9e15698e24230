-- A place that was found is one of the table.
use Rattle.std.specs.Prelude.{ℕ, ◌+◌, ◌<◌, ◌≡◌, eqb, length}
use Rattle.std.proofs.Common.{arith, length-take}
use Rattle.basic_laws.specs.FirstLaws.{first-cases}
use Rattle.bench.specs.declared.Bench.{Bench}
use Rattle.bench.specs.declared.Place.TheVariants.{At, Nowhere}
use Rattle.bench.specs.Bench.{live, place_of}

pub place-within : (b : Bench) (code i : ℕ) → length b.devices ≡ 32 → place_of b code ≡ At i → i < 32
unfolding place_of
place-within b code i long =
    first-cases (λ d. eqb d.code code) At Nowhere 0 (live b) (λ p. p ≡ At i → i < 32)
    (λ j within passes same. let g : 0 + j ≡ i = cc in let few = length-take b.count b.devices in omega arith)
    (λ none same. let z : ◌≡◌ {A = ℕ} 0 1 = cc in absurd (omega arith))
