-- What hides, so that no promise can be larger: noise that leaves the register at zero by itself is added to a string
-- without moving its register (`hides`), and such are the polynomial anywhere (`polynomial-hides`) and two bits with
-- 126 between them: `tight`.
use Rattle.std.specs.Prelude.{ℕ, zero, suc, ◌+◌, ◌-◌, ◌<◌, ◌≤◌, ◌≡◌, refl, Bool, true, false, List, ◌++◌, ltb, get_or, replicate}
use Rattle.std.proofs.Common.{sym, ap, ◌∙◌, arith, ltb-true, ltb-false, get_or-append-add}
use Rattle.std.proofs.lemmas.Bool.{false≢true}
use Rattle.std.specs.Int.Bits.{bit_xor, xor_zero_r}
use Rattle.basic_laws.specs.Fold.{fold}
use Rattle.basic_laws.specs.Sums.{ones}
use Rattle.basic_laws.proofs.SumsLaws.{ones-append}
use Rattle.crc.specs.Crc.{crc_bits}
use Rattle.crc.specs.Laws.{crc-none, crc-more, crc-append}
use Rattle.crc.proofs.SumZeroLaws.{crc-sum-zero}
use Rattle.noise_laws.specs.Claims.{polynomial_at, first_and_last, Hides, Tight}
use Rattle.noise_laws.specs.DifferencesLaws.{sum-differs, sum-within}

pub hides : (n : ℕ) (noise : List Bool) → crc_bits 0 noise ≡ 0 → ones noise ≡ n → Hides n noise
hides n noise e o a h =
    (crc-sum-zero a noise h ∙ ap (bit_xor (crc_bits 0 a)) e ∙ xor_zero_r (crc_bits 0 a), sum-differs a noise h ∙ o)

-- ## The polynomial

zeros-keep : (i : ℕ) → crc_bits 0 (replicate i false) ≡ 0
zeros-keep zero = crc-none 0
zeros-keep (suc i) = crc-more 0 false (replicate i false) ∙ zeros-keep i

zeros-none : (i : ℕ) → ones (replicate i false) ≡ 0
unfolding ones
zeros-none zero = refl
zeros-none (suc i) = let e = zeros-none i in omega arith

-- the polynomial with nothing around it
abbrev polynomial : List Bool
polynomial = polynomial_at 0 0

alone-zero : crc_bits 0 polynomial ≡ 0
unfolding crc_bits fold
alone-zero = refl

alone-ones : ones polynomial ≡ 4
unfolding ones
alone-ones = refl

pub polynomial-hides : (i k : ℕ) → Hides 4 (polynomial_at i k)
polynomial-hides i k = hides 4 (polynomial_at i k) zeroed four
  where
    zeroed : crc_bits 0 (polynomial_at i k) ≡ 0
    zeroed =
        crc-append 0 (replicate i false ++ polynomial) (replicate k false)
        ∙ ap (λ (r : ℕ). crc_bits r (replicate k false))
        (crc-append 0 (replicate i false) polynomial ∙ ap (λ (r : ℕ). crc_bits r polynomial) (zeros-keep i) ∙ alone-zero)
        ∙ zeros-keep k

    four : ones (polynomial_at i k) ≡ 4
    four =
        omega (
          arith,
          ones-append (replicate i false ++ polynomial) (replicate k false),
          ones-append (replicate i false) polynomial,
          zeros-none i,
          zeros-none k,
          alone-ones,
        )

zeros-at : (k j : ℕ) → get_or (replicate k false) j false ≡ false
zeros-at zero j = refl
zeros-at (suc k) zero = refl
zeros-at (suc k) (suc j) = zeros-at k j

its-ones : (i k j : ℕ) → get_or (polynomial_at i k) j false ≡ true → (i ≤ j) × (j < i + 9)
its-ones zero k j t = (omega arith, by-test (ltb j 9) refl)
  where
    by-test : (u : Bool) → ltb j 9 ≡ u → j < 0 + 9
    by-test true u = let h = ltb-true j 9 u in omega arith
    by-test false u =
        let h = ltb-false j 9 u in
        let p : j ≡ 9 + (j - 9) = omega arith in
        let past = get_or-append-add polynomial (replicate k false) (j - 9) false in
        absurd (false≢true (sym (ap (λ (m : ℕ). get_or (polynomial_at 0 k) m false) p ∙ past ∙ zeros-at k (j - 9)) ∙ t))
its-ones (suc i) k zero t = absurd (false≢true t)
its-ones (suc i) k (suc j) t = let h = its-ones i k j t in (omega arith, omega arith)

-- ## Both

pub tight : Tight
unfolding crc_bits fold ones
tight = record {
  polynomial-hides = polynomial-hides;
  nine-neighbours = λ i k a. sum-within _ i a (polynomial_at i k) (λ j t. let p = its-ones i k j t in
      (p.0, omega arith));
  two-hide = (refl, hides 2 first_and_last refl refl);
}
