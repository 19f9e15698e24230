-- Two different strings of equal length that both bring the register to zero are apart: `distance`. So does their sum,
-- whose ones are the differences; from there on the proofs speak of the ones of one string. Leading zeros leave the
-- register at zero, and trailing ones may be dropped (`quiet`), so that no place has to be named.
--     four-ones       up to 127 bits it has four ones at least: an even number (`even-ones`), and not two, for a first
--                     1 makes the register the taps, a second must find it at 1, and none of the 126 registers from the
--                     taps on is 1, which is the one computed test
--     neighbours      at any length they are not within eight neighbours: eight bits are a number below 256, which goes
--                     in as zeros do from that number, and only 0 comes to zero
use Rattle.std.specs.Prelude.{ℕ, zero, suc, ◌+◌, ◌<◌, ◌≤◌, ◌≡◌, refl, Bool, true, false, not, ◌&&◌, List, [], ◌∷◌, eqb, ltb, length, get_or, take, drop}
use Rattle.std.proofs.Common.{sym, ap, ◌∙◌, arith, ltb-true, ltb-false, eq-eqb, lit<, length-take, take-append-drop, pow_mono, get_or-drop}
use Rattle.std.proofs.lemmas.Bool.{false≢true}
use Rattle.std.specs.Int.Bits.{xor_zero_l}
use Rattle.basic_laws.specs.Bits.{bits_of, number_of}
use Rattle.basic_laws.specs.BitsLaws.{bits-number, number_lt}
use Rattle.basic_laws.specs.Sums.{sum, ones}
use Rattle.basic_laws.proofs.SumsLaws.{sum-length, same-if-none, ones-append, ones-zeros, none-anywhere}
use Rattle.crc.specs.Crc.{taps, crc_bit, crc_bits}
use Rattle.crc.specs.Laws.{crc-more, crc-append, crc-bit-lt, crc-lt}
use Rattle.crc.proofs.SumLaws.{crc-merge}
use Rattle.crc.proofs.SumZeroLaws.{crc-sum-zero}
use Rattle.noise_laws.specs.Claims.{Distance}
use Rattle.noise_laws.specs.DifferencesLaws.{differences-ones, ones-within}
use Rattle.noise_laws.specs.HoldsLaws.{from_one, quiet}
use Rattle.noise_laws.specs.ParityLaws.{even-ones}

sum-zero : (a b : List Bool) → length a ≡ length b → crc_bits 0 a ≡ 0 → crc_bits 0 b ≡ 0 → crc_bits 0 (sum a b) ≡ 0
sum-zero a b h e f = crc-sum-zero a b h ∙ rw (e, f)

-- ## Two places

-- whether none of the n registers from y on, as bits 0 go in, is 1
never-one : ℕ → ℕ → Bool
never-one zero y = true
never-one (suc n) y = not (eqb y 1) && never-one n (crc_bit y false)

taps-never-one : never-one 126 taps ≡ true
unfolding never-one
taps-never-one = refl

fewer : (k n y : ℕ) → k ≤ n → never-one n y ≡ true → never-one k y ≡ true
unfolding never-one
fewer zero n y h t = refl
fewer (suc k) zero y h t = absurd (omega arith)
fewer (suc k) (suc n) y h t = by-test (not (eqb y 1)) t (fewer k n (crc_bit y false) (omega arith))
  where
    by-test : (u : Bool) → (u && never-one n (crc_bit y false)) ≡ true
        → (never-one n (crc_bit y false) ≡ true → never-one k (crc_bit y false) ≡ true)
        → (u && never-one k (crc_bit y false)) ≡ true
    by-test true t f = f t
    by-test false t f = t

one_place : (y : ℕ) (l : List Bool) → y < 256 → never-one (length l) y ≡ true → ones l ≡ 1 → crc_bits y l ≡ 0 → ⊥
unfolding ones never-one
one_place y [] h t n e = omega arith
one_place y (true ∷ l) h t n e =
    let k : ones l ≡ 0 = omega arith in
    let z = quiet (crc_bit y true) l (crc-bit-lt y true h) k (sym (crc-more y true l) ∙ e) in
    let o = from_one y h z in
    false≢true (sym (ap (λ (u : Bool). not u && never-one (length l) (crc_bit y false)) (eq-eqb y 1 o)) ∙ t)
one_place y (false ∷ l) h t n e =
    let k : ones l ≡ 1 = omega arith in
    one_place (crc_bit y false) l (crc-bit-lt y false h) (second (not (eqb y 1)) t) k (sym (crc-more y false l) ∙ e)
  where
    second : (u : Bool) → (u && never-one (length l) (crc_bit y false)) ≡ true
        → never-one (length l) (crc_bit y false) ≡ true
    second true t = t
    second false t = absurd (false≢true t)

two-places : (l : List Bool) → length l ≤ 127 → ones l ≡ 2 → crc_bits 0 l ≡ 0 → ⊥
unfolding ones
two-places [] h n e = omega arith
two-places (true ∷ l) h n e =
    let k : ones l ≡ 1 = omega arith in
    let m : length l ≤ 126 = omega arith in
    one_place taps l (lit< tt) (fewer (length l) 126 taps m taps-never-one) k (sym (crc-more 0 true l) ∙ e)
two-places (false ∷ l) h n e =
    let k : ones l ≡ 2 = omega arith in
    two-places l (omega arith) k (sym (crc-more 0 false l) ∙ e)

four-ones : (l : List Bool) → length l ≤ 127 → crc_bits 0 l ≡ 0 → (ones l ≡ 0 → ⊥) → 4 ≤ ones l
four-ones l h e z = by-test (ltb (ones l) 4) refl
  where
    by-test : (t : Bool) → ltb (ones l) 4 ≡ t → 4 ≤ ones l
    by-test false t = ltb-false (ones l) 4 t
    by-test true t =
        let k = ltb-true (ones l) 4 t in
        let p = even-ones l e in
        let two : ones l ≡ 2 = omega arith in
        absurd (two-places l h two e)

-- ## Neighbouring places

-- at most eight bits go into the register one to one
short : (w : List Bool) → length w ≤ 8 → crc_bits 0 w ≡ 0 → ones w ≡ 0
short w h e =
    let x = number_of w in
    let lt : x < 256 = omega (arith, number_lt w, pow_mono {i = length w} {j = 8} h) in
    let same = bits-number w in
    let fed : crc_bits x (bits_of (length w) 0) ≡ 0
    = ap (λ (y : ℕ). crc_bits y (bits_of (length w) 0)) (sym (xor_zero_l x))
    ∙ sym (crc-merge (length w) 0 x (number_lt w)) ∙ ap (crc_bits 0) same ∙ e in
    let z : x ≡ 0 = quiet x (bits_of (length w) 0) lt (ones-zeros (length w)) fed in
    ap ones (sym same) ∙ ap (λ (y : ℕ). ones (bits_of (length w) y)) z ∙ ones-zeros (length w)

neighbours : (i : ℕ) (l : List Bool) → ((j : ℕ) → get_or l j false ≡ true → (i ≤ j) × (j < i + 8)) → crc_bits 0 l ≡ 0
    → ones l ≡ 0
unfolding ones
neighbours zero l h e =
    let parts = take-append-drop 8 l in
    let rest : ones (drop 8 l) ≡ 0
    = none-anywhere (drop 8 l) (λ (j : ℕ) (t : get_or (drop 8 l) j false ≡ true).
    let k = (h (8 + j) (sym (get_or-drop 8 l j false) ∙ t)).1 in omega arith) in
    let fed : crc_bits (crc_bits 0 (take 8 l)) (drop 8 l) ≡ 0 =
    sym (crc-append 0 (take 8 l) (drop 8 l)) ∙ ap (crc_bits 0) parts ∙ e in
    let z = quiet (crc_bits 0 (take 8 l)) (drop 8 l) (crc-lt 0 (take 8 l) (lit< tt)) rest fed in
    let m : length (take 8 l) ≤ 8 = omega (arith, length-take 8 l) in
    let front = short (take 8 l) m z in
    ap ones (sym parts) ∙ ones-append (take 8 l) (drop 8 l) ∙ omega arith
neighbours (suc i) [] h e = refl
neighbours (suc i) (true ∷ l) h e = absurd (let k = (h 0 refl).0 in omega arith)
neighbours (suc i) (false ∷ l) h e =
    let k = neighbours i l (λ (j : ℕ) (t : get_or l j false ≡ true). let p = h (suc j) t in (omega arith, omega arith))
    (sym (crc-more 0 false l) ∙ e) in
    omega arith

-- ## Both

pub distance : Distance
distance = record {
  four-places = λ a b s h e f n.
      let k : length (sum a b) ≤ 127 = omega (arith, sum-length a b s) in
      let four = four-ones (sum a b) k (sum-zero a b s e f) (λ (z : ones (sum a b) ≡ 0). n (same-if-none a b s z)) in
      omega (arith, differences-ones a b s);
  no-burst = λ a b s e f n w.
      let within : (j : ℕ) → get_or (sum a b) j false ≡ true → (w.0 ≤ j) × (j < w.0 + 8)
      = λ j t. let p = ones-within _ a b w j t in (p.0, omega arith) in
      n (same-if-none a b s (neighbours w.0 (sum a b) within (sum-zero a b s e f)));
}
