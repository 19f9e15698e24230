-- The exclusive or of numbers by halves and parities, that neither order nor grouping counts, and when it is zero.
--     xor-half, xor_low      half and parity of the exclusive or
--     odd-xor                its lowest bit is the sum of the two lowest bits
--     xor-swap               (a xor b) xor c is (a xor c) xor b
--     xor_assoc              (a xor b) xor c is a xor (b xor c)
--     xor-none               zero only of a number with itself
use Rattle.std.specs.Prelude.{ℕ, zero, suc, ◌+◌, ◌*◌, ◌/◌, ◌%◌, ◌<◌, ◌≡◌, refl, Bool, true, false}
use Rattle.std.proofs.Common.{sym, ap, ◌∙◌, mod-lt, arith, eqb-true, eq-eqb, ne_eqb, lit<}
use Rattle.std.proofs.lemmas.Bool.{eqb-false}
use Rattle.std.proofs.Math.Arith.{bin_ind}
use Rattle.std.specs.Int.Bits.{bit_xor, differ, xor_step, xor_self, xor_zero_l, xor_zero_r}
use Rattle.std.proofs.lemmas.Nat.{xor_comm}
use Rattle.basic_laws.specs.Bits.{odd}
use Rattle.basic_laws.specs.Sums.{plus}

differ-parity : (x y : ℕ) → x < 2 → y < 2 → differ x y ≡ (x + y) % 2
differ-parity zero zero h k = refl
differ-parity zero (suc zero) h k = refl
differ-parity (suc zero) zero h k = refl
differ-parity (suc zero) (suc zero) h k = refl
differ-parity (suc (suc x)) y h k = absurd (omega arith)
differ-parity zero (suc (suc y)) h k = absurd (omega arith)
differ-parity (suc zero) (suc (suc y)) h k = absurd (omega arith)

split : (a b : ℕ) → bit_xor a b ≡ bit_xor (a / 2) (b / 2) * 2 + (a + b) % 2
split a b =
    let d : differ (a % 2) (b % 2) ≡ (a % 2 + b % 2) % 2 =
    differ-parity (a % 2) (b % 2) (mod-lt a (lit< tt)) (mod-lt b (lit< tt)) in
    let s : bit_xor a b ≡ bit_xor (a / 2) (b / 2) * 2 + differ (a % 2) (b % 2) = xor_step a b in
    omega arith

pub xor-half : (a b : ℕ) → bit_xor a b / 2 ≡ bit_xor (a / 2) (b / 2)
xor-half a b = let s = split a b in omega arith

pub xor_low : (a b : ℕ) → bit_xor a b % 2 ≡ (a + b) % 2
xor_low a b = let s = split a b in omega arith

pub odd-xor : (a b : ℕ) → odd (bit_xor a b) ≡ plus (odd a) (odd b)
odd-xor a b = by-test (odd a) (odd b) refl refl
  where
    by-test : (p q : Bool) → odd a ≡ p → odd b ≡ q → odd (bit_xor a b) ≡ plus p q
    by-test true true e f =
        let e' = eqb-true (a % 2) 1 e in let f' = eqb-true (b % 2) 1 f in
        ne_eqb (bit_xor a b % 2) 1 (λ (h : bit_xor a b % 2 ≡ 1). let l = xor_low a b in omega arith)
    by-test false false e f =
        let e' = eqb-false (a % 2) 1 e in let f' = eqb-false (b % 2) 1 f in
        ne_eqb (bit_xor a b % 2) 1 (λ (h : bit_xor a b % 2 ≡ 1). let l = xor_low a b in omega arith)
    by-test true false e f =
        let e' = eqb-true (a % 2) 1 e in let f' = eqb-false (b % 2) 1 f in
        eq-eqb (bit_xor a b % 2) 1 (let l = xor_low a b in omega arith)
    by-test false true e f =
        let e' = eqb-false (a % 2) 1 e in let f' = eqb-true (b % 2) 1 f in
        eq-eqb (bit_xor a b % 2) 1 (let l = xor_low a b in omega arith)

same-by-halves : (p q : ℕ) → p / 2 ≡ q / 2 → p % 2 ≡ q % 2 → p ≡ q
same-by-halves p q h l = omega arith

parity-added : (x y c : ℕ) → x % 2 ≡ y % 2 → (x + c) % 2 ≡ (y + c) % 2
parity-added x y c h = omega arith

low-of-three : (a b c : ℕ) → bit_xor (bit_xor a b) c % 2 ≡ (a + b + c) % 2
low-of-three a b c = xor_low (bit_xor a b) c ∙ parity-added (bit_xor a b) (a + b) c (xor_low a b)

half_of_three : (a b c : ℕ) → bit_xor (bit_xor a b) c / 2 ≡ bit_xor (bit_xor (a / 2) (b / 2)) (c / 2)
half_of_three a b c = xor-half (bit_xor a b) c ∙ ap (λ (x : ℕ). bit_xor x (c / 2)) (xor-half a b)

pub xor-swap : (a b c : ℕ) → bit_xor (bit_xor a b) c ≡ bit_xor (bit_xor a c) b
xor-swap =
    bin_ind (λ (a : ℕ). (b c : ℕ) → bit_xor (bit_xor a b) c ≡ bit_xor (bit_xor a c) b)
    (λ b c. rw (xor_zero_l b, xor_zero_l c) (xor_comm b c))
    (λ a ih b c.
    let m : (a + b + c) % 2 ≡ (a + c + b) % 2 = omega arith in
    same-by-halves _ _ (half_of_three a b c ∙ ih (b / 2) (c / 2) ∙ sym (half_of_three a c b)) (low-of-three a b c ∙ m
    ∙ sym (low-of-three a c b)))

pub xor_assoc : (a b c : ℕ) → bit_xor (bit_xor a b) c ≡ bit_xor a (bit_xor b c)
xor_assoc a b c = ap (λ (x : ℕ). bit_xor x c) (xor_comm a b) ∙ xor-swap b a c ∙ xor_comm (bit_xor b c) a

pub xor-none : (a b : ℕ) → bit_xor a b ≡ 0 → a ≡ b
xor-none a b e =
    sym (xor_zero_r a) ∙ ap (bit_xor a) (sym (xor_self b)) ∙ sym (xor_assoc a b b) ∙ ap (λ (x : ℕ). bit_xor x b) e
    ∙ xor_zero_l b
