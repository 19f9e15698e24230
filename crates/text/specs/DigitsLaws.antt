-- Digits to numbers and bytes and back: both round trips of a number of n digits, over any base from 2 to 16, and of
-- bytes; one digit or byte more, as a loop reads or lays them.
--     number_digits, digits_number      the two round trips of a number
--     bytes-hex, hex-bytes              the two round trips of bytes
use Prim.Native.Nat.{ℕ, zero, suc, ◌+◌, ◌-◌, ◌*◌, ◌/◌, ◌%◌, ◌^◌, ◌<◌, ◌≤◌}
use Rattle.std.specs.Prelude.{◌≡◌, Bool, true, false, ◌&&◌, ltb, leb, take, get_or}
use Rattle.std.proofs.Math.Path.{refl, ap}
use Rattle.std.proofs.Common.{sym, ◌∙◌, pow-suc, div-lt_iff_lt-mul, mul-le-mul_left, mul-suc, add-one, lit<, length-append, take-suc}
use Rattle.std.proofs.lemmas.Bool.{false≢true}
use mathlib.Core.List.{List, [], ◌∷◌, ◌++◌, append_assoc, append-nil}
use native.Mathlib.Omega.{arith}
use Rattle.std.proofs.Math.Nat.{pow-succ', pow-zero, mod-lt, mod-eq_of_lt, div-add-mod, div-eq_of_lt, mul-add-div, mul-add-mod_self_left}
use borrow.Author.Tests.{lt-ltb, le-ltb, le-leb, lt-leb, leb-true, ltb-true, ltb-false}
use Rattle.std.proofs.Math.ListN.{length}
use Rattle.std.proofs.Math.Seq.{take-length}
use Rattle.basic_laws.specs.Fold.{fold, all}
use Rattle.basic_laws.specs.FoldLaws.{fold-append, fold_step, all_append, all-at}
use Rattle.basic_laws.specs.Bytes.{Bytes}
use Rattle.basic_laws.specs.ChoiceLaws.{and_left, and_right}
use Rattle.text.specs.Digits.{digit_of, value_of, is_digit, spells, digits, hex_digits, then_digit, number_in, hex_of}
use Rattle.text.specs.Digits.{bytes_of, code_digits}

-- ## One digit

pub value-digit : (v : ℕ) → v < 16 → value_of (digit_of v) ≡ v
value-digit v h = by-test (ltb v 10) refl
  where
    by-test : (t : Bool) → ltb v 10 ≡ t → value_of (digit_of v) ≡ v
    by-test true e =
        let k : v < 10 = ltb-true v 10 e in
        let a : 0x30 ≤ 0x30 + v = omega arith in let b : 0x30 + v ≤ 0x39 = omega arith in
        let d : 0x30 + v - 0x30 ≡ v = omega arith in
        rw (e, le-leb 0x30 (0x30 + v) a, le-leb (0x30 + v) 0x39 b) d
    by-test false e =
        let k : 10 ≤ v = ltb-false v 10 e in
        let a : 0x30 ≤ 0x37 + v = omega arith in let b : 0x39 < 0x37 + v = omega arith in
        let f : 0x41 ≤ 0x37 + v = omega arith in let g : 0x37 + v ≤ 0x46 = omega arith in
        let d : 0x37 + v - 0x37 ≡ v = omega arith in
        rw (e, le-leb 0x30 (0x37 + v) a, lt-leb (0x37 + v) 0x39 b, le-leb 0x41 (0x37 + v) f, le-leb (0x37 + v) 0x46 g) d

pub digit_value : (base c : ℕ) → base ≤ 16 → is_digit base c ≡ true → digit_of (value_of c) ≡ c
digit_value base c few h = numeral (leb 0x30 c && leb c 0x39) refl
  where
    letter : (t : Bool) → (leb 0x41 c && leb c 0x46) ≡ t → (leb 0x30 c && leb c 0x39) ≡ false → digit_of (value_of c) ≡ c
    letter true e n =
        let a : 0x41 ≤ c = leb-true 0x41 c (and_left (leb 0x41 c) (leb c 0x46) e) in
        let b : 10 ≤ c - 0x37 = omega arith in
        let d : 0x37 + (c - 0x37) ≡ c = omega arith in
        rw (n, e, le-ltb (c - 0x37) 10 b) d
    letter false e n = absurd (false≢true (sym (le-ltb 16 base few) ∙ rw (n, e) at h))

    numeral : (t : Bool) → (leb 0x30 c && leb c 0x39) ≡ t → digit_of (value_of c) ≡ c
    numeral true e =
        let a : 0x30 ≤ c = leb-true 0x30 c (and_left (leb 0x30 c) (leb c 0x39) e) in
        let k : c ≤ 0x39 = leb-true c 0x39 (and_right (leb 0x30 c) (leb c 0x39) e) in
        let b : c - 0x30 < 10 = omega arith in
        let d : 0x30 + (c - 0x30) ≡ c = omega arith in
        rw (e, lt-ltb (c - 0x30) 10 b) d
    numeral false e = letter (leb 0x41 c && leb c 0x46) refl e

-- the five ranges of characters, by their bounds
pub value-below : (c : ℕ) → c < 0x30 → 16 ≡ value_of c
value-below c h = let k : c < 0x41 = omega arith in rw (lt-leb 0x30 c h, lt-leb 0x41 c k)

pub value-numeral : (c : ℕ) → 0x30 ≤ c → c ≤ 0x39 → c - 0x30 ≡ value_of c
value-numeral c h k = rw (le-leb 0x30 c h, le-leb c 0x39 k)

pub value-between : (c : ℕ) → 0x39 < c → c < 0x41 → 16 ≡ value_of c
value-between c h k = let l : 0x30 ≤ c = omega arith in rw (le-leb 0x30 c l, lt-leb c 0x39 h, lt-leb 0x41 c k)

pub value-letter : (c : ℕ) → 0x41 ≤ c → c ≤ 0x46 → c - 0x37 ≡ value_of c
value-letter c h k =
    let l : 0x30 ≤ c = omega arith in let m : 0x39 < c = omega arith in
    rw (le-leb 0x30 c l, lt-leb c 0x39 m, le-leb 0x41 c h, le-leb c 0x46 k)

pub value-above : (c : ℕ) → 0x46 < c → 16 ≡ value_of c
value-above c h =
    let l : 0x30 ≤ c = omega arith in let m : 0x39 < c = omega arith in let n : 0x41 ≤ c = omega arith in
    rw (le-leb 0x30 c l, lt-leb c 0x39 m, le-leb 0x41 c n, lt-leb c 0x46 h)

-- ## Numbers

pub digits-length : (base n x : ℕ) → length (digits base n x) ≡ n
unfolding digits
digits-length base zero x = refl
digits-length base (suc n) x = let e = digits-length base n (x / base) in simp length-append (omega arith)

-- a number below the power that n digits do not reach, and one digit more
pub digit-more : (base x d n : ℕ) → x < base ^ n → d < base → base * x + d < base ^ (n + 1)
digit-more base x d n below digit =
    let m : base * suc x ≤ base * base ^ n = mul-le-mul_left base below in
    let p : base ^ (n + 1) ≡ base * base ^ n = rw (add-one n) (pow-succ' base n) in
    let q : base * suc x ≡ base * x + base = mul-suc base x in
    omega arith

-- one digit more, as a loop reads them
pub number-next : (base : ℕ) (cs : List ℕ) (i : ℕ) → i < length cs
    → base * number_in base (take i cs) + value_of (get_or cs i 0) ≡ number_in base (take (i + 1) cs)
unfolding number_in
number-next base cs i h = fold_step (then_digit base) 0 i cs 0 h

-- the number of digits is below the power that they do not reach
pub number-below : (base : ℕ) (cs : List ℕ) → spells base cs ≡ true → number_in base cs < base ^ length cs
unfolding number_in fold
number-below base cs e = rw (take-length) at (upto (length cs) (omega arith))
  where
    upto : (i : ℕ) → i ≤ length cs → number_in base (take i cs) < base ^ i
    upto zero h = rw (pow-zero base) (lit< tt)
    upto (suc i) h =
        let k : i < length cs = omega arith in
        rw (← add-one i, ← number-next base cs i k)
        (digit-more base (number_in base (take i cs)) (value_of (get_or cs i 0)) i (upto i (omega arith))
        (ltb-true (value_of (get_or cs i 0)) base (all-at (is_digit base) cs 0 i k e)))

module _ (base : ℕ) (some : 0 < base) (few : base ≤ 16) where
  digit-is : (x : ℕ) → is_digit base (digit_of (x % base)) ≡ true
  digit-is x =
      let r = mod-lt x some in
      let s : x % base < 16 = omega arith in
      rw (value-digit (x % base) s) (lt-ltb (x % base) base r)

  pub digits_are : (n x : ℕ) → spells base (digits base n x) ≡ true
  unfolding digits all
  digits_are zero x = refl
  digits_are (suc n) x =
      rw (
        all_append (is_digit base) (digits base n (x / base)) (digit_of (x % base) ∷ []),
        digits_are n (x / base),
        digit-is x,
      )

  pub number_digits : (n x : ℕ) → x < base ^ n → number_in base (digits base n x) ≡ x
  unfolding digits number_in fold
  number_digits zero x h = let z = pow-zero base in omega arith
  number_digits (suc n) x h =
      let p : x < base ^ n * base = rw (pow-suc base n) at h in
      let k : x / base < base ^ n = (div-lt_iff_lt-mul some).1 p in
      let r = mod-lt x some in
      let s : x % base < 16 = omega arith in
      rw (
        fold-append (then_digit base) 0 (digits base n (x / base)) (digit_of (x % base) ∷ []),
        number_digits n (x / base) k,
        value-digit (x % base) s,
      ) (div-add-mod x base)

  -- the digits of the number of digits
  digits_more : (n x : ℕ) (cs : List ℕ) → spells base cs ≡ true
      → digits base (n + length cs) (fold (then_digit base) x cs) ≡ digits base n x ++ cs
  unfolding digits fold all
  digits_more n x [] h = let z : n + 0 ≡ n = omega arith in rw (z, append-nil (digits base n x))
  digits_more n x (c ∷ cs) h =
      let d = and_left (is_digit base c) (spells base cs) h in
      let v : value_of c < base = ltb-true (value_of c) base d in
      let m : n + suc (length cs) ≡ suc n + length cs = omega arith in
      let q : then_digit base x c / base ≡ x = mul-add-div some x (value_of c) ∙ ap (λ (k : ℕ). x + k) (div-eq_of_lt v)
      ∙ omega arith in
      let r : then_digit base x c % base ≡ value_of c = mul-add-mod_self_left base x (value_of c) ∙ mod-eq_of_lt v in
      rw (
        m,
        digits_more (suc n) (then_digit base x c) cs (and_right (is_digit base c) (spells base cs) h),
        q,
        r,
        digit_value base c few d,
        append_assoc (digits base n x) (c ∷ []) cs,
      )

  pub digits_number : (cs : List ℕ) → spells base cs ≡ true → digits base (length cs) (number_in base cs) ≡ cs
  unfolding number_in digits
  digits_number cs h =
      let z : 0 + length cs ≡ length cs = omega arith in
      ap (λ (k : ℕ). digits base k (fold (then_digit base) 0 cs)) (sym z) ∙ digits_more 0 0 cs h

-- ## Codes

pub code_read : (x : ℕ) → x < 2 ^ 64 → number_in 16 (code_digits x) ≡ x
code_read x h = number_digits 16 (lit< tt) (omega arith) 16 x h

pub code-written : (cs : List ℕ) → length cs ≡ 16 → spells 16 cs ≡ true → code_digits (number_in 16 cs) ≡ cs
code-written cs e h = ap (λ (n : ℕ). hex_digits n (number_in 16 cs)) (sym e)
    ∙ digits_number 16 (lit< tt) (omega arith) cs h

-- ## Bytes

pub hex-length : (bs : List ℕ) → length (hex_of bs) ≡ 2 * length bs
unfolding hex_of
hex-length [] = refl
hex-length (b ∷ bs) =
    let i = hex-length bs in let d = digits-length 16 2 b in simp length-append (omega arith)

pub hex-append : (a b : List ℕ) → hex_of (a ++ b) ≡ hex_of a ++ hex_of b
unfolding hex_of
hex-append [] b = refl
hex-append (x ∷ a) b = let i = hex-append a b in rw (i, append_assoc)

pub hex-are : (bs : List ℕ) → spells 16 (hex_of bs) ≡ true
unfolding hex_of all
hex-are [] = refl
hex-are (b ∷ bs) = rw (
  all_append (is_digit 16) (hex_digits 2 b) (hex_of bs),
  digits_are 16 (lit< tt) (omega arith) 2 b,
  hex-are bs,
)

pub pairs-length : (n : ℕ) (cs : List ℕ) → length cs ≡ 2 * n → length (bytes_of cs) ≡ n
unfolding bytes_of
pairs-length n [] e = omega arith
pairs-length n (h ∷ []) e = absurd (omega arith)
pairs-length zero (h ∷ l ∷ cs) e = absurd (omega arith)
pairs-length (suc n) (h ∷ l ∷ cs) e = ap suc (pairs-length n cs (omega arith))

-- a last digit without a partner is passed over
pub bytes-half : (cs : List ℕ) → length (bytes_of cs) ≡ length cs / 2
unfolding bytes_of
bytes-half [] = refl
bytes-half (h ∷ []) = refl
bytes-half (h ∷ l ∷ cs) = let i = bytes-half cs in omega arith

pub bytes-at : (cs : List ℕ) (i : ℕ) → 2 * i + 1 < length cs
    → 16 * value_of (get_or cs (2 * i) 0) + value_of (get_or cs (2 * i + 1) 0) ≡ get_or (bytes_of cs) i 0
unfolding bytes_of
bytes-at [] i h = absurd (omega arith)
bytes-at (a ∷ []) i h = absurd (omega arith)
bytes-at (a ∷ b ∷ cs) zero h = refl
bytes-at (a ∷ b ∷ cs) (suc i) h =
    let e : 2 * suc i ≡ suc (suc (2 * i)) = omega arith in
    let f : 2 * suc i + 1 ≡ suc (suc (2 * i + 1)) = omega arith in
    rw (f, e) (bytes-at cs i (omega arith))

pub bytes-bytes : (cs : List ℕ) → spells 16 cs ≡ true → Bytes (bytes_of cs)
unfolding bytes_of all
bytes-bytes [] h k = lit< tt
bytes-bytes (a ∷ []) h k = lit< tt
bytes-bytes (a ∷ b ∷ cs) h zero =
    let x = ltb-true (value_of a) 16 (and_left (is_digit 16 a) (is_digit 16 b && spells 16 cs) h) in
    let y = ltb-true (value_of b) 16 (and_left (is_digit 16 b) (spells 16 cs)
    (and_right (is_digit 16 a) (is_digit 16 b && spells 16 cs) h)) in
    omega arith
bytes-bytes (a ∷ b ∷ cs) h (suc k) =
    bytes-bytes cs (and_right (is_digit 16 b) (spells 16 cs)
    (and_right (is_digit 16 a) (is_digit 16 b && spells 16 cs) h)) k

pub bytes-hex : (bs : List ℕ) → Bytes bs → bytes_of (hex_of bs) ≡ bs
unfolding bytes_of hex_of digits
bytes-hex [] h = refl
bytes-hex (b ∷ bs) h =
    let l : b < 256 = h 0 in
    let p : b / 16 % 16 < 16 = omega arith in let q : b % 16 < 16 = omega arith in
    let e : 16 * (b / 16 % 16) + b % 16 ≡ b = omega arith in
    let i = bytes-hex bs (λ k. h (suc k)) in
    rw (value-digit (b / 16 % 16) p, value-digit (b % 16) q, e, i)

pub hex-bytes : (n : ℕ) (cs : List ℕ) → length cs ≡ 2 * n → spells 16 cs ≡ true → hex_of (bytes_of cs) ≡ cs
unfolding bytes_of hex_of digits all
hex-bytes n [] e h = refl
hex-bytes n (a ∷ []) e h = absurd (omega arith)
hex-bytes zero (a ∷ b ∷ cs) e h = absurd (omega arith)
hex-bytes (suc n) (a ∷ b ∷ cs) e h =
    let da = and_left (is_digit 16 a) (is_digit 16 b && spells 16 cs) h in
    let more = and_right (is_digit 16 a) (is_digit 16 b && spells 16 cs) h in
    let db = and_left (is_digit 16 b) (spells 16 cs) more in
    let x = ltb-true (value_of a) 16 da in let y = ltb-true (value_of b) 16 db in
    let p : (16 * value_of a + value_of b) / 16 % 16 ≡ value_of a = omega arith in
    let q : (16 * value_of a + value_of b) % 16 ≡ value_of b = omega arith in
    let i = hex-bytes n cs (omega arith) (and_right (is_digit 16 b) (spells 16 cs) more) in
    rw (p, q, digit_value 16 a (omega arith) da, digit_value 16 b (omega arith) db, i)

-- one byte more behind those whose digits are written
pub hex-more : (bs : List ℕ) (i : ℕ) → i < length bs
    → hex_of (take (i + 1) bs) ≡ hex_of (take i bs) ++ hex_digits 2 (get_or bs i 0)
unfolding hex_of
hex-more bs i h = rw (
  add-one i,
  take-suc bs i 0 h,
  hex-append (take i bs) (get_or bs i 0 ∷ []),
  append-nil (hex_digits 2 (get_or bs i 0)),
)
