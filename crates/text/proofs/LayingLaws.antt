-- The two ways in which laying a text can end; text laid character by character from its front or from its back; bytes
-- laid over bytes.
use Rattle.std.specs.Prelude.{ℕ, suc, ◌+◌, ◌-◌, ◌*◌, ◌/◌, ◌%◌, ◌<◌, ◌≤◌, ◌≡◌, refl, Bool, true, false, List, [], ◌∷◌, ◌++◌, leb, length, set, take, drop, get_or}
use Rattle.std.proofs.Common.{sym, ap, ◌∙◌, append_assoc, arith, le_of_lt, le-leb, leb-true, leb-false, length-append, drop_at, length-take-le}
use Rattle.std.proofs.lemmas.Bool.{lt-leb}
use Rattle.std.proofs.lemmas.List.{take-set-le, set_split}
use Rattle.basic_laws.specs.Laid.{laid}
use Rattle.basic_laws.specs.LaidLaws.{laid_more, laid-length, laid-sets, laid_then}
use Rattle.refusals.specs.Refusals.{accepted, no_room, not_hex}
use Rattle.text.specs.Digits.{digit_of, digits, hex_digits, hex_of, spells, bytes_of}
use Rattle.text.specs.DigitsLaws.{digits-length, hex-length, hex-more}
use Rattle.text.specs.Laying.{has_room, lay_answer, lay_leaves, decode_answer, decode_leaves}

-- ## The two ends

-- the test that cannot run over: what is asked for against what is left behind the place
pub room-left : (size at n : ℕ) → at ≤ size → leb n (size - at) ≡ leb (at + n) size
room-left size at n h = by-test (leb (at + n) size) refl
  where
    by-test : (t : Bool) → leb (at + n) size ≡ t → leb n (size - at) ≡ t
    by-test true e = let k = leb-true (at + n) size e in le-leb n (size - at) (omega arith)
    by-test false e = let k = leb-false (at + n) size e in lt-leb n (size - at) (omega arith)

module _ (out : List ℕ) (at : ℕ) (x : List ℕ) (n : ℕ) (count : n ≡ length x) where
  pub lay-short : has_room out at n ≡ false → (record { refusal = no_room; next = 0 } ≡ lay_answer out at x)
      × (out ≡ lay_leaves out at x)
  lay-short h = let e : has_room out at (length x) ≡ false = rw (← count) h in rw e (refl, refl)

  pub lay_done : at + n ≤ length out → (record { refusal = accepted; next = at + n } ≡ lay_answer out at x)
      × (laid out at x ≡ lay_leaves out at x)
  lay_done h =
      let k : at + length x ≤ length out = omega arith in
      rw (le-leb (at + length x) (length out) k) (rw count refl, refl)

-- a text that fits is laid
pub lay-fits : (out : List ℕ) (at : ℕ) (x : List ℕ) → at + length x ≤ length out
    → (lay_answer out at x ≡ record { refusal = accepted; next = at + length x }) × (lay_leaves out at x ≡ laid out at x)
lay-fits out at x h = rw (le-leb (at + length x) (length out) h) (refl, refl)

-- ## From the back

-- the last character is stored first
pub laid-last : (d : List ℕ) (at : ℕ) (x : List ℕ) (v n : ℕ) → at + length x ≡ n → n < length d
    → laid (set d n v) at x ≡ laid d at (x ++ (v ∷ []))
unfolding laid
laid-last d at x v n e h =
    let m : at ≤ n = omega arith in
    let front : take at (set d n v) ≡ take at d = take-set-le at d n v m in
    let p : length (take n d) ≡ n = length-take-le n d (le_of_lt h) in
    let back : drop (at + length x) (set d n v) ≡ v ∷ drop (suc n) d =
    rw (e, set_split d n v h) (drop_at (take n d) (v ∷ drop (suc n) d) n p) in
    let behind : at + length (x ++ (v ∷ [])) ≡ suc n = rw (length-append x (v ∷ [])) (omega arith) in
    rw (
      front,
      back,
      behind,
      append_assoc (take at d) x (v ∷ drop (suc n) d),
      append_assoc (take at d) (x ++ (v ∷ [])) (drop (suc n) d),
      append_assoc x (v ∷ []) (drop (suc n) d),
    )

-- one digit more from the back: what is still to be laid is one digit less of the number's quotient
pub digits_last : (d : List ℕ) (at base i x v n : ℕ) → v ≡ digit_of (x % base) → at + i ≡ n → n < length d
    → laid (set d n v) at (digits base i (x / base)) ≡ laid d at (digits base (suc i) x)
unfolding digits
digits_last d at base i x v n e k h =
    let l : at + length (digits base i (x / base)) ≡ n = rw (digits-length base i (x / base)) k in
    rw e (laid-last d at (digits base i (x / base)) (digit_of (x % base)) n l h)

-- ## Bytes by their digits

-- one byte more after those whose digits are laid
pub laid-hex : (d : List ℕ) (at : ℕ) (bs : List ℕ) (i : ℕ) → i < length bs → at + 2 * length bs ≤ length d
    → laid (laid d at (hex_of (take i bs))) (at + 2 * i) (hex_digits 2 (get_or bs i 0))
    ≡ laid d at (hex_of (take (i + 1) bs))
laid-hex d at bs i h r =
    let l : length (hex_of (take i bs)) ≡ 2 * i =
    hex-length (take i bs) ∙ ap (λ (k : ℕ). 2 * k) (length-take-le i bs (le_of_lt h)) in
    let f : at + length (hex_of (take i bs)) ≤ length d = omega arith in
    rw (hex-more bs i h, ← l) (laid_more d at (hex_of (take i bs)) (hex_digits 2 (get_or bs i 0)) f)

-- ## The ends of a decoding

module _ (out cs : List ℕ) where
  pub decode-other : spells 16 cs ≡ false → (record { refusal = not_hex; next = 0 } ≡ decode_answer out cs)
      × (out ≡ decode_leaves out cs)
  decode-other e = rw e (refl, refl)

  module _ (spelt : spells 16 cs ≡ true) (n : ℕ) (count : n ≡ length (bytes_of cs)) where
    pub decode-short : has_room out 0 n ≡ false
        → (record { refusal = no_room; next = 0 } ≡ decode_answer out cs) × (out ≡ decode_leaves out cs)
    decode-short h = rw spelt (lay-short out 0 (bytes_of cs) n count h)

    pub decode-done : 0 + n ≤ length out → (record { refusal = accepted; next = n } ≡ decode_answer out cs)
        × (laid out 0 (bytes_of cs) ≡ decode_leaves out cs)
    decode-done h =
        let z : 0 + n ≡ n = omega arith in
        let d = lay_done out 0 (bytes_of cs) n count h in
        rw spelt (ap (λ (k : ℕ). record { refusal = accepted; next = k }) (sym z) ∙ d.0, d.1)

-- ## One text behind another

-- a text that fits, laid just behind one that is laid
pub lay-behind : (d : List ℕ) (at : ℕ) (x y : List ℕ) (n : ℕ) → at + length x ≡ n → n + length y ≤ length d
    → lay_leaves (laid d at x) n y ≡ laid d at (x ++ y)
lay-behind d at x y n e h =
    let room : at + length x ≤ length d = omega arith in
    let size = laid-length d at x room in
    let fits : n + length y ≤ length (laid d at x) = omega arith in
    (lay-fits (laid d at x) n y fits).1 ∙ laid_then d at x y n e (omega arith)

-- a character that is stored, and a text laid just behind it
pub lay-marked : (d : List ℕ) (at v : ℕ) (x : List ℕ) → at + (1 + length x) ≤ length d
    → (lay_answer (set d at v) (at + 1) x ≡ lay_answer d at (v ∷ x))
    × (lay_leaves (set d at v) (at + 1) x ≡ lay_leaves d at (v ∷ x))
lay-marked d at v x h =
    let one : at + length (v ∷ []) ≤ length d = omega arith in
    let stored : set d at v ≡ laid d at (v ∷ []) = laid-sets d at (v ∷ []) one in
    let size : length (set d at v) ≡ length d = ap length stored ∙ laid-length d at (v ∷ []) one in
    let behind = lay-fits (set d at v) (at + 1) x (omega arith) in
    let whole = lay-fits d at (v ∷ x) (omega arith) in
    let place : at + 1 + length x ≡ at + length (v ∷ x) = omega arith in (
      behind.0 ∙ ap (λ (n : ℕ). record { refusal = accepted; next = n }) place ∙ sym whole.0,
      behind.1 ∙ ap (λ (u : List ℕ). laid u (at + 1) x) stored ∙ laid_then d at (v ∷ []) x (at + 1) refl (omega arith)
          ∙ sym whole.1,
    )
