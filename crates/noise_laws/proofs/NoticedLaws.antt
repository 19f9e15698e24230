-- Noise on what is sent as bits and refused with 5 where its CRC does not hold. First for anything whose test is "the
-- register over all its bits ends at zero" (`notices`), then that the tests of a scratchpad and of a code are that
-- (`pad-held`, `code-held`): the byte tested is the last, and no other refusal of `judged` or `code_refusal` is 5.
use Rattle.std.specs.Prelude.{ℕ, ◌+◌, ◌*◌, ◌/◌, ◌%◌, ◌^◌, ◌<◌, ◌≤◌, ◌≡◌, refl, Bool, true, false, not, List, [], ◌∷◌, ◌++◌, ◌↔◌, eqb, length, get_or, take}
use Rattle.std.proofs.Common.{sym, ap, ◌∙◌, arith, eqb-true, eq-eqb, take-suc, take_all}
use Rattle.std.proofs.lemmas.Bool.{eqb-false}
use Rattle.std.specs.Prelude.{if◌then◌else◌}
use Rattle.basic_laws.specs.Bits.{bits_of, number_of, bytes_bits}
use Rattle.basic_laws.specs.BitsLaws.{bits-append, bits-block, bits-length, number-bits, bytes-length}
use Rattle.basic_laws.specs.BytesLaws.{bytes_same}
use Rattle.refusals.specs.Refusals.{accepted, wrong_crc, all_zero, wrong_kind, out_of_range, wrong_counts}
use Rattle.family.specs.Families.{properties_of}
use Rattle.crc.specs.Crc.{crc_bits, crc_of}
use Rattle.rom.specs.Code.{family_of, crc_byte_of, code_bits, code_refusal}
use Rattle.temperature.specs.Range.{in_range}
use Rattle.scratchpad.specs.Judgement.{crc_right, all_zeros, kind_right, counts_believed, refused_pad, judged}
use Rattle.scratchpad.specs.Stored.{reading_in, fine_in}
use Rattle.scratchpad.specs.declared.Judged.{Judged}
use Rattle.noise_laws.specs.Claims.{Noticed, NineBytes, ScratchpadsNoticed, CodesNoticed}
use Rattle.noise_laws.specs.DifferencesLaws.{differ-somewhere}
use Rattle.noise_laws.specs.DistanceLaws.{distance}
use Rattle.noise_laws.specs.HiddenLaws.{polynomial-hides}
use Rattle.noise_laws.specs.HoldsLaws.{holds-bits, holds-bytes}
use Rattle.noise_laws.specs.Noise.{Slight, few, burst}

-- ## Anything whose test is the register

slight-noticed : (a b : List Bool) → length a ≡ length b → length a ≤ 127 → Slight a b → crc_bits 0 a ≡ 0
    → crc_bits 0 b ≡ 0 → ⊥
slight-noticed a b s h (few one three) e f = let k =
    distance.four-places a b s h e f (differ-somewhere a b (omega arith)) in omega arith
slight-noticed a b s h (burst one within) e f = distance.no-burst a b s e f (differ-somewhere a b (omega arith)) within

-- a number that cannot be other than n is n
is_number : (m n : ℕ) → ((m ≡ n → ⊥) → ⊥) → m ≡ n
is_number m n h = by-test (eqb m n) refl
  where
    by-test : (t : Bool) → eqb m n ≡ t → m ≡ n
    by-test true t = eqb-true m n t
    by-test false t = absurd (h (eqb-false m n t))

module _ (X : Type 0) (Is : X → Type 0) (sent : X → List Bool) (refusal : X → ℕ) (bits : ℕ)
    (long : (x : X) → Is x → length (sent x) ≡ bits)
    (few-enough : bits ≤ 127)
    (same : (x y : X) → Is x → Is y → sent x ≡ sent y → x ≡ y)
    (held : (x : X) → Is x → (refusal x ≡ wrong_crc → ⊥) ↔ (crc_bits 0 (sent x) ≡ 0))
  where
    pub notices : Noticed X Is sent refusal
    notices = record {
      held = held;
      noticed = λ x y p q r s.
          is_number (refusal y) wrong_crc (λ (t : refusal y ≡ wrong_crc → ⊥).
          slight-noticed (sent x) (sent y) (long x p
          ∙ sym (long y q)) (omega (arith, long x p)) s ((held x p).0 r) ((held y q).0 t));
      apart = λ x y p q r t d.
          let other : sent x ≡ sent y → ⊥ = λ (e : sent x ≡ sent y). d (same x y p q e) in
          let l = long x p ∙ sym (long y q) in (
            (let f = distance.four-places (sent x) (sent y) l (omega (arith, long x p)) ((held x p).0 r) ((held y q).0 t)
                other in omega arith),
            distance.no-burst (sent x) (sent y) l ((held x p).0 r) ((held y q).0 t) other,
          );
      hidden = λ x y i k p q l e r.
          (held y q).1 (ap (crc_bits 0) e ∙ (polynomial-hides i k (sent x) l).0 ∙ (held x p).0 r);
    }

-- ## Scratchpads

last_byte : (pad : List ℕ) → length pad ≡ 9 → take 8 pad ++ (get_or pad 8 0 ∷ []) ≡ pad
last_byte pad n = sym (take-suc pad 8 0 (omega arith)) ∙ take_all 9 pad (omega arith)

crc-right-zero : (pad : List ℕ) → NineBytes pad → (crc_right pad ≡ true) ↔ (crc_bits 0 (bytes_bits pad) ≡ 0)
unfolding crc_of
crc-right-zero pad p =
    let same = holds-bytes (take 8 pad) (get_or pad 8 0) (p.bytes 8) in (
      λ (e : crc_right pad ≡ true). ap crc_of (sym (last_byte pad p.nine))
          ∙ same.0 (eqb-true (get_or pad 8 0) (crc_of (take 8 pad)) e),
      λ (e : crc_bits 0 (bytes_bits pad) ≡ 0). eq-eqb (get_or pad 8 0) (crc_of (take 8 pad))
          (same.1 (ap crc_of (last_byte pad p.nine) ∙ e)),
    )

-- past the test of the CRC no refusal is 5
later-not-five : (z k r c : Bool) (j : Judged) → j.refusal ≡ accepted
    → (if z then refused_pad all_zero else if not k then refused_pad wrong_kind else if not r then refused_pad out_of_range
    else if not c then refused_pad wrong_counts else j).refusal ≡ wrong_crc
    → ⊥
later-not-five true k r c j a e = omega arith
later-not-five false false r c j a e = omega arith
later-not-five false true false c j a e = omega arith
later-not-five false true true false j a e = omega arith
later-not-five false true true true j a e = omega arith

right-not-five : (family : ℕ) (pad : List ℕ) → crc_right pad ≡ true → (judged family pad).refusal ≡ wrong_crc → ⊥
unfolding judged
right-not-five family pad r e =
    let row = properties_of family in
    later-not-five (all_zeros pad) (kind_right row pad) (in_range (reading_in row pad)) (counts_believed row pad)
    (record { refusal = accepted; reading = reading_in row pad; fine = fine_in row pad })
    refl (rw r at e)

wrong-five : (family : ℕ) (pad : List ℕ) → crc_right pad ≡ false → (judged family pad).refusal ≡ wrong_crc
unfolding judged
wrong-five family pad r = rw r

pad-held : (family : ℕ) (pad : List ℕ) → NineBytes pad
    → ((judged family pad).refusal ≡ wrong_crc → ⊥) ↔ (crc_bits 0 (bytes_bits pad) ≡ 0)
pad-held family pad p =
    let same = crc-right-zero pad p in (
      λ (j : (judged family pad).refusal ≡ wrong_crc → ⊥). same.0 (by-test j (crc_right pad) refl),
      λ (z : crc_bits 0 (bytes_bits pad) ≡ 0). right-not-five family pad (same.1 z),
    )
  where
    by-test : ((judged family pad).refusal ≡ wrong_crc → ⊥) → (t : Bool) → crc_right pad ≡ t → crc_right pad ≡ true
    by-test j true r = r
    by-test j false r = absurd (j (wrong-five family pad r))

pub scratchpads-noticed : ScratchpadsNoticed
scratchpads-noticed family =
    notices (List ℕ) NineBytes bytes_bits (λ pad. (judged family pad).refusal) 72
    (λ pad p. bytes-length pad ∙ ap (λ (n : ℕ). 8 * n) p.nine)
    (omega arith)
    (λ a b p q. bytes_same a b (p.nine ∙ sym q.nine) p.bytes q.bytes)
    (pad-held family)

-- ## Codes

byte-bits : (x : ℕ) → bits_of 8 (x % 256) ≡ bits_of 8 x
byte-bits x = let e : x / 256 * 2 ^ 8 + x % 256 ≡ x = omega arith in
    sym (bits-block 8 (x / 256) (x % 256)) ∙ ap (bits_of 8) e

code-parts : (c : ℕ) → bits_of 56 c ++ bits_of 8 (crc_byte_of c) ≡ code_bits c
code-parts c = ap (λ (t : List Bool). bits_of 56 c ++ t) (byte-bits (c / 2 ^ 56)) ∙ sym (bits-append 56 8 c)

abbrev code_right : ℕ → Bool
code_right c = eqb (crc_byte_of c) (crc_bits 0 (bits_of 56 c))

code-right-zero : (c : ℕ) → (code_right c ≡ true) ↔ (crc_bits 0 (code_bits c) ≡ 0)
code-right-zero c =
    let small : crc_byte_of c < 256 = omega arith in
    let same = holds-bits (bits_of 56 c) (crc_byte_of c) small in
    let parts = code-parts c in (
      λ (e : code_right c ≡ true). ap (crc_bits 0) (sym parts)
          ∙ same.0 (eqb-true (crc_byte_of c) (crc_bits 0 (bits_of 56 c)) e),
      λ (e : crc_bits 0 (code_bits c) ≡ 0). eq-eqb (crc_byte_of c) (crc_bits 0 (bits_of 56 c))
          (same.1 (ap (crc_bits 0) parts ∙ e)),
    )

code-right-not-five : (c : ℕ) → code_right c ≡ true → code_refusal c ≡ wrong_crc → ⊥
unfolding code_refusal
code-right-not-five c r e = by-test (properties_of (family_of c)).known (rw r at e)
  where
    by-test : (k : Bool) → (if not k then wrong_kind else accepted) ≡ wrong_crc → ⊥
    by-test true e = omega arith
    by-test false e = omega arith

code-wrong-five : (c : ℕ) → code_right c ≡ false → code_refusal c ≡ wrong_crc
unfolding code_refusal
code-wrong-five c r = rw r

code-held : (c : ℕ) → (code_refusal c ≡ wrong_crc → ⊥) ↔ (crc_bits 0 (code_bits c) ≡ 0)
code-held c =
    let same = code-right-zero c in (
      λ (j : code_refusal c ≡ wrong_crc → ⊥). same.0 (by-test j (code_right c) refl),
      λ (z : crc_bits 0 (code_bits c) ≡ 0). code-right-not-five c (same.1 z),
    )
  where
    by-test : (code_refusal c ≡ wrong_crc → ⊥) → (t : Bool) → code_right c ≡ t → code_right c ≡ true
    by-test j true r = r
    by-test j false r = absurd (j (code-wrong-five c r))

pub codes-noticed : CodesNoticed
codes-noticed =
    notices ℕ _ code_bits code_refusal 64
    (λ c p. bits-length 64 c)
    (omega arith)
    (λ c d p q e. sym (number-bits 64 c (omega arith)) ∙ ap number_of e ∙ number-bits 64 d (omega arith))
    (λ c p. code-held c)
