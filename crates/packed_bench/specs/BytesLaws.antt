-- A number comes back from its bytes, and eight bytes are a list of eight.
--     code-back, eight-whole
--     code_below        eight bytes make a number of 64 bits
--     bytes-same        the bytes that std takes from a number, from byte i on, are those of the number above them
--     code-same         the number that std makes of eight bytes is that of the code
use Rattle.std.specs.Prelude.{ℕ, zero, suc, ◌*◌, ◌/◌, ◌^◌, ◌<◌, ◌≡◌, refl, List, [], ◌∷◌, length}
use Rattle.std.proofs.Common.{arith, pow-suc}
use Rattle.std.proofs.Math.Nat.{div-div-eq-div-mul, div-one}
use Rattle.std.specs.Int as std
use Rattle.std.proofs.Common.{ap, ◌∙◌, w64}
use Rattle.packed_bench.specs.Bytes.{eight_at, bytes_low_first, code_from_bytes}

pub code-back : (n x : ℕ) → x < 256 ^ n → code_from_bytes (bytes_low_first n x) ≡ x
unfolding bytes_low_first code_from_bytes
code-back zero x h = omega arith
code-back (suc n) x h =
    let k : x / 256 < 256 ^ n = omega (arith, pow-suc 256 n) in
    let e = code-back n (x / 256) k in
    omega arith

pub eight-whole : (l : List ℕ) → length l ≡ 8 → eight_at l 0 ≡ l
eight-whole [] h = absurd (omega arith)
eight-whole (a ∷ []) h = absurd (omega arith)
eight-whole (a ∷ b ∷ []) h = absurd (omega arith)
eight-whole (a ∷ b ∷ c ∷ []) h = absurd (omega arith)
eight-whole (a ∷ b ∷ c ∷ d ∷ []) h = absurd (omega arith)
eight-whole (a ∷ b ∷ c ∷ d ∷ e ∷ []) h = absurd (omega arith)
eight-whole (a ∷ b ∷ c ∷ d ∷ e ∷ f ∷ []) h = absurd (omega arith)
eight-whole (a ∷ b ∷ c ∷ d ∷ e ∷ f ∷ g ∷ []) h = absurd (omega arith)
eight-whole (a ∷ b ∷ c ∷ d ∷ e ∷ f ∷ g ∷ i ∷ []) h = refl
eight-whole (a ∷ b ∷ c ∷ d ∷ e ∷ f ∷ g ∷ i ∷ j ∷ l) h = absurd (omega arith)

pub code_below : (a b c d e f g h : ℕ) → a < 256 → b < 256 → c < 256 → d < 256 → e < 256 → f < 256 → g < 256 → h < 256
    → code_from_bytes (a ∷ b ∷ c ∷ d ∷ e ∷ f ∷ g ∷ h ∷ []) < 256 ^ 8
unfolding code_from_bytes
code_below a b c d e f g h ha hb hc hd he hf hg hh = omega arith

pub bytes-same : (k i n x : ℕ) → x ≡ n / 256 ^ i → std.bytes_low_first i k n ≡ bytes_low_first k x
unfolding bytes_low_first
bytes-same zero i n x e = refl
bytes-same (suc k) zero n x e = rw (e ∙ div-one n, bytes-same k 1 n (n / 256) refl)
bytes-same (suc k) (suc i) n x e =
    let more : 256 ^ suc i * 256 ≡ 256 ^ suc (suc i) = omega (arith, pow-suc 256 (suc i)) in
    let next : x / 256 ≡ n / 256 ^ suc (suc i) = rw e (div-div-eq-div-mul n (256 ^ suc i) 256 ∙ ap (λ m. n / m) more) in
    rw (e, bytes-same k (suc (suc i)) n (n / 256 ^ suc i / 256) (rw e at next))

pub code-same : (b : List ℕ) → std.from_le_bytes w64 b ≡ code_from_bytes (eight_at b 0)
unfolding code_from_bytes
code-same b = omega arith
