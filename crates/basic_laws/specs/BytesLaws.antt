-- A list of bytes stays one when a byte is stored, and so do its parts and two of them joined. Bytes are the same where
-- their bits are (`bytes_same`).
use Rattle.std.specs.Prelude.{ℕ, zero, suc, ◌+◌, ◌<◌, ◌≡◌, refl, List, [], ◌∷◌, ◌++◌, length, set, take, drop}
use Rattle.std.proofs.Common.{sym, ap, ◌∙◌, arith, lit<, get_or-drop, take_at, drop_at}
use Rattle.basic_laws.specs.Bits.{bits_of, number_of, bytes_bits}
use Rattle.basic_laws.specs.BitsLaws.{bits-length, number-bits}
use Rattle.basic_laws.specs.Bytes.{Bytes}

pub bytes-set : (l : List ℕ) (i v : ℕ) → Bytes l → v < 256 → Bytes (set l i v)
bytes-set [] i v h b k = h k
bytes-set (x ∷ l) zero v h b zero = b
bytes-set (x ∷ l) zero v h b (suc k) = h (suc k)
bytes-set (x ∷ l) (suc i) v h b zero = h 0
bytes-set (x ∷ l) (suc i) v h b (suc k) = bytes-set l i v (λ m. h (suc m)) b k

pub bytes_take : (n : ℕ) (l : List ℕ) → Bytes l → Bytes (take n l)
bytes_take zero l h k = lit< tt
bytes_take (suc n) [] h k = h k
bytes_take (suc n) (x ∷ l) h zero = h 0
bytes_take (suc n) (x ∷ l) h (suc k) = bytes_take n l (λ m. h (suc m)) k

pub bytes_drop : (n : ℕ) (l : List ℕ) → Bytes l → Bytes (drop n l)
bytes_drop n l h k = rw (get_or-drop n l k 0) (h (n + k))

pub bytes-append-bytes : (l m : List ℕ) → Bytes l → Bytes m → Bytes (l ++ m)
bytes-append-bytes [] m h g k = g k
bytes-append-bytes (x ∷ l) m h g zero = h 0
bytes-append-bytes (x ∷ l) m h g (suc k) = bytes-append-bytes l m (λ i. h (suc i)) g k

pub bytes_same : (a b : List ℕ) → length a ≡ length b → Bytes a → Bytes b → bytes_bits a ≡ bytes_bits b → a ≡ b
unfolding bytes_bits
bytes_same [] [] n h k e = refl
bytes_same [] (y ∷ b) n h k e = absurd (omega arith)
bytes_same (x ∷ a) [] n h k e = absurd (omega arith)
bytes_same (x ∷ a) (y ∷ b) n h k e =
    let first : bits_of 8 x ≡ bits_of 8 y
    = sym (take_at (bits_of 8 x) (bytes_bits a) 8 (bits-length 8 x)) ∙ ap (take 8) e
    ∙ take_at (bits_of 8 y) (bytes_bits b) 8 (bits-length 8 y) in
    let rest : bytes_bits a ≡ bytes_bits b
    = sym (drop_at (bits_of 8 x) (bytes_bits a) 8 (bits-length 8 x)) ∙ ap (drop 8) e
    ∙ drop_at (bits_of 8 y) (bytes_bits b) 8 (bits-length 8 y) in
    let one : x ≡ y = sym (number-bits 8 x (h 0)) ∙ ap number_of first ∙ number-bits 8 y (k 0) in
    let more : a ≡ b = bytes_same a b (omega arith) (λ i. h (suc i)) (λ i. k (suc i)) rest in
    rw (one, more)
