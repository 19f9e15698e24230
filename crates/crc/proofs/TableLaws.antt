-- A byte by the table: register and byte count only by their exclusive or, from which eight zero bits follow. So a
-- table needs one entry for each value that the exclusive or can have.
--     entry_of           each entry of the table
--     crc-by-table       the register after a byte is one entry
use Rattle.std.specs.Prelude.{ℕ, zero, suc, ◌+◌, ◌<◌, ◌≡◌, get_or}
use Rattle.std.proofs.Common.{sym, ap, ◌∙◌, add-zero, zero-add, add-suc, suc-add, le_of_suc-le-suc, not-suc-le-zero}
use Rattle.std.specs.Int.Bits.{bit_xor}
use Rattle.std.proofs.lemmas.Nat.{xor_lt}
use Rattle.basic_laws.specs.Bits.{bits_of}
use Rattle.crc.specs.Crc.{crc_bits}
use Rattle.crc.proofs.SumLaws.{crc-merge}
use Rattle.crc.specs.Table.{registers}

entry-from : (n i k : ℕ) → k < n → get_or (registers i n) k 0 ≡ crc_bits (i + k) (bits_of 8 0)
unfolding registers
entry-from zero i k h = absurd (not-suc-le-zero h)
entry-from (suc n) i zero h = ap (λ (r : ℕ). crc_bits r (bits_of 8 0)) (sym (add-zero i))
entry-from (suc n) i (suc k) h =
    entry-from n (suc i) k (le_of_suc-le-suc h)
    ∙ ap (λ (r : ℕ). crc_bits r (bits_of 8 0)) (suc-add i k ∙ sym (add-suc i k))

pub entry_of : (k : ℕ) → k < 256 → get_or (registers 0 256) k 0 ≡ crc_bits k (bits_of 8 0)
entry_of k h = entry-from 256 0 k h ∙ ap (λ (r : ℕ). crc_bits r (bits_of 8 0)) (zero-add k)

pub crc-by-table : (r b : ℕ) → r < 256 → b < 256 → get_or (registers 0 256) (bit_xor r b) 0 ≡ crc_bits r (bits_of 8 b)
crc-by-table r b h k = entry_of (bit_xor r b) (xor_lt 8 r b h k) ∙ sym (crc-merge 8 r b k)
