-- The nine bytes that a device sends, by their places.
use Rattle.std.specs.Prelude.{ℕ, ◌<◌, ◌≡◌, List, [], length, get_or}
use Rattle.std.proofs.Common.{◌∙◌, arith, length-append}
use Rattle.std.proofs.Math.ListN.{get_or-append}
use Rattle.std.proofs.Math.Seq.{get_or-append_seam}
use Rattle.crc.specs.Crc.{crc_of}
use Rattle.device.specs.Offer.{nine_bytes}

pub nine-length : (pad : List ℕ) → length pad ≡ 8 → length (nine_bytes pad) ≡ 9
nine-length pad long = length-append pad _ ∙ omega arith

-- the nine by their places
pub nine-byte : (pad : List ℕ) (k : ℕ) → length pad ≡ 8 → k < 8 → get_or (nine_bytes pad) k 0 ≡ get_or pad k 0
nine-byte pad k long h = let b : k < length pad = omega arith in get_or-append pad _ 0 k b

pub nine-crc : (pad : List ℕ) (k : ℕ) → length pad ≡ 8 → k ≡ 8 → get_or (nine_bytes pad) k 0 ≡ crc_of pad
nine-crc pad k long h = let e : k ≡ length pad = omega arith in rw e (get_or-append_seam pad (crc_of pad) [] 0)
