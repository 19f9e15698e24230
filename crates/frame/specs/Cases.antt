-- Two lines of the scope's sample input and lines at the edges, read by the definitions.
use Rattle.std.specs.Prelude.{ℕ, ◌≡◌, refl, true, false, List, [], ◌∷◌, ◌++◌, replicate}
use Rattle.basic_laws.specs.Fold.{fold, all}
use Rattle.basic_laws.specs.Laid.{laid}
use Rattle.basic_laws.specs.Bits.{bits_of, bytes_bits}
use Rattle.refusals.specs.Refusals.{malformed, not_hex}
use Rattle.text.specs.Digits.{number_in, bytes_of}
use Rattle.frame.specs.Frames.{no_bits, blank_frame}
use Rattle.text.specs.Lines.{lines_of}
use Rattle.frame.specs.ReadLine.{carries, no_frame, read_digits, read_line}
use Rattle.frame.specs.Recording.{read_all}

-- 01000AEC03, 000000, an empty line, and 000000 without its feed
abbrev pub sample : List ℕ
sample =
    0x30 ∷ 0x31 ∷ 0x30 ∷ 0x30 ∷ 0x30 ∷ 0x41 ∷ 0x45 ∷ 0x43 ∷ 0x30 ∷ 0x33 ∷ 0x0A ∷ 0x30 ∷ 0x30 ∷ 0x30 ∷ 0x30 ∷ 0x30 ∷ 0x30
    ∷ 0x0A ∷ 0x0A ∷ 0x30 ∷ 0x30 ∷ 0x30 ∷ 0x30 ∷ 0x30 ∷ 0x30 ∷ []

pub sample-read : read_all sample
    ≡ carries record { presence = true; count = 10; bits = 0xEC ∷ 0x03 ∷ replicate 62 0 }
    ∷ carries (blank_frame false) ∷ no_frame malformed ∷ no_frame not_hex ∷ []
unfolding lines_of read_line read_digits number_in bytes_of fold all laid no_bits bits_of bytes_bits
sample-read = refl

-- 135 characters that are no digits are over-long first; 134 are not
pub long-read : read_all (replicate 135 0x7A ++ (0x0A ∷ []) ++ replicate 134 0x7A ++ (0x0A ∷ []))
    ≡ no_frame malformed ∷ no_frame not_hex ∷ []
unfolding lines_of read_line all
long-read = refl
