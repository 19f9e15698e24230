-- Some captures and what becomes of them, as one statement: none at all, a reset that nobody answers, one that is
-- answered with a slot of 1 and one of 0 behind it, and a time that comes twice.
use Rattle.std.specs.Prelude.{ℕ, ◌≡◌, refl, List, [], ◌∷◌, ◌++◌}
use Rattle.basic_laws.specs.Fold.{fold, all}
use Rattle.refusals.specs.Refusals.{accepted, not_later}
use Rattle.text.specs.Ascii.{ascii}
use Rattle.text.specs.Digits.{number_in, digits, hex_of}
use Rattle.text.specs.Lines.{line_feed, lines_of}
use Rattle.basic_laws.specs.Bits.{number_of, bits_of, bytes_bits}
use Rattle.frame.specs.Frames.{no_bits, packed}
use Rattle.frame.specs.Writing.{characters_of}
use Rattle.frame.specs.Recording.{write_all}
use Rattle.capture_laws.specs.Capture.{course_of, capture, course_ended}

-- a line with its feed
abbrev fed : List ℕ → List ℕ
fed cs = cs ++ (line_feed ∷ [])

-- a reset of 480 microseconds
abbrev reset : List ℕ
reset = fed (ascii "00000000") ++ fed (ascii "000001E0")

-- presence after 32, a slot of 6 and one of 60
abbrev answered : List ℕ
answered = fed (ascii "00000200") ++ fed (ascii "00000260") ++ fed (ascii "00000280") ++ fed (ascii "00000286")
    ++ fed (ascii "00000290") ++ fed (ascii "000002CC")

-- what an ended capture prints, and its refusal
abbrev Prints : List ℕ → List ℕ → ℕ → Type 0
Prints s lines n = (write_all (course_ended (capture s)).frames ≡ lines) × ((course_ended (capture s)).refusal ≡ n)

pub record CaptureCases : Type 0 where
  pub nothing : Prints [] [] accepted
  pub silence : Prints reset (fed (ascii "000000")) accepted
  pub two-slots : Prints (reset ++ answered) (fed (ascii "01000201")) accepted
  pub same-time : Prints (reset ++ fed (ascii "000001E0")) [] not_later

pub capture-cases-hold : CaptureCases
unfolding fold all number_in digits hex_of lines_of number_of bits_of bytes_bits no_bits packed characters_of write_all course_of
capture-cases-hold = record {
  nothing = (refl, refl);
  silence = (refl, refl);
  two-slots = (refl, refl);
  same-time = (refl, refl);
}
