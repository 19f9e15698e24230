-- The fields of a call. Each reader answers whether the word is such a field, and its value, which counts only where it
-- is.
--     code_in w               sixteen hexadecimal digits
--     byte_in w               two hexadecimal digits
--     bit_in w                0 or 1
--     places_in w             the places of a list that a search is lent, at most 32
--     bytes_in w              the bytes of a recording that a search is lent, at most 1,824
--     pins_in w               the address pins of a device, up to 255 in one to three digits
--     count_in w              a count of sixteenths from -32768 to 32767, with a minus in front where it is negative; -0
--                            is taken
--     three_bytes_in h l c     three bytes: high limit, low limit, configuration
--     power_in w              line or external
-- Decimal numbers have one to five digits; zeros in front are taken.
use Rattle.std.specs.Prelude.{ℕ, ◌&&◌, ◌||◌, List, pos, neg_ℤ, drop}
use Rattle.std.specs.Prelude.{if◌then◌else◌}
use Rattle.text.specs.Ascii.{ascii}
use Rattle.text.specs.Decimal.{is_negative}
use Rattle.text.specs.Numbers.{fixed_read, decimal_read}
use Rattle.text.specs.declared.NumberRead.{NumberRead}
use Rattle.device.specs.declared.Power.TheVariants.{Line, External}
use Rattle.lines.specs.declared.fields.CountRead.{CountRead}
use Rattle.lines.specs.declared.fields.PowerRead.{PowerRead}
use Rattle.lines.specs.declared.fields.SettingsRead.{SettingsRead}
use Rattle.basic_laws.specs.Same.{same}

-- the most places and the most bytes that a call lends; also what a search alone is lent
abbrev pub most_places : ℕ
most_places = 32

abbrev pub most_bytes : ℕ
most_bytes = 1824

-- the most digits of a decimal number
abbrev pub most_digits : ℕ
most_digits = 5

abbrev pub code_in : List ℕ → NumberRead
code_in w = fixed_read 16 16 w

abbrev pub byte_in : List ℕ → NumberRead
byte_in w = fixed_read 16 2 w

abbrev pub bit_in : List ℕ → NumberRead
bit_in w = fixed_read 2 1 w

abbrev pub places_in : List ℕ → NumberRead
places_in w = decimal_read most_digits most_places w

abbrev pub bytes_in : List ℕ → NumberRead
bytes_in w = decimal_read most_digits most_bytes w

abbrev pub pins_in : List ℕ → NumberRead
pins_in w = decimal_read 3 255 w

-- the count of a number without a minus
abbrev pub positive_count : NumberRead → CountRead
positive_count n = record { valid = n.valid; count = record { 0 = pos n.number } }

-- the count of a number behind a minus
abbrev pub negative_count : NumberRead → CountRead
negative_count n = record { valid = n.valid; count = record { 0 = neg_ℤ (pos n.number) } }

unfoldable pub count_in : List ℕ → CountRead
count_in w = if is_negative w then negative_count (decimal_read most_digits 32768 (drop 1 w))
    else positive_count (decimal_read most_digits 32767 w)

abbrev pub settings : NumberRead → NumberRead → NumberRead → SettingsRead
settings h l c = record {
  valid = h.valid && l.valid && c.valid;
  settings = record { high = h.number; low = l.number; configuration = c.number };
}

unfoldable pub three_bytes_in : List ℕ → List ℕ → List ℕ → SettingsRead
three_bytes_in h l c = settings (byte_in h) (byte_in l) (byte_in c)

unfoldable pub power_in : List ℕ → PowerRead
power_in w = record {
  valid = same w (ascii "line") || same w (ascii "external");
  power = if same w (ascii "line") then Line else External;
}
