-- A line of a capture, character by character: just what tells, at its feed, whether it is eight digits, and of which
-- number.
--     time_digits             the digits of a time
--     no_line                 a line without a character
--     counted n              one character more; nine are already too many, and more are not counted
--     longer_partial l c      the line with one character more
--     gathered_time cs        what is known of a line of the characters cs
use Rattle.std.specs.Prelude.{ℕ, ◌+◌, ◌%◌, true, ◌&&◌, List, ltb}
use Rattle.std.specs.Prelude.{if◌then◌else◌}
use Rattle.basic_laws.specs.Fold.{fold}
use Rattle.text.specs.Digits.{is_digit, then_digit}
use Rattle.captures.specs.declared.edge_lines.Partial.{Partial}

abbrev pub time_digits : ℕ
time_digits = 8

-- the numbers of eight digits
abbrev pub time_bound : ℕ
time_bound = 0x100000000

abbrev pub no_line : Partial
no_line = record { count = 0; spelt = true; number = 0 }

abbrev pub counted : ℕ → ℕ
counted n = if ltb n 9 then n + 1 else n

abbrev pub longer_partial : Partial → ℕ → Partial
longer_partial l c = record {
  count = counted l.count;
  spelt = l.spelt && is_digit 16 c;
  number = then_digit 16 l.number c % time_bound;
}

abbrev pub gathered_time : List ℕ → Partial
gathered_time cs = fold longer_partial no_line cs
