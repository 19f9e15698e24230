-- What the packed console says that the bench's console does not.
--     refused_on_table n q                  the answer to the request q of the bench, in its own form, where the bytes
--                                         hold no bench: the refusal n and zeros
--     entry_line e                         an entry of the table, two hexadecimal digits a byte
--     table_text n t                       n entries of t, a line for each
--     dump_text t                          the 32 entries of a table, whatever its bytes; refusal 1 where there are
--                                         fewer
--     dump_answer t out, dump_leaves t out  what saying it comes to: how many bytes of text there are, at the front of
--                                         what is lent; refusal 1 without its room
--     poke_refusal t place                 1 for a place behind what is lent
use Rattle.std.specs.Prelude.{ℕ, zero, suc, false, List, [], ◌∷◌, ◌++◌, ltb, pos, length, take, drop, replicate}
use Rattle.std.specs.Prelude.{if◌then◌else◌}
use Rattle.basic_laws.specs.Laid.{laid}
use Rattle.refusals.specs.Refusals.{accepted, no_room}
use Rattle.text.specs.Digits.{hex_of}
use Rattle.text.specs.Lines.{line_feed}
use Rattle.temperature.specs.declared.Reading.TheVariants.{InSixteenths}
use Rattle.scratchpad.specs.Fine.{no_fine}
use Rattle.bench_requests.specs.declared.Request.{Request}
use Rattle.bench_requests.specs.declared.Request.TheVariants.{Bad, Add, Reset, Slot, Converted, Copied, Cycle, Search}
use Rattle.bench_requests.specs.declared.Request.TheVariants.{Alarm, Read, Write, Show, Why, Pins}
use Rattle.bench_answers.specs.Answers.{bad_line, refusal_line, bit_line, search_line, show_line}
use Rattle.bench_answers.specs.AccessLine.{access_line}
use Rattle.why.specs.Why.{silent}
use Rattle.why.specs.declared.rules.Reason.TheVariants.{NotOnBench}
use Rattle.bench_answers.specs.WhyLine.{why_line}
use Rattle.master_rules.specs.declared.SharedPin.TheVariants.{NoPin}
use Rattle.bench_answers.specs.PinLines.{pins_line}
use Rattle.text.specs.declared.laying.Written.{Written}
use Rattle.packed_bench.specs.Table.{table_bytes}
use Rattle.packed_bench.specs.Through.{unseen}

unfoldable pub refused_on_table : ℕ → Request → List ℕ
refused_on_table n Bad = bad_line
refused_on_table n (Add new) = refusal_line n
refused_on_table n Reset = bit_line n false
refused_on_table n (Slot bit) = bit_line n false
refused_on_table n (Converted code count) = refusal_line n
refused_on_table n (Copied code) = refusal_line n
refused_on_table n (Cycle code) = refusal_line n
refused_on_table n (Search places bytes) = search_line n 0 0 0 0
refused_on_table n (Alarm places bytes) = search_line n 0 0 0 0
refused_on_table n (Read code) = access_line n (replicate 9 0) (InSixteenths (record { 0 = pos 0 })) no_fine
refused_on_table n (Write code settings) = access_line n (replicate 9 0) (InSixteenths (record { 0 = pos 0 })) no_fine
refused_on_table n (Show code) = show_line (unseen n)
refused_on_table n (Why code) = why_line (silent n NotOnBench)
refused_on_table n (Pins places) = pins_line n 0 NoPin

abbrev pub entry_line : List ℕ → List ℕ
entry_line e = hex_of e ++ (line_feed ∷ [])

unfoldable pub table_text : ℕ → List ℕ → List ℕ
table_text zero t = []
table_text (suc n) t = entry_line (take 48 t) ++ table_text n (drop 48 t)

-- 32 lines of 96 digits and a feed
abbrev pub text_room : ℕ
text_room = 3104

-- the entries, or 1 where less than a table is lent
abbrev pub dump_text : List ℕ → List ℕ
dump_text t = if ltb (length t) table_bytes then refusal_line no_room else table_text 32 t

unfoldable pub dump_answer : List ℕ → List ℕ → Written
dump_answer t out =
    if ltb (length out) text_room then record { refusal = no_room; next = 0 }
    else record { refusal = accepted; next = length (dump_text t) }

unfoldable pub dump_leaves : List ℕ → List ℕ → List ℕ
dump_leaves t out = if ltb (length out) text_room then out else laid out 0 (dump_text t)

abbrev pub poke_refusal : List ℕ → ℕ → ℕ
poke_refusal t place = if ltb place (length t) then accepted else no_room
