-- The judgement of nine scratchpad bytes for a family: the refusal, in the order of the scope's table, or the reading
-- in its unit.
--     crc_right pad              whether the ninth byte is the CRC of the eight before it
--     all_zeros pad              whether every byte is 0, as on a wire that is stuck low; their CRC is right
--     kind_right row pad         whether the row is of a family of ours and the configuration, where it has one, is in
--                               stored form
--     counts_believed row pad    whether its count bytes can be believed, where the family has them
--     refused_pad n              a refusal, with a zero reading and no fine one
--     judged family pad         5, 6, 7, 11 or 20, in that order, with no reading; or 0, the reading and the fine one
-- Other bytes are not judged: a family without a configuration may have anything in byte 4, and a limit may be any
-- byte.
use Rattle.std.specs.Prelude.{ℕ, Bool, not, ◌&&◌, List, eqb, pos, get_or, take}
use Rattle.std.specs.Prelude.{if◌then◌else◌}
use Rattle.basic_laws.specs.Fold.{all}
use Rattle.refusals.specs.Refusals.{accepted, wrong_crc, all_zero, wrong_kind, out_of_range, wrong_counts}
use Rattle.family.specs.Configuration.{in_form}
use Rattle.family.specs.Families.{properties_of}
use Rattle.family.specs.Layout.{configuration_place, count_remain_place, count_per_degree_place, crc_place}
use Rattle.family.specs.declared.Properties.{Properties}
use Rattle.crc.specs.Crc.{crc_of}
use Rattle.temperature.specs.Range.{in_range}
use Rattle.temperature.specs.declared.Reading.TheVariants.{InSixteenths}
use Rattle.scratchpad.specs.Fine.{counts_right, no_fine}
use Rattle.scratchpad.specs.declared.Judged.{Judged}
use Rattle.scratchpad.specs.Stored.{reading_in, fine_in}

abbrev pub crc_right : List ℕ → Bool
crc_right pad = eqb (get_or pad crc_place 0) (crc_of (take crc_place pad))

abbrev pub all_zeros : List ℕ → Bool
all_zeros pad = all (λ b. eqb b 0) pad

abbrev pub kind_right : Properties → List ℕ → Bool
kind_right row pad = row.known && in_form row (get_or pad configuration_place 0)

abbrev pub counts_believed : Properties → List ℕ → Bool
counts_believed row pad = counts_right row.unit (get_or pad count_remain_place 0) (get_or pad count_per_degree_place 0)

abbrev pub refused_pad : ℕ → Judged
refused_pad n = record { refusal = n; reading = InSixteenths (record { 0 = pos 0 }); fine = no_fine }

unfoldable pub judged : ℕ → List ℕ → Judged
judged family pad =
    let row = properties_of family in
    if not (crc_right pad) then refused_pad wrong_crc
    else if all_zeros pad then refused_pad all_zero
    else if not (kind_right row pad) then refused_pad wrong_kind
    else if not (in_range (reading_in row pad)) then refused_pad out_of_range
    else if not (counts_believed row pad) then refused_pad wrong_counts
    else record { refusal = accepted; reading = reading_in row pad; fine = fine_in row pad }
