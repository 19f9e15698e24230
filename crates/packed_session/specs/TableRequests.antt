-- The lines that ask for bytes of the table (docs/TABLE.md). Whatever is neither, or has a field that is none, is
-- `Other`: a line of the bench, or of nothing.
--     place_in w              a place of the table, 0 to 1535 in one to four digits
--     of_table ws             POKE PLACE BYTE; TABLE alone
--     table_request_of s       what a line, without its feed, asks for; a line over 80 characters is `Other`
use Rattle.std.specs.Prelude.{ℕ, ◌&&◌, List, eqb, leb, length}
use Rattle.std.specs.Prelude.{if◌then◌else◌}
use Rattle.basic_laws.specs.Same.{same}
use Rattle.text.specs.Ascii.{ascii}
use Rattle.text.specs.Numbers.{decimal_read}
use Rattle.text.specs.declared.NumberRead.{NumberRead}
use Rattle.lines.specs.Fields.{byte_in}
use Rattle.lines.specs.Words.{word_of, words_of}
use Rattle.bench_requests.specs.Requests.{longest_request}
use Rattle.packed_session.specs.declared.table_requests.TableRequest.{TableRequest}
use Rattle.packed_session.specs.declared.table_requests.TableRequest.TheVariants.{Poke, Dump, Other}

abbrev pub place_in : List ℕ → NumberRead
place_in w = decimal_read 4 1535 w

abbrev pub poke_asked : NumberRead → NumberRead → TableRequest
poke_asked place byte = if place.valid && byte.valid then Poke place.number byte.number else Other

unfoldable pub of_table : List (List ℕ) → TableRequest
of_table ws =
    if eqb (length ws) 3 then if same (word_of ws 0) (ascii "poke")
    then poke_asked (place_in (word_of ws 1)) (byte_in (word_of ws 2)) else Other
    else if eqb (length ws) 1 then if same (word_of ws 0) (ascii "table") then Dump else Other
    else Other

unfoldable pub table_request_of : List ℕ → TableRequest
table_request_of s = if leb (length s) longest_request then of_table (words_of s) else Other
