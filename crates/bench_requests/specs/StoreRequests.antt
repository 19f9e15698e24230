-- What a line asks of the settings store: the table of its calls, by name, number of fields and request. Whatever
-- matches no row, or has a field that is none, is `Other`.
--     version_in w            a version: a decimal number up to 65,535, of one to five digits
--     alter_in w              what a change makes of one setting: a byte, or a minus to leave it
--     asks_store name n ws    whether words are `settings`, this name and its fields, n in all
--     of_store ws             what the words of a line ask for
--     store_request_of s       what a line, without its feed, asks for; one that is over-long asks for nothing that the
--                            store knows
use Rattle.std.specs.Prelude.{ℕ, Bool, true, ◌&&◌, List, eqb, leb, length}
use Rattle.std.specs.Prelude.{if◌then◌else◌}
use Rattle.basic_laws.specs.Same.{same}
use Rattle.text.specs.Ascii.{ascii}
use Rattle.text.specs.Numbers.{decimal_read}
use Rattle.text.specs.declared.NumberRead.{NumberRead}
use Rattle.lines.specs.Words.{word_of, words_of}
use Rattle.lines.specs.Fields.{code_in, byte_in, three_bytes_in}
use Rattle.lines.specs.declared.fields.SettingsRead.{SettingsRead}
use Rattle.bench_requests.specs.Requests.{longest_request}
use Rattle.settings.specs.declared.Alter.TheVariants.{Leave, To}
use Rattle.bench_requests.specs.declared.settings_requests.AlterRead.{AlterRead}
use Rattle.bench_requests.specs.declared.settings_requests.AlterationsRead.{AlterationsRead}
use Rattle.bench_requests.specs.declared.settings_requests.StoreRequest.{StoreRequest}
use Rattle.bench_requests.specs.declared.settings_requests.StoreRequest.TheVariants.{Other, Add, Remove, Read}
use Rattle.bench_requests.specs.declared.settings_requests.StoreRequest.TheVariants.{Change, Write}

-- ## Fields

abbrev pub version_in : List ℕ → NumberRead
version_in w = decimal_read 5 65535 w

abbrev pub altering : NumberRead → AlterRead
altering byte = record { valid = byte.valid; alter = To byte.number }

unfoldable pub alter_in : List ℕ → AlterRead
alter_in w = if same w (ascii "-") then record { valid = true; alter = Leave } else altering (byte_in w)

unfoldable pub alterations_in : List ℕ → List ℕ → List ℕ → AlterationsRead
alterations_in h l c = record {
  valid = (alter_in h).valid && (alter_in l).valid && (alter_in c).valid;
  alterations = record { high = (alter_in h).alter; low = (alter_in l).alter; configuration = (alter_in c).alter };
}

-- ## The requests, by what was read of their fields

abbrev pub store_at_code : (ℕ → StoreRequest) → NumberRead → StoreRequest
store_at_code request code = if code.valid then request code.number else Other

abbrev pub store_add_asked : NumberRead → SettingsRead → StoreRequest
store_add_asked code s = if code.valid && s.valid then Add code.number s.settings else Other

abbrev pub store_change_asked : NumberRead → NumberRead → AlterationsRead → StoreRequest
store_change_asked code version a = if code.valid && version.valid && a.valid
    then Change code.number version.number a.alterations else Other

-- ## The table

abbrev pub asks_store : List ℕ → ℕ → List (List ℕ) → Bool
asks_store name n ws = same (word_of ws 0) (ascii "settings") && same (word_of ws 1) name && eqb (length ws) n

-- SETTINGS and ADD CODE HIGH LOW CONFIGURATION; REMOVE, READ, WRITE CODE; CHANGE CODE VERSION HIGH LOW CONFIGURATION
unfoldable pub of_store : List (List ℕ) → StoreRequest
of_store ws =
    let field = word_of ws in
    if asks_store (ascii "add") 6 ws then store_add_asked (code_in (field 2)) (three_bytes_in (field 3) (field 4) (field 5))
    else if asks_store (ascii "remove") 3 ws then store_at_code Remove (code_in (field 2))
    else if asks_store (ascii "read") 3 ws then store_at_code Read (code_in (field 2))
    else if asks_store (ascii "change") 7 ws then store_change_asked (code_in (field 2)) (version_in (field 3))
    (alterations_in (field 4) (field 5) (field 6))
    else if asks_store (ascii "write") 3 ws then store_at_code Write (code_in (field 2))
    else Other

unfoldable pub store_request_of : List ℕ → StoreRequest
store_request_of s = if leb (length s) longest_request then of_store (words_of s) else Other
