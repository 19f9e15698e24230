-- What a row of the table tells of the words, its name and how many fields; then the table row by row: where a row
-- asks, no other does.
use Rattle.std.specs.Prelude.{ℕ, ◌-◌, ◌≡◌, true, false, List, eqb, length}
use Rattle.std.proofs.Common.{eqb-true}
use Rattle.basic_laws.specs.ChoiceLaws.{and_left, and_right}
use Rattle.text.specs.Ascii.{ascii}
use Rattle.bench_requests.specs.declared.Request.TheVariants.{Bad, Reset, Copied, Cycle, Search, Alarm, Read}
use Rattle.bench_requests.specs.declared.Request.TheVariants.{Show, Why, Pins}
use Rattle.lines.specs.Words.{word_of}
use Rattle.basic_laws.specs.Same.{same}
use Rattle.basic_laws.specs.SameLaws.{same-equal}
use Rattle.lines.specs.Fields.{code_in, bit_in, places_in, bytes_in, pins_in, count_in, three_bytes_in, power_in, most_places}
use Rattle.lines.specs.Fields.{most_bytes}
use Rattle.bench_requests.specs.Requests.{asks, slot_asked, converted_asked, at_code, lent, pins_asked, write_asked}
use Rattle.bench_requests.specs.Requests.{add_asked, pinned_asked, of_master, of_bench}

module _ (name : List ℕ) (n : ℕ) (ws : List (List ℕ)) (e : asks name n ws ≡ true) where
  pub asks-name : word_of ws 0 ≡ name
  asks-name = same-equal (word_of ws 0) name (and_left (same (word_of ws 0) name) (eqb (length ws - 1) n) e)

  pub asks-fields : length ws - 1 ≡ n
  asks-fields = eqb-true (length ws - 1) n (and_right (same (word_of ws 0) name) (eqb (length ws - 1) n) e)

-- ## The calls on the bench

module _ (ws : List (List ℕ)) where
  pub row-add : asks (ascii "add") 5 ws ≡ true
      → add_asked (code_in (word_of ws 1)) (power_in (word_of ws 2)) (three_bytes_in (word_of ws 3) (word_of ws 4) (word_of ws 5))
      0 ≡ of_bench ws
  unfolding of_bench same
  row-add e = rw (asks-name (ascii "add") 5 ws e, asks-fields (ascii "add") 5 ws e)

  pub row-pinned : asks (ascii "add") 6 ws ≡ true
      → pinned_asked (code_in (word_of ws 1)) (power_in (word_of ws 2))
      (three_bytes_in (word_of ws 3) (word_of ws 4) (word_of ws 5)) (pins_in (word_of ws 6)) ≡ of_bench ws
  unfolding of_bench same
  row-pinned e = rw (asks-name (ascii "add") 6 ws e, asks-fields (ascii "add") 6 ws e)

  pub row-reset : asks (ascii "reset") 0 ws ≡ true → Reset ≡ of_bench ws
  unfolding of_bench same
  row-reset e = rw (asks-name (ascii "reset") 0 ws e, asks-fields (ascii "reset") 0 ws e)

  pub row-slot : asks (ascii "slot") 1 ws ≡ true → slot_asked (bit_in (word_of ws 1)) ≡ of_bench ws
  unfolding of_bench same
  row-slot e = rw (asks-name (ascii "slot") 1 ws e, asks-fields (ascii "slot") 1 ws e)

  pub row-converted : asks (ascii "converted") 2 ws ≡ true
      → converted_asked (code_in (word_of ws 1)) (count_in (word_of ws 2)) ≡ of_bench ws
  unfolding of_bench same
  row-converted e = rw (asks-name (ascii "converted") 2 ws e, asks-fields (ascii "converted") 2 ws e)

  pub row_copied : asks (ascii "copied") 1 ws ≡ true → at_code Copied (code_in (word_of ws 1)) ≡ of_bench ws
  unfolding of_bench same
  row_copied e = rw (asks-name (ascii "copied") 1 ws e, asks-fields (ascii "copied") 1 ws e)

  pub row-cycle : asks (ascii "cycle") 1 ws ≡ true → at_code Cycle (code_in (word_of ws 1)) ≡ of_bench ws
  unfolding of_bench same
  row-cycle e = rw (asks-name (ascii "cycle") 1 ws e, asks-fields (ascii "cycle") 1 ws e)

  pub row-show : asks (ascii "show") 1 ws ≡ true → at_code Show (code_in (word_of ws 1)) ≡ of_bench ws
  unfolding of_bench same
  row-show e = rw (asks-name (ascii "show") 1 ws e, asks-fields (ascii "show") 1 ws e)

  pub row-why : asks (ascii "why") 1 ws ≡ true → at_code Why (code_in (word_of ws 1)) ≡ of_bench ws
  unfolding of_bench same
  row-why e = rw (asks-name (ascii "why") 1 ws e, asks-fields (ascii "why") 1 ws e)

  pub no-bench-row : asks (ascii "add") 5 ws ≡ false → asks (ascii "add") 6 ws ≡ false
      → asks (ascii "reset") 0 ws ≡ false → asks (ascii "slot") 1 ws ≡ false → asks (ascii "converted") 2 ws ≡ false
      → asks (ascii "copied") 1 ws ≡ false → asks (ascii "cycle") 1 ws ≡ false → asks (ascii "show") 1 ws ≡ false
      → asks (ascii "why") 1 ws ≡ false
      → of_master ws ≡ of_bench ws
  unfolding of_bench
  no-bench-row a p b c d e f g h = rw (a, p, b, c, d, e, f, g, h)

-- ## The calls of the master

module _ (ws : List (List ℕ)) where
  pub row-search-alone : asks (ascii "search") 0 ws ≡ true → Search most_places most_bytes ≡ of_master ws
  unfolding of_master same
  row-search-alone e = rw (asks-name (ascii "search") 0 ws e, asks-fields (ascii "search") 0 ws e)

  pub row-alarm-alone : asks (ascii "alarm") 0 ws ≡ true → Alarm most_places most_bytes ≡ of_master ws
  unfolding of_master same
  row-alarm-alone e = rw (asks-name (ascii "alarm") 0 ws e, asks-fields (ascii "alarm") 0 ws e)

  pub row-search : asks (ascii "search") 2 ws ≡ true
      → lent Search (places_in (word_of ws 1)) (bytes_in (word_of ws 2)) ≡ of_master ws
  unfolding of_master same
  row-search e = rw (asks-name (ascii "search") 2 ws e, asks-fields (ascii "search") 2 ws e)

  pub row-alarm : asks (ascii "alarm") 2 ws ≡ true
      → lent Alarm (places_in (word_of ws 1)) (bytes_in (word_of ws 2)) ≡ of_master ws
  unfolding of_master same
  row-alarm e = rw (asks-name (ascii "alarm") 2 ws e, asks-fields (ascii "alarm") 2 ws e)

  pub row_read : asks (ascii "read") 1 ws ≡ true → at_code Read (code_in (word_of ws 1)) ≡ of_master ws
  unfolding of_master same
  row_read e = rw (asks-name (ascii "read") 1 ws e, asks-fields (ascii "read") 1 ws e)

  pub row_write : asks (ascii "write") 4 ws ≡ true
      → write_asked (code_in (word_of ws 1)) (three_bytes_in (word_of ws 2) (word_of ws 3) (word_of ws 4)) ≡ of_master ws
  unfolding of_master same
  row_write e = rw (asks-name (ascii "write") 4 ws e, asks-fields (ascii "write") 4 ws e)

  pub row-pins-alone : asks (ascii "pins") 0 ws ≡ true → Pins most_places ≡ of_master ws
  unfolding of_master same
  row-pins-alone e = rw (asks-name (ascii "pins") 0 ws e, asks-fields (ascii "pins") 0 ws e)

  pub row-pins : asks (ascii "pins") 1 ws ≡ true → pins_asked (places_in (word_of ws 1)) ≡ of_master ws
  unfolding of_master same
  row-pins e = rw (asks-name (ascii "pins") 1 ws e, asks-fields (ascii "pins") 1 ws e)

  pub no-master-row : asks (ascii "search") 0 ws ≡ false → asks (ascii "alarm") 0 ws ≡ false
      → asks (ascii "search") 2 ws ≡ false → asks (ascii "alarm") 2 ws ≡ false → asks (ascii "read") 1 ws ≡ false
      → asks (ascii "write") 4 ws ≡ false → asks (ascii "pins") 0 ws ≡ false → asks (ascii "pins") 1 ws ≡ false
      → Bad ≡ of_master ws
  unfolding of_master
  no-master-row a b c d e f g h = rw (a, b, c, d, e, f, g, h)
