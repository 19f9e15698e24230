-- The table row by row: where a row asks, no other does.
use Rattle.std.specs.Prelude.{ℕ, ◌≡◌, true, false, List}
use Rattle.basic_laws.specs.Same.{same}
use Rattle.text.specs.Ascii.{ascii}
use Rattle.lines.specs.Words.{word_of}
use Rattle.lines.specs.Fields.{byte_in, bit_in}
use Rattle.bench_requests.specs.Requests.{asks}
use Rattle.bench_requests.specs.RequestsLaws.{asks-name, asks-fields}
use Rattle.thermostat_session.specs.declared.requests.ProbeRequest.TheVariants.{Bad, Reset, Cycle, Status, Show}
use Rattle.thermostat_session.specs.ProbeRequests.{degrees_asked, limit_in, asked_in, start_asked, probe_slot_asked}
use Rattle.thermostat_session.specs.ProbeRequests.{finish_asked, probe_change_asked, of_probe}

module _ (ws : List (List ℕ)) where
  pub row-start : asks (ascii "start") 5 ws ≡ true
      → start_asked (limit_in (word_of ws 1)) (limit_in (word_of ws 2)) (asked_in (word_of ws 3) (word_of ws 4) (word_of ws 5))
      ≡ of_probe ws
  unfolding of_probe same
  row-start e = rw (asks-name (ascii "start") 5 ws e, asks-fields (ascii "start") 5 ws e)

  pub row-reset : asks (ascii "reset") 0 ws ≡ true → Reset ≡ of_probe ws
  unfolding of_probe same
  row-reset e = rw (asks-name (ascii "reset") 0 ws e, asks-fields (ascii "reset") 0 ws e)

  pub row-slot : asks (ascii "slot") 1 ws ≡ true → probe_slot_asked (bit_in (word_of ws 1)) ≡ of_probe ws
  unfolding of_probe same
  row-slot e = rw (asks-name (ascii "slot") 1 ws e, asks-fields (ascii "slot") 1 ws e)

  pub row-finish : asks (ascii "finish") 1 ws ≡ true → finish_asked (degrees_asked (word_of ws 1)) ≡ of_probe ws
  unfolding of_probe same
  row-finish e = rw (asks-name (ascii "finish") 1 ws e, asks-fields (ascii "finish") 1 ws e)

  pub row-cycle : asks (ascii "cycle") 0 ws ≡ true → Cycle ≡ of_probe ws
  unfolding of_probe same
  row-cycle e = rw (asks-name (ascii "cycle") 0 ws e, asks-fields (ascii "cycle") 0 ws e)

  pub row-status : asks (ascii "status") 0 ws ≡ true → Status ≡ of_probe ws
  unfolding of_probe same
  row-status e = rw (asks-name (ascii "status") 0 ws e, asks-fields (ascii "status") 0 ws e)

  pub row-change : asks (ascii "change") 4 ws ≡ true
      → probe_change_asked (byte_in (word_of ws 1)) (asked_in (word_of ws 2) (word_of ws 3) (word_of ws 4)) ≡ of_probe ws
  unfolding of_probe same
  row-change e = rw (asks-name (ascii "change") 4 ws e, asks-fields (ascii "change") 4 ws e)

  pub row-show : asks (ascii "show") 0 ws ≡ true → Show ≡ of_probe ws
  unfolding of_probe same
  row-show e = rw (asks-name (ascii "show") 0 ws e, asks-fields (ascii "show") 0 ws e)

  pub no_row : asks (ascii "start") 5 ws ≡ false → asks (ascii "reset") 0 ws ≡ false → asks (ascii "slot") 1 ws ≡ false
      → asks (ascii "finish") 1 ws ≡ false
      → asks (ascii "cycle") 0 ws ≡ false → asks (ascii "status") 0 ws ≡ false → asks (ascii "change") 4 ws ≡ false
      → asks (ascii "show") 0 ws ≡ false
      → Bad ≡ of_probe ws
  unfolding of_probe
  no_row a b c d e f g h = rw (a, b, c, d, e, f, g, h)
