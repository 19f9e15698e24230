-- What a pass of a search shows, by its slots, when it lists a code.
--     lists_code n c              a name with a code and no reading
--     PassListing code ss        the slots behind the command list the code
use Rattle.std.specs.Prelude.{ℕ, ◌^◌, ◌<◌, ◌≡◌, Bool, true, List, length}
use Rattle.refusals.specs.Refusals.{accepted}
use Rattle.rom.specs.Code.{code_bits, code_refusal}
use Rattle.naming.specs.declared.Name.{Name}
use Rattle.naming.specs.declared.Named.{Named}
use Rattle.naming.specs.Naming.{no_reading, triples_allowed, thirds}

abbrev pub lists_code : Name → ℕ → Named
lists_code n c = record { refusal = accepted; name = n; code = c; raw = 0; reading = no_reading }

-- slots that a pass shows after its command when it lists a code: allowed triples whose third bits are the code's
pub record PassListing (code : ℕ) (ss : List Bool) : Type 0 where
  pub long : length ss ≡ 192
  pub allowed : triples_allowed ss ≡ true
  pub bits_are : thirds ss ≡ code_bits code
  pub small : code < 2 ^ 64
  pub sound : code_refusal code ≡ accepted
