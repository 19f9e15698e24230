-- The search finds everybody (the scope, "The master" and demand 3): on a bus of devices that meet the laws it lists
-- each code of those that take part once, in order, one in each pass; what it showed and left are the slots of those
-- passes; each pass shows the command and then allowed triples with the bits of its code. Where nobody takes part it
-- makes one pass, of the command and two reads.
--     swept_passes B command cs ds  what a search gives that lists cs: these codes, and what their passes show and leave
--     allowed t                    whether a triple is 0, 0 and either bit, or 0, 1, 0, or 1, 0, 1
--     PassShown command c l        l is the command and then allowed triples, with the bits of c as the bits sent
--     Complete ..                  all that is claimed of a search
use Rattle.std.specs.Prelude.{◌≡◌, Bool, true, ℕ, ◌+◌, ◌*◌, length}
use mathlib.Core.List.{List, ◌++◌, Permᴰ}
use Rattle.search_laws.specs.Codes.{Code, Before}
use Rattle.basic_laws.specs.Each.{Each, Pairs, Along}
use Rattle.search_laws.specs.Pass.{Triple, read_as, may_be_sent, found}
use Rattle.search_laws.specs.Wire.{Bus, ran_passes, Search, searched, passes}
use Rattle.search_laws.specs.OnTheWire.{triples_shown}

abbrev pub allowed : Triple → Bool
allowed t = may_be_sent (read_as t.bit t.co_bit) t.sent

pub record PassShown (command : List Bool) (c : Code) (l : List Bool) : Type 0 where
  pub triples : List Triple
  pub lines_are : l ≡ command ++ triples_shown triples
  pub code_is : found triples ≡ c
  pub all-allowed : Each (λ t. allowed t ≡ true) triples

pub record Complete (B : Bus) (command : List Bool) (n : ℕ) (S : List Code) (ds : B.Devices)
    (r : Search B.Devices) : Type 0 where
  pub all_listed : Permᴰ S r.codes
  pub ordered : Pairs Before r.codes
  pub passes-are : length r.lines ≡ length S
  pub slots-are : Each (λ l. length l ≡ length command + 3 * n) r.lines
  pub slots-issued : ran_passes r.lines r.devices ≡ passes B command r.codes ds
  pub frames : Along (PassShown command) r.codes r.lines

abbrev pub swept_passes : (B : Bus) → List Bool → List Code → B.Devices → Search B.Devices
swept_passes B command cs ds = searched cs (passes B command cs ds).lines (passes B command cs ds).devices
