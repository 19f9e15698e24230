-- The code's tests are the definition's.
use Rattle.naming.specs.Naming.{searches}
use borrow.Author.Tests.{eq-eqb, ne_eqb}
use Rattle.naming.proofs.is_search.Goals as goal

pub returns-then-command-eq-SEARCH_ROM : goal.returns-then-command-eq-SEARCH_ROM
unfolding searches
returns-then-command-eq-SEARCH_ROM c =
    simp (eq-eqb _ _ c.if-command-eq-SEARCH_ROM.true)

pub returns-else-command-eq-SEARCH_ROM : goal.returns-else-command-eq-SEARCH_ROM
unfolding searches
returns-else-command-eq-SEARCH_ROM c =
    simp (ne_eqb _ _ c.if-command-eq-SEARCH_ROM.false)
