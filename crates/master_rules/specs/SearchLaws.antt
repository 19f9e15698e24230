-- The ways a search can end, in the order of their tests: a list or a recording that is too short is refused whatever
-- the wire does, a held wire is refused whoever is on the bench, and with nobody there is no pass.
use Rattle.std.specs.Prelude.{ℕ, ◌<◌, ◌≤◌, Bool, true, false, List, ◌≡◌, refl, ltb}
use Rattle.std.proofs.Math.Bool.{or-true}
use Rattle.std.proofs.Common.{sym, ap}
use borrow.Author.Tests.{lt-ltb, le-ltb}
use Rattle.basic_laws.specs.LaidLaws.{laid_none}
use Rattle.refusals.specs.Refusals.{accepted, no_room, wire_busy}
use Rattle.frame.specs.Recording.{write_all}
use Rattle.bench.specs.Bench.{free}
use Rattle.bench.specs.Slot.{reset_done}
use Rattle.bench.specs.declared.Bench.{Bench}
use Rattle.master_rules.specs.Search.{fewest_places, fewest_bytes, Outcome, refused_outcome, lonely_outcome}
use Rattle.master_rules.specs.Search.{found_outcome, search_run, search_outcome, list_after, recording_after}

module _ (command : ℕ) (b : Bench) (places room : ℕ) where
  pub few-places : places < fewest_places → search_outcome command b places room ≡ refused_outcome no_room b
  unfolding search_outcome
  few-places h = rw (lt-ltb places fewest_places h)

  pub few_bytes : room < fewest_bytes → search_outcome command b places room ≡ refused_outcome no_room b
  unfolding search_outcome
  few_bytes h = rw (lt-ltb room fewest_bytes h, or-true (ltb places fewest_places))

  module _ (wide : fewest_places ≤ places) (long : fewest_bytes ≤ room) where
    pub wire-held : free b ≡ false → search_outcome command b places room ≡ refused_outcome wire_busy b
    unfolding search_outcome
    wire-held h = rw (le-ltb places fewest_places wide, le-ltb room fewest_bytes long, h)

    pub nobody-there : free b ≡ true → (reset_done b).presence ≡ false
        → search_outcome command b places room ≡ lonely_outcome (reset_done b).bench
    unfolding search_outcome
    nobody-there h p = rw (le-ltb places fewest_places wide, le-ltb room fewest_bytes long, h, p)

    pub passes-made : free b ≡ true → (reset_done b).presence ≡ true
        → search_outcome command b places room ≡ found_outcome (search_run command b)
    unfolding search_outcome
    passes-made h p = rw (le-ltb places fewest_places wide, le-ltb room fewest_bytes long, h, p)

    -- with room, on a free wire, a search is never refused
    pub search-accepted : free b ≡ true → (search_outcome command b places room).refusal ≡ accepted
    search-accepted h = by-presence (reset_done b).presence refl
      where
        by-presence : (t : Bool) → (reset_done b).presence ≡ t → (search_outcome command b places room).refusal ≡ accepted
        by-presence true e = ap (λ (o : Outcome). o.refusal) (passes-made h e)
        by-presence false e = ap (λ (o : Outcome). o.refusal) (nobody-there h e)

-- a refused search changes no place and no byte
pub refused-list : (n : ℕ) (b : Bench) (list : List ℕ) → list_after list (refused_outcome n b) ≡ list
refused-list n b list = sym (laid_none list 0)

pub refused-recording : (n : ℕ) (b : Bench) (recording : List ℕ)
    → recording_after recording (refused_outcome n b) ≡ recording
unfolding write_all
refused-recording n b recording = sym (laid_none recording 0)
