-- A search and an alarm search change nothing of any device but its stage, refused or not: `search-kept`, `alarm-kept`.
use Rattle.std.specs.Prelude.{ℕ, Bool, true, false, not, ◌||◌, map, ◌≡◌, refl, ltb}
use Rattle.std.proofs.Common.{ap, ◌∙◌}
use Rattle.std.specs.Prelude.{if◌then◌else◌}
use Rattle.commands.specs.Commands.{search_rom, alarm_search}
use Rattle.refusals.specs.Refusals.{no_room, wire_busy}
use Rattle.bench.specs.Bench.{live, free}
use Rattle.bench.proofs.Laws.{reset-cases}
use Rattle.bench.specs.Slot.{reset_done}
use Rattle.bench.specs.declared.Bench.{Bench}
use Rattle.master_rules.proofs.OnTheBench.{restarted-keeps, search-calls, search-keeps, alarm-calls, alarm-keeps}
use Rattle.master_rules.specs.Search.{fewest_places, fewest_bytes, most_passes, refused_outcome, lonely_outcome}
use Rattle.master_rules.specs.Search.{found_outcome, search_run, search_outcome}
use Rattle.master_rules.specs.Thermometers.{unstaged}

-- by what the passes of a search leave
outcome-kept : (command : ℕ) (b : Bench) (places room : ℕ)
    → (free b ≡ true → map unstaged (live (search_run command b).devices) ≡ map unstaged (live b))
    → map unstaged (live (search_outcome command b places room).bench) ≡ map unstaged (live b)
unfolding search_outcome
outcome-kept command b places room run =
    by_tests (ltb places fewest_places || ltb room fewest_bytes) (free b) refl (not (reset_done b).presence)
  where
    by_tests : (t u : Bool) → free b ≡ u → (v : Bool)
        → map unstaged (live (if t then refused_outcome no_room b else if not u then refused_outcome wire_busy b
        else if v then lonely_outcome (reset_done b).bench else found_outcome (search_run command b)).bench)
        ≡ map unstaged (live b)
    by_tests true u f v = refl
    by_tests false false f v = refl
    by_tests false true f true =
        reset-cases b (λ r. map unstaged (live r.bench) ≡ map unstaged (live b)) (λ g. restarted-keeps b) (λ g. refl)
    by_tests false true f false = run f

pub search-kept : (b : Bench) (places room : ℕ)
    → map unstaged (live (search_outcome search_rom b places room).bench) ≡ map unstaged (live b)
search-kept b places room =
    outcome-kept search_rom b places room
    (λ f. ap (λ r. map unstaged (live r.devices)) (search-calls most_passes b f) ∙ search-keeps most_passes b)

pub alarm-kept : (b : Bench) (places room : ℕ)
    → map unstaged (live (search_outcome alarm_search b places room).bench) ≡ map unstaged (live b)
alarm-kept b places room =
    outcome-kept alarm_search b places room
    (λ f. ap (λ r. map unstaged (live r.devices)) (alarm-calls most_passes b f) ∙ alarm-keeps most_passes b)
