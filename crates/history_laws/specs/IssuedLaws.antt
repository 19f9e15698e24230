-- Resets and slots by the slot rule: what they show is what the passes of the search's laws show, and where nobody
-- holds the wire none of those that a search makes is refused, for no slot of a search makes a device busy.
--     issued-passes      the frames and the bench of the passes of some codes
--     granted-passes, granted-unheard, granted-reset      none of them is refused
use Rattle.std.specs.Prelude.{ℕ, true, List, [], ◌∷◌, map, ◌≡◌, refl}
use Rattle.std.proofs.Common.{◌∙◌}
use Rattle.basic_laws.specs.Bits.{bits_of}
use Rattle.basic_laws.specs.BitsLaws.{bits-length}
use Rattle.rom.specs.Code.{code_bits}
use Rattle.search_laws.specs.Searchers.{Searchers}
use Rattle.search_laws.specs.Wire.{passes, slots}
use Rattle.bench.specs.Slot.{presence_of, restarted}
use Rattle.bench.specs.declared.Bench.{Bench}
use Rattle.master_rules.specs.Buses.{slot_rule}
use Rattle.master_rules.specs.Course.{Course}
use Rattle.master_rules.specs.OnTheBench.{Free}
use Rattle.master_rules.proofs.OnTheBench.{free-restarted, free-pass, free-unheard}
use Rattle.master_rules.specs.Thermometers.{thermometers, Moving}
use Rattle.master_rules.specs.Search.{frame_of}
use Rattle.master_rules.specs.Issued.{issued, Granted}
use Rattle.history_laws.specs.Demand.{pass_of, unheard}
use Rattle.master_rules.proofs.IssuedLaws.{slots-presence, granted-run}

-- what some passes leave is what the passes of the laws leave
pub record SamePasses (command : ℕ) (codes : List ℕ) (b : Bench) : Type 0 where
  pub frames-are : (issued (map (pass_of command) codes) b).frames
      ≡ map frame_of (passes slot_rule (bits_of 8 command) (map code_bits codes) b).lines
  pub bench-is : (issued (map (pass_of command) codes) b).bench
      ≡ (passes slot_rule (bits_of 8 command) (map code_bits codes) b).devices

pub issued-passes : (command : ℕ) (codes : List ℕ) (b : Bench) → presence_of b ≡ true → SamePasses command codes b
unfolding issued passes
issued-passes command [] b e = record { frames-are = refl; bench-is = refl }
issued-passes command (code ∷ codes) b e =
    let r = slots slot_rule (pass_of command code) (restarted b) in
    let i = issued-passes command codes r.devices (slots-presence (pass_of command code) b ∙ e) in
    record { frames-are = rw (e, i.frames-are); bench-is = i.bench-is }

module _ (command : ℕ) (Z : Searchers thermometers (bits_of 8 command) 64) (R : Course Z Moving) where
  pub granted-passes : (codes : List ℕ) (b : Bench) → Free b → Granted (map (pass_of command) codes) b
  granted-passes [] b f = tt
  granted-passes (code ∷ codes) b f =
      granted-run (pass_of command code) (map (pass_of command) codes) b f
      (free-pass Z R b f (code_bits code) (bits-length 64 code)) (λ g. granted-passes codes _ g)

  pub granted-unheard : (b : Bench) → Free b → Granted (unheard command ∷ []) b
  granted-unheard b f = granted-run (unheard command) [] b f (free-unheard Z R b f) (λ g. tt)

-- one reset alone
pub granted-reset : (b : Bench) → Free b → Granted ([] ∷ []) b
unfolding slots
granted-reset b f = granted-run [] [] b f (record { throughout = tt; after-it = free-restarted b ∙ f }) (λ g. tt)
