-- In the course of a search nothing of a thermometer changes but its stage, and the codes of those who take part are theirs.
use Rattle.std.specs.Prelude.{ℕ, ◌<◌, ◌≡◌, refl, Bool, true, List, [], ◌∷◌, map}
use Rattle.std.proofs.Common.{ap, ◌∙◌}
use Rattle.basic_laws.specs.Bits.{bits_of}
use Rattle.search_laws.specs.Searchers.{participants}
use Rattle.basic_laws.specs.EachLaws.{those-all}
use Rattle.search_laws.specs.SearchersLaws.{participants-those}
use Rattle.basic_laws.specs.Each.{those}
use Rattle.search_laws.specs.Keeps.{Keeps}
use Rattle.device.specs.Hear.{hear_of}
use Rattle.device.specs.Laws.{only_moves}
use Rattle.device.proofs.Laws.{hear-only-stage}
use Rattle.device.specs.declared.Device.{Device}
use Rattle.device.specs.declared.Phase.TheVariants.{SendBit}
use Rattle.device.specs.declared.Stage.TheVariants.{Search}
use Rattle.master_rules.specs.Course.{Course}
use Rattle.master_rules.specs.Thermometers.{Moving, code_of, comes_to, numbers_of, unstaged}
use Rattle.master_rules.proofs.Thermometers.{comes-to, everybody, flagged}

-- ## Nothing but the stage changes

-- a stage of the search, or quiet: a slot moves nothing but the stage
moves-own : (j : ℕ) → j < 64 → (d : Device) → d.stage ≡ comes_to j → only_moves d.stage ≡ true
moves-own j l d h = let e : d.stage ≡ Search j SendBit = h ∙ comes-to j l in rw e

stays : (x : Bool) (d : Device) → only_moves d.stage ≡ true → unstaged (hear_of d x) ≡ unstaged d
stays x d h = ap unstaged (hear-only-stage d x h)

pub everybody-keeps : Keeps everybody unstaged
unfolding bits_of hear_of everybody
everybody-keeps = record {
  command-keeps = λ d. refl;
  own-keeps = λ j l x d h. stays x d (moves-own j l d h);
  co-keeps = λ j l x d h. stays x d (rw h);
  way-keeps = λ j l x d h. stays x d (rw h);
  out-keeps = λ x d h. stays x d (rw h);
}

pub flagged-keeps : Keeps flagged unstaged
unfolding bits_of hear_of flagged
flagged-keeps = record {
  command-keeps = λ d. refl;
  own-keeps = λ j l x d h. stays x d (moves-own j l d h);
  co-keeps = λ j l x d h. stays x d (rw h);
  way-keeps = λ j l x d h. stays x d (rw h);
  out-keeps = λ x d h. stays x d (rw h);
}

pub everybody-course : Course everybody Moving
unfolding bits_of hear_of everybody
everybody-course = record {
  at-command = λ d. (
    refl,
    (
      refl,
      (
        refl,
        (
          refl,
          (refl, (refl, (refl, (refl, (refl, (refl, (refl, (refl, (refl, (refl, (refl, (refl, tt)))))))))))),
        ),
      ),
    ),
  );
  at_own = moves-own;
  at-co = λ j l d h. rw h;
  at-way = λ j l d h. rw h;
  at_out = λ d h. rw h;
}

pub flagged-course : Course flagged Moving
unfolding bits_of hear_of flagged
flagged-course = record {
  at-command = λ d. (
    refl,
    (
      refl,
      (
        refl,
        (
          refl,
          (refl, (refl, (refl, (refl, (refl, (refl, (refl, (refl, (refl, (refl, (refl, (refl, tt)))))))))))),
        ),
      ),
    ),
  );
  at_own = moves-own;
  at-co = λ j l d h. rw h;
  at-way = λ j l d h. rw h;
  at_out = λ d h. rw h;
}

codes-bits : (ds : List Device) → map code_of ds ≡ map (bits_of 64) (numbers_of ds)
codes-bits [] = refl
codes-bits (d ∷ ds) = let i = codes-bits ds in rw i

pub everybody-codes : (ds : List Device) → participants everybody ds ≡ map (bits_of 64) (numbers_of ds)
unfolding everybody
everybody-codes ds = participants-those everybody ds
    ∙ rw (those-all (λ (d : Device). true) (λ d. refl) ds) (codes-bits ds)

pub flagged-codes : (ds : List Device) → participants flagged ds
    ≡ map (bits_of 64) (numbers_of (those (λ d. d.alarm) ds))
unfolding flagged
flagged-codes ds = participants-those flagged ds ∙ codes-bits (those (λ d. d.alarm) ds)
