-- One return for each stage.
use Rattle.captures.specs.declared.pulses.PulseStage.{PulseStage}
use Rattle.captures.specs.Rule.{after_level}
use mathlib.Core.Path.{sym, ap, ◌∙◌}
use Rattle.captures.proofs.pulses.after_level.Goals as goal

pub returns-in-Idle : goal.returns-in-Idle
returns-in-Idle c =
    let a = c.args in
    c.move_on.ensures ∙ ap (λ (s : PulseStage). after_level s a.wire a.time a.lasted)
    (sym c.in-Idle.is)

pub returns-in-FirstLow : goal.returns-in-FirstLow
returns-in-FirstLow c =
    let a = c.args in
    c.after_first_low.ensures ∙ ap (λ (s : PulseStage). after_level s a.wire a.time a.lasted)
    (sym c.in-FirstLow.is)

pub returns-in-Released : goal.returns-in-Released
returns-in-Released c =
    let a = c.args in
    c.after_release.ensures ∙ ap (λ (s : PulseStage). after_level s a.wire a.time a.lasted)
    (sym c.in-Released.is)

pub returns-in-Presence : goal.returns-in-Presence
returns-in-Presence c =
    let a = c.args in
    c.after_presence.ensures ∙ ap (λ (s : PulseStage). after_level s a.wire a.time a.lasted)
    (sym c.in-Presence.is)

pub returns-in-High : goal.returns-in-High
returns-in-High c =
    let a = c.args in
    c.move_on-in-High.ensures ∙ ap (λ (s : PulseStage). after_level s a.wire a.time a.lasted)
    (sym c.in-High.is)

pub returns-in-Low : goal.returns-in-Low
returns-in-Low c =
    let a = c.args in
    c.after_low.ensures ∙ ap (λ (s : PulseStage). after_level s a.wire a.time a.lasted)
    (sym c.in-Low.is)
