-- One return for each stage.
use Rattle.captures.proofs.pulses.end_at.Goals as goal

pub returns-in-Idle : goal.returns-in-Idle
returns-in-Idle c =
    record { answer = simp c.in-Idle.is }

pub returns-in-FirstLow : goal.returns-in-FirstLow
returns-in-FirstLow c =
    record { answer = simp c.in-FirstLow.is }

pub returns-in-Released : goal.returns-in-Released
returns-in-Released c =
    record { answer = simp c.in-Released.is }

pub returns-in-Presence : goal.returns-in-Presence
returns-in-Presence c =
    record { answer = simp c.in-Presence.is }

pub returns-in-High : goal.returns-in-High
returns-in-High c =
    record { answer = simp c.in-High.is }

pub returns-in-Low : goal.returns-in-Low
returns-in-Low c =
    record { answer = simp c.in-Low.is }
