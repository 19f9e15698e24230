-- The walk over the lines that have their feed is two walks of `pieces`, one of the text and one of the report.
--     Through s p            how far the lines that have their feed go
use Rattle.std.specs.Prelude.{ℕ, List}
use Rattle.pieces.specs.Walk.{Told, Running}
use Rattle.mending.specs.Mending.{mended_bytes}
use Rattle.mending.specs.Claims.{report_said}
use Rattle.mending.specs.declared.texts.LinesMended.{LinesMended}

pub record Through (s : List ℕ) (p : LinesMended) : Type 0 where
  pub text : Told mended_bytes 1 s record { written = p.written; next = p.next }
  pub noted : Told report_said 1 s record { written = p.lines; next = p.next }

-- the walk's invariant
pub record MendingWalk (s out₀ report₀ : List ℕ) (at written lines : ℕ) (out report : List ℕ) : Type 0 where
  pub text : Running mended_bytes 1 s out₀ at written out
  pub noted : Running report_said 1 s report₀ at lines report
