-- Settings written to a device on a table, and an answer by its parts.
--     settings-keep      such a write leaves a bench that a table can hold
--     told-parts         an answer is what its two parts are
use Rattle.std.specs.Prelude.{ℕ, Bool, true, false, not, ◌≡◌, eqb}
use Rattle.std.proofs.Common.{ap, ◌∙◌}
use Rattle.std.specs.Prelude.{if◌then◌else◌}
use Rattle.refusals.specs.Refusals.{accepted}
use Rattle.text.specs.declared.laying.Written.{Written}
use Rattle.bench.specs.declared.Bench.{Bench}
use Rattle.master_rules.specs.Access.{refused_at, write_at}
use Rattle.history_laws.specs.Kept.{write_keeps}
use Rattle.settings.specs.Calls.{settings_read}
use Rattle.settings.specs.declared.Store.{Store}
use Rattle.settings.specs.Written.{settings_written}
use Rattle.packed_bench.specs.Tabled.{Tabled}
use Rattle.packed_bench.specs.ThroughLaws.{slot-keeps, reset-keeps}
use Rattle.packed_session.specs.declared.table_settings.TableTold.{TableTold}

pub settings-keep : (s : Store) (code : ℕ) (b : Bench) → Tabled b → Tabled (settings_written s b code).bench
unfolding settings_written
settings-keep s code b t = by-test (eqb (settings_read s code).refusal accepted)
  where
    by-test : (u : Bool) → Tabled (if not u then refused_at (settings_read s code).refusal b
        else write_at b code (settings_read s code).settings).bench
    by-test true = write_keeps Tabled slot-keeps reset-keeps code (settings_read s code).settings b t
    by-test false = t

pub told-parts : (w v : Written) (s r : Store) → w ≡ v → s ≡ r
    → ◌≡◌ {A = TableTold} (record { written = w; store = s }) (record { written = v; store = r })
told-parts w v s r written store =
    ap {B = TableTold} (λ (x : Written). record { written = x; store = s }) written
    ∙ ap {B = TableTold} (λ (x : Store). record { written = v; store = x }) store
